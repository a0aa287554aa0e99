use Rattle.std.proofs.Common.{◌≡◌, drop}
use Rattle.pl_linear.specs.Witnesses.{all_strict}
use Rattle.pl_linear.proofs.confirming.all_strict.Given as goal

abbrev pub invariant-loop-item : goal.invariant-loop-item
invariant-loop-item l = all_strict l.eqs l.items ≡ all_strict l.eqs (drop l.item-index l.items)
