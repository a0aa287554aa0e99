use Rattle.std.proofs.Common.{◌≡◌, drop}
use Rattle.pl_linear.specs.Decisions.{differing}
use Rattle.pl_linear.proofs.differing.differing.Given as goal

abbrev pub invariant-loop-i : goal.invariant-loop-i
invariant-loop-i l = differing l.eqs l.reduct 0 l.facts ≡ differing l.eqs l.reduct l.i (drop l.i l.facts)
