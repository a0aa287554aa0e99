use Rattle.std.proofs.Common.{◌≡◌, ◌≤◌, drop, length}
use Rattle.pl_linear.specs.Witnesses.{is_strict}
use Rattle.pl_linear.proofs.confirming.is_strict.Given as goal

abbrev pub invariant-loop-eq : goal.invariant-loop-eq
invariant-loop-eq l = record {
  so_far : is_strict l.eqs l.terms ≡ is_strict (drop l.eq-index l.eqs) (drop l.next l.terms);
  within : l.next ≤ length l.terms;
}
