use Rattle.std.proofs.Common.{◌≡◌, drop, length, ◌+◌, replicate, pos}
use Rattle.pl_linear.specs.Hints.{add_all_own}
use Rattle.pl_linear.proofs.hint.adds_up.Given as goal

abbrev pub invariant-loop-entry : goal.invariant-loop-entry
invariant-loop-entry l = record {
  long : length l.total.items ≡ l.atoms + 1;
  so_far : add_all_own l.eqs l.facts l.goal l.written (replicate (l.atoms + 1) (pos 0)) ≡ add_all_own l.eqs l.facts l.goal (drop l.entry-index l.written) l.total.items;
}
