use Rattle.std.proofs.Common.{◌≡◌, ◌≤◌, drop}
use Rattle.pl_linear.specs.Hints.{past}
use Rattle.pl_linear.proofs.hint.past_limit.Given as goal

abbrev pub invariant-loop-term : goal.invariant-loop-term
invariant-loop-term l = record {
  so_far : past l.hint 0 ≡ past (drop l.term-index l.hint) l.labels;
  few : l.labels ≤ 4096;
}
