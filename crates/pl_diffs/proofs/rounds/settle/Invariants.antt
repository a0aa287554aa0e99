use Rattle.std.proofs.Common.{◌<◌, ◌≤◌, ◌+◌, ◌*◌, ◌-◌, length}
use Rattle.pl_diffs.specs.Rounds.{Rounds}
use Rattle.pl_diffs.proofs.rounds.settle.Given as goal

abbrev pub invariant-loop-last : goal.invariant-loop-last
invariant-loop-last l = record {
  rounds : Rounds l.edges (length l.initial.dist) l.dist l.parent l.round;
  ahead : l.round < l.walk_at;
  near : l.walk_at ≤ 2 * length l.initial.dist + 1;
}

abbrev pub decreases-loop-last : goal.decreases-loop-last
decreases-loop-last l = 2 * length l.initial.dist + 1 - l.round
