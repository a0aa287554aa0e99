use Rattle.std.proofs.Common.{◌-◌, length}
use Rattle.pl_diffs.specs.Walk.{Walk}
use Rattle.pl_diffs.proofs.walk.cycle_from.Given as goal

abbrev pub invariant-loop-node : goal.invariant-loop-node
invariant-loop-node l = Walk l.edges l.parent l.place.items l.trail.items l.last l.node

abbrev pub decreases-loop-node : goal.decreases-loop-node
decreases-loop-node l = length l.parent - length l.trail.items
