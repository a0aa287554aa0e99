use Rattle.std.proofs.Common.{◌≡◌, take}
use Rattle.pl_linear.specs.Decisions.{shown}
use Rattle.pl_linear.proofs.below.shown.Given as goal

abbrev pub invariant-loop-node : goal.invariant-loop-node
invariant-loop-node l = l.out.items ≡ shown l.point (take l.node-index l.nodes)
