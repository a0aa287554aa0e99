use Rattle.std.proofs.Common.{◌≡◌, drop}
use Rattle.pl_linear.specs.Nodes.{place_of}
use Rattle.pl_linear.proofs.nodes.number.Given as goal

abbrev pub invariant-loop-i : goal.invariant-loop-i
invariant-loop-i l = place_of 0 l.node l.nodes ≡ place_of l.i l.node (drop l.i l.nodes)
