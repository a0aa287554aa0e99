use Rattle.std.proofs.Common.{◌≡◌, drop, map}
use Rattle.pl_linear.specs.Nodes.{place_of}
use Rattle.pl_linear.proofs.below.value_at.Given as goal

abbrev pub invariant-loop-i : goal.invariant-loop-i
invariant-loop-i l = place_of 0 l.node (map (λ v. v.node.parts) l.point) ≡ place_of l.i l.node (map (λ v. v.node.parts) (drop l.i l.point))
