use Rattle.std.proofs.Common.{◌≡◌, map, take}
use Rattle.pl_linear.specs.Nodes.{edge_of}
use Rattle.pl_linear.specs.Bounds.{forms_of}
use Rattle.pl_linear.proofs.nodes.all_edges.Given as goal

abbrev pub invariant-loop-bound : goal.invariant-loop-bound
invariant-loop-bound l = l.edges.items ≡ map (edge_of l.nodes) (forms_of (take l.bound-index l.bounds))
