use Rattle.std.proofs.Common.{◌≡◌, drop}
use Rattle.pl_linear.specs.Nodes.{nodes_of, with_all}
use Rattle.pl_linear.specs.Bounds.{forms_of}
use Rattle.pl_linear.proofs.nodes.all_nodes.Given as goal

abbrev pub invariant-loop-bound : goal.invariant-loop-bound
invariant-loop-bound l = nodes_of (forms_of l.bounds) ≡ with_all l.nodes.items (forms_of (drop l.bound-index l.bounds))
