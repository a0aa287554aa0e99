use Rattle.std.proofs.Common.{◌≡◌, ◌-ℤ◌, map, take}
use Rattle.pl_diffs.specs.Differences.{at}
use Rattle.pl_linear.specs.Nodes.{node_form}
use Rattle.pl_linear.proofs.finding.point.Given as goal

abbrev pub invariant-loop-i : goal.invariant-loop-i
invariant-loop-i l = record {
  nodes : map (λ x. x.node) l.out.items ≡ map node_form (take l.i l.nodes);
  values : map (λ x. x.value) l.out.items ≡ map (λ x. x -ℤ at l.distances 0) (take l.i l.distances);
}
