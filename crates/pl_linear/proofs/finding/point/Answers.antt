use Rattle.std.proofs.Common.{◌≡◌, ◌-ℤ◌, pos, Some, length, slice_get, refl, ap, arith}
use Rattle.std.proofs.lemmas.Option.{slice_get_read, slice_get-get_or}
use Rattle.pl_diffs.specs.Differences.{at}
use Rattle.pl_linear.specs.declared.found.NodeValue.{NodeValue}
use Rattle.pl_linear.specs.Nodes.{node_form}
use Rattle.pl_linear.proofs.Outcomes.{mapped_more}
use Rattle.pl_linear.proofs.finding.point.Goals as goal

pub loop-i-preserved : goal.loop-i-preserved
loop-i-preserved c =
    let node : slice_get c.args.nodes.now c.loop-i.i ≡ Some c.index-nodes-i.result = slice_get_read c.args.nodes.now (length c.args.nodes.now) c.loop-i.i c.index-nodes-i.result refl c.loop-i-test.true c.index-nodes-i.is in
    let distance : slice_get c.args.distances.now c.loop-i.i ≡ Some (at c.args.distances.now c.loop-i.i) = slice_get-get_or c.args.distances.now c.loop-i.i (pos 0) (omega (arith, c.requires.lengths, c.loop-i-test.true)) in
    record {
      nodes = mapped_more (λ (v : NodeValue). v.node) node_form c.loop-i.out.items c.push.new.self.items c.in_ok-entry.entry c.args.nodes.now c.loop-i.i c.index-nodes-i.result c.in_ok-push.ensures.items node (ap (λ (v : NodeValue). v.node) c.in_ok-entry.ensures) c.loop-i.invariant.nodes;
      values = mapped_more (λ (v : NodeValue). v.value) (λ y. y -ℤ at c.args.distances.now 0) c.loop-i.out.items c.push.new.self.items c.in_ok-entry.entry c.args.distances.now c.loop-i.i (at c.args.distances.now c.loop-i.i) c.in_ok-push.ensures.items distance (ap (λ (v : NodeValue). v.value) c.in_ok-entry.ensures) c.loop-i.invariant.values;
    }
