use Rattle.std.proofs.Common.{◌≡◌, replicate, rules, pos, None}
use Rattle.std.proofs.lemmas.List.{length-replicate}
use Rattle.pl_diffs.proofs.Solving.{rounds_start}
use Rattle.pl_diffs.proofs.solve.Goals as goal

pub settle-requires-clause-start : goal.settle-requires-clause-start
settle-requires-clause-start c =
    let d : c.in_ok-dist.dist.items ≡ replicate c.args.nodes (pos 0) = c.in_ok-dist.ensures.items_if_clones_equal (search rules) in
    let p : c.in_ok-parent.parent.items ≡ replicate c.args.nodes None = c.in_ok-parent.ensures.items_if_clones_equal (search rules) in
    rw (c.deref_mut.ensures.value, c.deref_mut-2.ensures.value, d, p, length-replicate c.args.nodes (pos 0)) (rounds_start c.args.edges.now c.args.nodes)
