use Rattle.std.proofs.Common.{◌≡◌, length, arith, refl, ◌∙◌}
use Rattle.pl_diffs.proofs.Walks.{walk_step, walk_room, walk_closed, walk_rooted, walk_read}
use Rattle.pl_diffs.proofs.walk.cycle_from.Goals as goal

pub in_order-requires : goal.in_order-requires
in_order-requires c =
    let q = walk_read _ _ _ _ _ _ _ c.loop-node.invariant c.index.ensures ∙ c.in-Some-index.is in
    let s = c.loop-node.invariant.short c.loop-node.node c.in-Some-index.start c.loop-node.invariant.inside q in
    omega (arith, c.deref.ensures.len)

pub returns-in-Some-index : goal.returns-in-Some-index
returns-in-Some-index c =
    let q = walk_read _ _ _ _ _ _ _ c.loop-node.invariant c.index.ensures ∙ c.in-Some-index.is in
    walk_closed _ _ _ _ _ _ _ _ c.loop-node.invariant q (rw c.deref.ensures.value at c.in_ok-in_order.ensures)

pub loop-node-smaller : goal.loop-node-smaller
loop-node-smaller c =
    let q = walk_read _ _ _ _ _ _ _ c.loop-node.invariant c.index.ensures ∙ c.in_default-index.is in
    let r = walk_room _ _ _ _ _ _ c.loop-node.invariant q in
    omega (arith, c.in_ok-push.ensures.len)

pub loop-node-preserved : goal.loop-node-preserved
loop-node-preserved c =
    let q = walk_read _ _ _ _ _ _ _ c.loop-node.invariant c.index.ensures ∙ c.in_default-index.is in
    let items = c.in_ok-push.ensures.items in
    let n : c.len.result ≡ length c.loop-node.trail.items = omega (arith, c.len.ensures) in
    let hi = c.requires.parents c.loop-node.node c.in-Some.i c.loop-node.invariant.inside c.in-Some.is in
    rw (items, n) (walk_step c.args.edges.now (length c.args.parent.now) c.args.parent.now c.loop-node.place.items c.loop-node.trail.items c.args.last c.loop-node.node c.in-Some.i c.requires.ends refl c.loop-node.invariant q c.in-Some.is hi)

pub returns : goal.returns
returns c = walk_rooted _ _ _ _ _ _ c.loop-node.invariant c.in_default.is
