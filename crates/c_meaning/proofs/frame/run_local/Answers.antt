use Rattle.std.proofs.Common.{arith, ◌<◌, sym, ap, ◌∙◌, subst}
use Rattle.std.specs.Prelude.{vec_capacity}
use Rattle.c_meaning.specs.Blocks.{left, Kept, ops_at, move_of, spots_after}
use Rattle.c_meaning.proofs.Lefts.{get_below}
use Rattle.c_meaning.proofs.Runs.{turn_end, turn_room, turn_move, turn_rests, turn_less, Weight}
use Rattle.c_meaning.proofs.frame.run_local.Goals as goal

pub places-preserved-in_default-op_at : goal.places-preserved-in_default-op_at
places-preserved-in_default-op_at c =
    ((turn_end _ c.requires.table _ _ _ _ _ _ _ c.in-Some.ensures.items c.places.invariant.0 c.in_default-op_at.ensures.none).0, c.pop.ensures.capacity ∙ c.places.invariant.1)

pub places-smaller-in_default-op_at : goal.places-smaller-in_default-op_at
places-smaller-in_default-op_at c =
    (turn_end _ c.requires.table _ _ _ _ _ _ _ c.in-Some.ensures.items c.places.invariant.0 c.in_default-op_at.ensures.none).1

pub apply-requires-clause-at : goal.apply-requires-clause-at
apply-requires-clause-at c =
    let below = get_below (ops_at c.args.code.now c.in-Some.spot.block) c.in-Some.spot.at c.in-Some-op_at.op.now c.in-Some-op_at.ensures.some in
    omega (arith, below, c.requires.table.few c.in-Some.spot.block)

pub apply-requires-clause-room : goal.apply-requires-clause-room
apply-requires-clause-room c =
    let room = turn_room _ c.requires.table _ _ _ _ _ _ _ c.in-Some.ensures.items c.places.invariant.0 _ c.in-Some-op_at.ensures.some _ (c.choose-what.ensures ∙ ap (move_of c.in-Some.spot.checks c.in-Some-op_at.op.now) c.as_slice.ensures.value) in
    omega (arith, room, c.pop.new.self.ok, c.pop.ensures.capacity, c.places.invariant.1)

pub returns-then-not-moves-clause-stands : goal.returns-then-not-moves-clause-stands
returns-then-not-moves-clause-stands c =
    turn_rests _ c.requires.table _ _ _ _ _ _ _ c.in-Some.ensures.items c.places.invariant.0 _ c.in-Some-op_at.ensures.some _ (c.choose-what.ensures ∙ ap (move_of c.in-Some.spot.checks c.in-Some-op_at.op.now) c.as_slice.ensures.value) (sym c.moves.ensures ∙ c.if-not-moves.true) ∙ cc (c.apply.ensures.env, c.apply.ensures.spots)

pub places-smaller : goal.places-smaller
places-smaller c =
    let less = turn_less _ c.requires.table _ _ _ _ _ _ _ c.in-Some.ensures.items c.places.invariant.0 _ c.in-Some-op_at.ensures.some _ (c.choose-what.ensures ∙ ap (move_of c.in-Some.spot.checks c.in-Some-op_at.op.now) c.as_slice.ensures.value) (sym c.moves.ensures ∙ c.if-not-moves.false) in
    subst (λ z. Weight c.args.code.now z < Weight c.args.code.now c.places.spots.items) (sym c.apply.ensures.spots) less

pub places-preserved : goal.places-preserved
places-preserved c =
    let K = Kept c.args.code.now (vec_capacity c.args.spots.now) (left c.args.code.now c.args.spots.now.items) c.args.env.now.items in
    let move = turn_move _ c.requires.table _ _ _ _ _ _ _ c.in-Some.ensures.items c.places.invariant.0 _ c.in-Some-op_at.ensures.some _ (c.choose-what.ensures ∙ ap (move_of c.in-Some.spot.checks c.in-Some-op_at.op.now) c.as_slice.ensures.value) in
    (subst (λ z. K z c.apply.new.env.items) (sym c.apply.ensures.spots) (subst (λ z. K (spots_after c.choose-what.result c.pop.new.self.items c.in-Some.spot) z) (sym c.apply.ensures.env) move), c.apply.ensures.capacity ∙ (c.pop.ensures.capacity ∙ c.places.invariant.1))
