use Rattle.std.proofs.Common.{arith, ◌≡◌, ◌∷◌, ◌++◌, [], sym, ap, ◌∙◌, subst}
use Rattle.std.specs.Prelude.{vec_capacity}
use Rattle.c_meaning.specs.Values.{eval}
use Rattle.c_meaning.specs.Plain.{plain_term}
use Rattle.c_meaning.specs.Events.{faulted}
use Rattle.c_meaning.specs.Blocks.{fits, first}
use Rattle.c_meaning.specs.Acts.{shared}
use Rattle.c_meaning.proofs.FrameEvents.{checking, below, one_room, two_room, past_fits, turn_fits, do_room, do_faults, do_steps, let_faults, if_faults, test_faults, turn_steps}
use Rattle.c_meaning.proofs.thread.event.Goals as goal

pub act-requires-clause-block : goal.act-requires-clause-block
act-requires-clause-block c =
    do_room c.args.code.now c.requires.table (vec_capacity c.args.spots.now) c.args.spots.now.items c.take_place.new.spots.items c.in-Some.spot c.in-Some.op.now c.in-Some.ensures.some c.in-Do.basic c.in-Do.is c.args.env.now.items c.args.world.now c.requires.block

pub after-requires : goal.after-requires
after-requires c = below c.args.code.now c.requires.table (vec_capacity c.args.spots.now) c.args.spots.now.items c.take_place.new.spots.items c.in-Some.spot c.in-Some.op.now c.in-Some.ensures.some

pub push_reserved-requires : goal.push_reserved-requires
push_reserved-requires c =
    let room = one_room c.args.code.now c.requires.table (vec_capacity c.args.spots.now) c.args.spots.now.items c.take_place.new.spots.items c.in-Some.spot c.in-Some.op.now c.in-Some.ensures.some in
    omega (arith, room, c.take_place.new.spots.ok, c.take_place.ensures.capacity)

pub push_reserved-requires-in-While : goal.push_reserved-requires-in-While
push_reserved-requires-in-While c =
    let room = one_room c.args.code.now c.requires.table (vec_capacity c.args.spots.now) c.args.spots.now.items c.take_place.new.spots.items c.in-Some.spot c.in-Some.op.now c.in-Some.ensures.some in
    omega (arith, room, c.take_place.new.spots.ok, c.take_place.ensures.capacity)

pub push_reserved-requires-in-While-2 : goal.push_reserved-requires-in-While-2
push_reserved-requires-in-While-2 c =
    let room = two_room c.args.code.now c.requires.table (vec_capacity c.args.spots.now) c.args.spots.now.items c.take_place.new.spots.items c.in-Some.spot c.in-Some.op.now c.in-Some.ensures.some c.in-While.loads c.in-While.e c.in-While.field-2 c.in-While.is c.if-spot.false in
    omega (arith, room, c.take_place.new.spots.ok, c.take_place.ensures.capacity, c.push_reserved-in-While.ensures.len, c.push_reserved-in-While.ensures.capacity)

pub returns-in-Err-clause-steps : goal.returns-in-Err-clause-steps
returns-in-Err-clause-steps c =
    do_faults c.args.code.now c.requires.table (vec_capacity c.args.spots.now) c.args.spots.now.items c.take_place.new.spots.items c.in-Some.spot c.in-Some.op.now c.in-Some.ensures.some c.in-Do.basic c.in-Do.is c.args.next c.args.locals.now.items (record { env = c.args.env.now.items; child = c.args.child.now }) (shared c.args.world.now) c.in-Err.fault c.in-Err.ensures

pub returns-in-Ok-clause-steps : goal.returns-in-Ok-clause-steps
returns-in-Ok-clause-steps c =
    do_steps c.args.code.now c.requires.table (vec_capacity c.args.spots.now) c.args.spots.now.items c.take_place.new.spots.items c.in-Some.spot c.in-Some.op.now c.in-Some.ensures.some c.in-Do.basic c.in-Do.is c.args.next c.args.locals.now.items (record { env = c.args.env.now.items; child = c.args.child.now }) (shared c.args.world.now) _ c.in-Ok.ensures c.push_reserved.new.self.items (c.push_reserved.ensures.items ∙ ap (λ z. c.take_place.new.spots.items ++ z ∷ []) c.after.ensures)

pub returns-in-Ok-clause-fits : goal.returns-in-Ok-clause-fits
returns-in-Ok-clause-fits c =
    let room = c.push_reserved.ensures.capacity ∙ c.take_place.ensures.capacity in
    let spots = c.push_reserved.ensures.items ∙ ap (λ z. c.take_place.new.spots.items ++ z ∷ []) c.after.ensures in
    subst (λ z. fits c.args.code.now 0 z c.push_reserved.new.self.items) (sym room) (subst (fits c.args.code.now 0 (vec_capacity c.args.spots.now)) (sym spots) (past_fits c.args.code.now c.requires.table (vec_capacity c.args.spots.now) c.args.spots.now.items c.take_place.new.spots.items c.in-Some.spot c.in-Some.op.now c.in-Some.ensures.some))

pub returns-then-spot-clause-steps : goal.returns-then-spot-clause-steps
returns-then-spot-clause-steps c =
    test_faults c.args.code.now c.requires.table (vec_capacity c.args.spots.now) c.args.spots.now.items c.take_place.new.spots.items c.in-Some.spot c.in-Some.op.now c.in-Some.ensures.some c.args.next c.args.locals.now.items (record { env = c.args.env.now.items; child = c.args.child.now }) (shared c.args.world.now) c.stuck.result c.in-While.loads c.in-While.e c.in-While.field-2 c.in-While.is c.if-spot.true (c.stuck.ensures ∙ ap (λ z. faulted (eval z (plain_term c.in-While.e))) c.deref.ensures.value)

pub returns-in-Let-clause-steps : goal.returns-in-Let-clause-steps
returns-in-Let-clause-steps c =
    let_faults c.args.code.now c.requires.table (vec_capacity c.args.spots.now) c.args.spots.now.items c.take_place.new.spots.items c.in-Some.spot c.in-Some.op.now c.in-Some.ensures.some c.args.next c.args.locals.now.items (record { env = c.args.env.now.items; child = c.args.child.now }) (shared c.args.world.now) c.stuck-in-Let.result c.in-Let.field-0 c.in-Let.e c.in-Let.is (c.stuck-in-Let.ensures ∙ ap (λ z. faulted (eval z (plain_term c.in-Let.e))) c.deref-in-Let.ensures.value)

pub returns-in-If-clause-steps : goal.returns-in-If-clause-steps
returns-in-If-clause-steps c =
    if_faults c.args.code.now c.requires.table (vec_capacity c.args.spots.now) c.args.spots.now.items c.take_place.new.spots.items c.in-Some.spot c.in-Some.op.now c.in-Some.ensures.some c.args.next c.args.locals.now.items (record { env = c.args.env.now.items; child = c.args.child.now }) (shared c.args.world.now) c.stuck-in-If.result c.in-If.e c.in-If.field-1 c.in-If.field-2 c.in-If.is (c.stuck-in-If.ensures ∙ ap (λ z. faulted (eval z (plain_term c.in-If.e))) c.deref-in-If.ensures.value)

pub returns-else-spot-clause-steps : goal.returns-else-spot-clause-steps
returns-else-spot-clause-steps c =
    let spots = c.push_reserved-in-While-2.ensures.items ∙ cc (c.push_reserved-in-While.ensures.items, c.first_of.ensures) in
    turn_steps c.args.code.now c.requires.table (vec_capacity c.args.spots.now) c.args.spots.now.items c.take_place.new.spots.items c.in-Some.spot c.in-Some.op.now c.in-Some.ensures.some c.in-While.loads c.in-While.e c.in-While.field-2 c.in-While.is c.if-spot.false c.args.next c.args.locals.now.items (record { env = c.args.env.now.items; child = c.args.child.now }) (shared c.args.world.now) c.push_reserved-in-While-2.new.self.items spots

pub returns-else-spot-clause-fits : goal.returns-else-spot-clause-fits
returns-else-spot-clause-fits c =
    let spots : c.push_reserved-in-While-2.new.self.items ≡ (c.take_place.new.spots.items ++ checking c.in-Some.spot ∷ []) ++ first c.in-While.loads ∷ [] = c.push_reserved-in-While-2.ensures.items ∙ cc (c.push_reserved-in-While.ensures.items, c.first_of.ensures) in
    let room = c.push_reserved-in-While-2.ensures.capacity ∙ (c.push_reserved-in-While.ensures.capacity ∙ c.take_place.ensures.capacity) in
    subst (λ z. fits c.args.code.now 0 z c.push_reserved-in-While-2.new.self.items) (sym room) (subst (fits c.args.code.now 0 (vec_capacity c.args.spots.now)) (sym spots) (turn_fits c.args.code.now c.requires.table (vec_capacity c.args.spots.now) c.args.spots.now.items c.take_place.new.spots.items c.in-Some.spot c.in-Some.op.now c.in-Some.ensures.some c.in-While.loads c.in-While.e c.in-While.field-2 c.in-While.is c.if-spot.false))
