use Rattle.std.proofs.Common.{ap, ◌∙◌, subst}
use Rattle.c_meaning.specs.Blocks.{left}
use Rattle.c_meaning.specs.Plain.{plain_basic}
use Rattle.c_meaning.specs.Acts.{shared}
use Rattle.c_meaning.specs.Events.{blank, called, own_of}
use Rattle.c_meaning.specs.Machine.{AtOp, frame_shown}
use Rattle.c_meaning.specs.Touching.{touching}
use Rattle.c_meaning.proofs.Touched.{next_do, next_told}
use Rattle.c_meaning.proofs.state.next_of_frame.Goals as goal

pub returns-in-Ok : goal.returns-in-Ok
returns-in-Ok c = λ F n.
    let T = c.args.code.now in
    let f = frame_shown T c.args.frame.now in
    let at = subst (λ z. AtOp T (left T z) c.in-Some-default-Do.field-0-0 c.in-Some-default-Do.field-0-1.now) c.as_slice.ensures.value c.in-Some-default-Do.ensures.some in
    let told = ap next_told (c.in-Ok.ensures ∙ ap (λ z. touching (plain_basic c.in-Some-default-Do.basic) (record { env = z; child = c.args.frame.now.child }) (shared c.args.world.now)) c.as_slice-env.ensures.value) in
    told ∙ next_do T n (blank (called F f.left)) (own_of f) (shared c.args.world.now) f.left c.in-Some-default-Do.field-0-0 c.in-Some-default-Do.field-0-1.now at c.in-Some-default-Do.basic c.in-Some-default-Do.field-0-1-is

pub returns-in-Err : goal.returns-in-Err
returns-in-Err c = λ F n.
    let T = c.args.code.now in
    let f = frame_shown T c.args.frame.now in
    let at = subst (λ z. AtOp T (left T z) c.in-Some-default-Do.field-0-0 c.in-Some-default-Do.field-0-1.now) c.as_slice.ensures.value c.in-Some-default-Do.ensures.some in
    let told = ap next_told (c.in-Err.ensures ∙ ap (λ z. touching (plain_basic c.in-Some-default-Do.basic) (record { env = z; child = c.args.frame.now.child }) (shared c.args.world.now)) c.as_slice-env.ensures.value) in
    told ∙ next_do T n (blank (called F f.left)) (own_of f) (shared c.args.world.now) f.left c.in-Some-default-Do.field-0-0 c.in-Some-default-Do.field-0-1.now at c.in-Some-default-Do.basic c.in-Some-default-Do.field-0-1-is
