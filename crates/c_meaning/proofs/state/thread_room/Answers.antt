use Rattle.std.proofs.Common.{sym, ◌∙◌, subst, slice_get}
use Rattle.c_meaning.specs.Acts.{shared}
use Rattle.c_meaning.specs.States.{frames_at, IsLast}
use Rattle.c_meaning.proofs.Waits.{ended_told, waits_of}
use Rattle.c_meaning.proofs.state.thread_room.Goals as goal

pub returns-in-None-clause-waits : goal.returns-in-None-clause-waits
returns-in-None-clause-waits c = λ F. ended_told F c.args.code.now (shared c.args.world.now) c.args.threads.now c.args.t (sym c.frames_of.ensures ∙ c.in-None.ensures.none)

pub returns-in-Some-clause-waits : goal.returns-in-Some-clause-waits
returns-in-Some-clause-waits c =
    let f = c.in-Some.frame.now in
    let last : IsLast (frames_at (slice_get c.args.threads.now c.args.t)) f = subst (λ z. IsLast z f) c.frames_of.ensures c.in-Some.ensures.some in
    waits_of c.args.code.now (shared c.args.world.now) c.args.threads.now c.args.t f last c.block_room.result c.block_room.ensures.waits
