use Rattle.std.proofs.Common.{ap, ◌∙◌, subst, slice_get}
use Rattle.c_meaning.specs.Acts.{shared}
use Rattle.c_meaning.specs.Events.{is_ended, next_of}
use Rattle.c_meaning.specs.Machine.{functions_shown}
use Rattle.c_meaning.specs.States.{frames_at, IsLast, runs, shown}
use Rattle.c_meaning.proofs.StateEvents.{unended_told}
use Rattle.c_meaning.proofs.state.CState.has_ended.Goals as goal

pub returns-in-Some : goal.returns-in-Some
returns-in-Some c =
    let T = c.self.inside.blocks.items in
    let ts = c.self.inside.threads.items in
    let F = functions_shown T c.self.inside.functions.items in
    let w = shared c.self.inside.world in
    let f = c.in-Some.field-0.now in
    let last : IsLast (frames_at (slice_get ts c.args.tid)) f = subst (λ z. IsLast z f) (c.frames_of.ensures ∙ ap (λ z. frames_at (slice_get z c.args.tid)) c.as_slice.ensures.value) c.in-Some.ensures.some in
    unended_told F T w ts c.args.tid f last ∙ ap (λ z. is_ended (next_of (runs z) (shown z) c.args.tid)) c.self.view_is
