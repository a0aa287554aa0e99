use Rattle.std.proofs.Common.{◌≡◌, length, map, ap, ◌∙◌, subst, slice_get}
use Rattle.c_meaning.specs.Acts.{shared}
use Rattle.c_meaning.specs.Events.{next_of, next_by, atomic_at, event_of_frame}
use Rattle.c_meaning.specs.Machine.{functions_shown, frame_shown}
use Rattle.c_meaning.specs.States.{thread_shown, frames_at, IsLast, runs, shown}
use Rattle.c_meaning.proofs.StateEvents.{next_told}
use Rattle.c_meaning.proofs.state.CState.next_action.Goals as goal

pub returns-in-Some : goal.returns-in-Some
returns-in-Some c =
    let T = c.self.inside.blocks.items in
    let ts = c.self.inside.threads.items in
    let F = functions_shown T c.self.inside.functions.items in
    let w = shared c.self.inside.world in
    let f = c.in-Some.frame.now in
    let n = length (map (thread_shown T) ts) in
    let last : IsLast (frames_at (slice_get ts c.args.tid)) f = subst (λ z. IsLast z f) (c.frames_of.ensures ∙ ap (λ z. frames_at (slice_get z c.args.tid)) c.as_slice.ensures.value) c.in-Some.ensures.some in
    let e = subst (λ z. c.next_of_frame.result ≡ next_by (atomic_at (frame_shown z f).left) (event_of_frame F n (frame_shown z f) w)) c.as_slice-in-Some.ensures.value (c.next_of_frame.ensures F n) in
    e ∙ (next_told F T w ts c.args.tid f last ∙ ap (λ z. next_of (runs z) (shown z) c.args.tid) c.self.view_is)
