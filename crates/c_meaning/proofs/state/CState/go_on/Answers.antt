use Rattle.std.proofs.Common.{sym, ap, ◌∙◌, subst, slice_get}
use Rattle.c_meaning.specs.Machine.{functions_shown}
use Rattle.c_meaning.specs.States.{HasRoom}
use Rattle.c_meaning.proofs.state.CState.go_on.Goals as goal

pub advance_thread-requires-clause-room : goal.advance_thread-requires-clause-room
advance_thread-requires-clause-room c =
    let T = c.self.inside.blocks.items in
    let o = slice_get c.self.inside.threads.items c.args.tid in
    let w = c.self.inside.world in
    let callee = c.self.inside.callee in
    let spare = c.self.inside.spare in
    let room = c.self.invariant.room c.args.tid (ap (λ z. z.ready) c.self.view_is ∙ c.requires.room) in
    subst (λ z. HasRoom z (functions_shown z c.as_slice-2.result.now) o w callee spare) (sym c.as_slice.ensures.value)
    (subst (λ z. HasRoom T (functions_shown T z) o w callee spare) (sym c.as_slice-2.ensures.value) room)
