use Rattle.std.proofs.Common.{sym, ap, ◌∙◌, subst}
use Rattle.std.specs.Prelude.{OnOk}
use Rattle.c_meaning.specs.Machine.{AllFit}
use Rattle.c_meaning.specs.States.{FramesRoom, frames_at}
use Rattle.c_meaning.proofs.StateEvents.{get_at, get_set, shown_same, fit_get, fit_set}
use Rattle.c_meaning.proofs.state.frame_room.Goals as goal

pub returns-clause-shown : goal.returns-clause-shown
returns-clause-shown c = λ T.
    let ts = c.args.threads.now.items in
    let x = c.index_mut.result.now in
    shown_same T ts c.args.t x (record { frames = c.reserve_one.new.list }) (get_at ts c.args.t x c.requires c.index_mut.ensures.value) c.reserve_one.ensures.items

pub returns-clause-fits : goal.returns-clause-fits
returns-clause-fits c = λ T h.
    let ts = c.args.threads.now.items in
    let x = c.index_mut.result.now in
    fit_set T ts c.args.t (record { frames = c.reserve_one.new.list }) h (subst (AllFit T) (sym c.reserve_one.ensures.items) (fit_get T ts c.args.t x h (get_at ts c.args.t x c.requires c.index_mut.ensures.value)))

pub returns-clause-frames : goal.returns-clause-frames
returns-clause-frames c =
    let ts = c.args.threads.now.items in
    let x = c.index_mut.result.now in
    ap frames_at (get_set ts c.args.t (record { frames = c.reserve_one.new.list }) c.requires) ∙ (c.reserve_one.ensures.items ∙ sym (ap frames_at (get_at ts c.args.t x c.requires c.index_mut.ensures.value)))

pub returns-clause-room : goal.returns-clause-room
returns-clause-room c =
    subst (λ z. OnOk c.reserve_one.result (FramesRoom z)) (sym (get_set c.args.threads.now.items c.args.t (record { frames = c.reserve_one.new.list }) c.requires)) c.reserve_one.ensures.room
