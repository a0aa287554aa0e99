use Rattle.std.proofs.Common.{rules, ◌≡◌, ◌++◌, Some, Ok, Err, length, map, slice_set, sym, ap, ◌∙◌, subst}
use Rattle.c_meaning.specs.Acts.{shared}
use Rattle.c_meaning.specs.Machine.{functions_shown, frames_shown, moved_of, fork_shown, Moved, CallsNext, MakesRoom}
use Rattle.c_meaning.specs.States.{thread_shown, frames_at, FramesRoom}
use Rattle.c_meaning.proofs.StateEvents.{get_at, get_shown, set_shown, fit_get, fit_set, fit_added, shown_added, length_map, moved_event, moved_enabled}
use Rattle.c_meaning.proofs.Counts.{few_of}
use Rattle.c_meaning.proofs.state.advance_thread.Goals as goal

pub advance-requires-clause-fits : goal.advance-requires-clause-fits
advance-requires-clause-fits c =
    let ts = c.args.threads.now.items in
    let x = c.index_mut.result.now in
    fit_get c.args.code.now ts c.args.t x c.requires.fits (get_at ts c.args.t x c.requires.there c.index_mut.ensures.value)

pub advance-requires-clause-calls : goal.advance-requires-clause-calls
advance-requires-clause-calls c =
    let ts = c.args.threads.now.items in
    let x = c.index_mut.result.now in
    subst (λ z. CallsNext c.args.callee (frames_shown c.args.code.now (frames_at z))) (get_at ts c.args.t x c.requires.there c.index_mut.ensures.value) c.requires.room.calls

pub advance-requires-clause-makes : goal.advance-requires-clause-makes
advance-requires-clause-makes c =
    let ts = c.args.threads.now.items in
    let x = c.index_mut.result.now in
    subst (λ z. MakesRoom (frames_shown c.args.code.now (frames_at z)) c.args.world.now) (get_at ts c.args.t x c.requires.there c.index_mut.ensures.value) c.requires.room.makes

pub advance-requires-clause-frames : goal.advance-requires-clause-frames
advance-requires-clause-frames c =
    let ts = c.args.threads.now.items in
    let x = c.index_mut.result.now in
    subst FramesRoom (get_at ts c.args.t x c.requires.there c.index_mut.ensures.value) c.requires.room.frames

pub returns-in-Err-clause-faults : goal.returns-in-Err-clause-faults
returns-in-Err-clause-faults c =
    let T = c.args.code.now in
    let F = functions_shown T c.args.functions.now in
    let ts = c.args.threads.now.items in
    let x = c.index_mut.result.now in
    let fs = frames_shown T x.frames.items in
    let at = get_shown T ts c.args.t ∙ ap (λ z. frames_shown T (frames_at z)) (get_at ts c.args.t x c.requires.there c.index_mut.ensures.value) in
    let len : c.len-next.result ≡ length (map (thread_shown T) ts) = search (rules, length_map (thread_shown T) ts) in
    moved_enabled F (record { world = shared c.args.world.now; threads = map (thread_shown T) ts }) c.args.t fs at c.in-Err.fault (subst (λ n. Err c.in-Err.fault ≡ moved_of F n fs (shared c.args.world.now)) len c.in-Err.ensures.moves)

pub returns-in-Ok-clause-does : goal.returns-in-Ok-clause-does
returns-in-Ok-clause-does c =
    let T = c.args.code.now in
    let F = functions_shown T c.args.functions.now in
    let ts = c.args.threads.now.items in
    let x = c.index_mut.result.now in
    let fs = frames_shown T x.frames.items in
    let at = get_shown T ts c.args.t ∙ ap (λ z. frames_shown T (frames_at z)) (get_at ts c.args.t x c.requires.there c.index_mut.ensures.value) in
    let len : c.len-next.result ≡ length (map (thread_shown T) ts) = search (rules, length_map (thread_shown T) ts) in
    let m : Moved = record { action = c.in-Ok.action; world = shared c.advance.new.world; frames = frames_shown T c.advance.new.frames.items; forked = fork_shown T c.in-Ok.forked } in
    let shown = shown_added T (slice_set ts c.args.t (record { frames = c.advance.new.frames })) c.add_thread.new.threads.items c.in-Ok.forked c.add_thread.ensures.added ∙ ap (λ z. z ++ fork_shown T c.in-Ok.forked) (set_shown T ts c.args.t (record { frames = c.advance.new.frames })) in
    moved_event F (record { world = shared c.args.world.now; threads = map (thread_shown T) ts }) c.args.t fs at m (subst (λ n. Ok m ≡ moved_of F n fs (shared c.args.world.now)) len c.in-Ok.ensures.moves)
    ∙ ap (λ z. Some (Ok (c.in-Ok.action, record { world = shared c.advance.new.world; threads = z }))) (sym shown)

pub returns-in-Ok-clause-fits : goal.returns-in-Ok-clause-fits
returns-in-Ok-clause-fits c =
    let T = c.args.code.now in
    let ts = c.args.threads.now.items in
    fit_added T (slice_set ts c.args.t (record { frames = c.advance.new.frames })) c.add_thread.new.threads.items c.in-Ok.forked c.add_thread.ensures.added (fit_set T ts c.args.t (record { frames = c.advance.new.frames }) c.requires.fits c.in-Ok.ensures.fits) c.in-Ok.ensures.fork

pub returns-in-Ok-clause-blocks : goal.returns-in-Ok-clause-blocks
returns-in-Ok-clause-blocks c = (few_of (functions_shown c.args.code.now c.args.functions.now) (record { world = shared c.args.world.now; threads = map (thread_shown c.args.code.now) c.args.threads.now.items }) c.args.t c.in-Ok.action (record { world = shared c.advance.new.world; threads = map (thread_shown c.args.code.now) c.add_thread.new.threads.items }) (returns-in-Ok-clause-does c)).0.0

pub returns-in-Ok-clause-locks : goal.returns-in-Ok-clause-locks
returns-in-Ok-clause-locks c = (few_of (functions_shown c.args.code.now c.args.functions.now) (record { world = shared c.args.world.now; threads = map (thread_shown c.args.code.now) c.args.threads.now.items }) c.args.t c.in-Ok.action (record { world = shared c.advance.new.world; threads = map (thread_shown c.args.code.now) c.add_thread.new.threads.items }) (returns-in-Ok-clause-does c)).0.1
