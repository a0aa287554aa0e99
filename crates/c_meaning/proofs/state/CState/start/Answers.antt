use Rattle.std.proofs.Common.{◌≡◌, map, ap, ◌∙◌, subst}
use Rattle.c_meaning.specs.Acts.{shared}
use Rattle.c_meaning.specs.Resolve.{place_of}
use Rattle.c_meaning.specs.Machine.{functions_shown}
use Rattle.c_meaning.specs.States.{thread_shown}
use Rattle.c_meaning.proofs.Loading.{first_of, starts}
use Rattle.c_meaning.proofs.state.CState.start.Goals as goal

pub returns-clause-state : goal.returns-clause-state
returns-clause-state c =
    let T = c.load.new.code.items in
    let fs = c.in_ok-functions.functions.items in
    let ts = c.in_ok-threads.threads.items in
    let m = c.in_ok-main.main in
    let shown = subst (λ z. map (thread_shown z) ts ≡ first_of (functions_shown z fs) m) c.as_slice-2.ensures.value (subst (λ z. map (thread_shown c.as_slice-2.result.now) ts ≡ first_of (functions_shown c.as_slice-2.result.now z) m) c.as_slice-3.ensures.value c.in_ok-threads.ensures.shown) in
    starts c.args.program.now c.args.input.now (functions_shown T fs) m _ (shared c.in_ok-first_world.field-0) (map (thread_shown T) ts) c.in_ok-functions.ensures.functions c.in_ok-name.ensures (c.in_ok-main.ensures ∙ ap (λ z. place_of (map (λ f. f.name) z) c.in_ok-name.name) c.as_slice.ensures) c.in_ok-first_world.ensures shown
