use Rattle.std.proofs.Common.{arith, ◌≡◌, ◌<◌, ◌-◌, slice_set, length, refl}
use Rattle.std.specs.Prelude.{vec_len}
use Rattle.c_meaning.specs.Acts.{shared}
use Rattle.c_meaning.proofs.Threads.{last_fits, all_fit}
use Rattle.c_meaning.proofs.Strides.{stride_told, on_ok}
use Rattle.c_meaning.proofs.thread.stride.Goals as goal

pub event-requires-clause-fits : goal.event-requires-clause-fits
event-requires-clause-fits c =
    let fs = c.args.frames.now in
    let x = c.in-Some.frame.now in
    let len : length fs.items ≡ vec_len fs = omega (arith, fs.ok) in
    let some : 0 < vec_len fs = c.in-Some.ensures.variant.0 refl in
    last_fits c.args.code.now (vec_len fs) fs.items (slice_set fs.items (vec_len fs - 1) x) x x len some c.in-Some.ensures.value refl c.requires.fits

pub returns-clause-steps : goal.returns-clause-steps
returns-clause-steps c =
    let fs = c.args.frames.now in
    let x = c.in-Some.frame.now in
    let len : length fs.items ≡ vec_len fs = omega (arith, fs.ok) in
    let some : 0 < vec_len fs = c.in-Some.ensures.variant.0 refl in
    stride_told c.args.code.now (vec_len fs) fs.items _ x (record { spots = c.event.new.spots; env = c.event.new.env; into = x.into; child = c.event.new.child }) len some c.in-Some.ensures.value refl c.args.next c.event.result (shared c.args.world.now) (shared c.event.new.world) c.args.locals.now.items c.event.new.locals.items refl c.event.ensures.steps

pub returns-clause-fits : goal.returns-clause-fits
returns-clause-fits c =
    let fs = c.args.frames.now in
    let x = c.in-Some.frame.now in
    let len : length fs.items ≡ vec_len fs = omega (arith, fs.ok) in
    let some : 0 < vec_len fs = c.in-Some.ensures.variant.0 refl in
    on_ok c.event.result (λ h. all_fit c.args.code.now (vec_len fs) fs.items _ x (record { spots = c.event.new.spots; env = c.event.new.env; into = x.into; child = c.event.new.child }) len some c.in-Some.ensures.value refl c.requires.fits h) c.event.ensures.fits
