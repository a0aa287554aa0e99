use Rattle.std.proofs.Common.{arith, ◌≡◌, ◌<◌, ◌-◌, slice_set, length, refl, sym, ap, ◌∙◌}
use Rattle.std.specs.Prelude.{vec_len}
use Rattle.c_meaning.specs.Local.{settle, rested}
use Rattle.c_meaning.specs.Blocks.{left}
use Rattle.c_meaning.proofs.Threads.{last_fits, all_fit, resumed_is}
use Rattle.c_meaning.proofs.thread.resume.Goals as goal

pub run_local-requires-clause-fits : goal.run_local-requires-clause-fits
run_local-requires-clause-fits c =
    let fs = c.args.frames.now in
    let x = c.in-Some.frame.now in
    let len : length fs.items ≡ vec_len fs = omega (arith, fs.ok) in
    let some : 0 < vec_len fs = c.in-Some.ensures.variant.0 refl in
    last_fits c.args.code.now (vec_len fs) fs.items (slice_set fs.items (vec_len fs - 1) x) x x len some c.in-Some.ensures.value refl c.requires.fits

pub returns-clause-shown : goal.returns-clause-shown
returns-clause-shown c =
    let T = c.args.code.now in
    let fs = c.args.frames.now in
    let x = c.in-Some.frame.now in
    let len : length fs.items ≡ vec_len fs = omega (arith, fs.ok) in
    let some : 0 < vec_len fs = c.in-Some.ensures.variant.0 refl in
    resumed_is T (vec_len fs) fs.items _ x (record { spots = c.run_local.new.spots; env = c.run_local.new.env; into = x.into; child = x.child }) len some c.in-Some.ensures.value refl c.args.into c.args.answer refl refl (ap (λ z. rested (settle (left T x.spots.items) z)) (sym c.receive.ensures) ∙ c.run_local.ensures.stands)

pub returns-clause-fits : goal.returns-clause-fits
returns-clause-fits c =
    let fs = c.args.frames.now in
    let x = c.in-Some.frame.now in
    let len : length fs.items ≡ vec_len fs = omega (arith, fs.ok) in
    let some : 0 < vec_len fs = c.in-Some.ensures.variant.0 refl in
    all_fit c.args.code.now (vec_len fs) fs.items _ x (record { spots = c.run_local.new.spots; env = c.run_local.new.env; into = x.into; child = x.child }) len some c.in-Some.ensures.value refl c.requires.fits c.run_local.ensures.fits
