use Rattle.std.proofs.Common.{◌≡◌, ◌∙◌, refl, Ok, Err}
use Rattle.std.proofs.lemmas.Result.{err_from_is_err_and}
use Rattle.c_syntax.specs.Plain.{plain_program}
use Rattle.pl_top.specs.declared.fetch.Fault.TheVariants.{Memory}
use Rattle.pl_top.specs.Telling.{whole, long}
use Rattle.pl_top.specs.Checks.{said}
use Rattle.pl_top.specs.Lines.{limit_file, limit_input}
use Rattle.pl_top.specs.Input.{input_of}
use Rattle.pl_top.specs.Judging.{IsCOf, JudgesRun, too_long, taken, input_too_long}
use Rattle.pl_top.specs.Calls.{none}
use Rattle.pl_top.proofs.Promises.{did_nothing, did_say, did_from, did_numbers, run_did, run_judged, reads_at, text_at}
use Rattle.pl_top.proofs.commands.run_file.Goals as goal

pub returns-in_err-file-clause-does : goal.returns-in_err-file-clause-does
returns-in_err-file-clause-does g c =
    let p = err_from_is_err_and c.from_residual.result c.from_residual.ensures.1 in
    did_nothing _ _ _ _ _ _ c.from_residual.result p.0 p.1 none c.in_err-file.ensures.same.0 c.in_err-file.ensures.same.2

pub returns-in_default-clause-does : goal.returns-in_default-clause-does
returns-in_default-clause-does g c =
    did_say _ _ _ _ _ _ _ c.say_too_long.result 10 _ (limit_file 268435457)
    (too_long (rw c.in_default.is at c.in_ok-file.ensures.takes) (c.say_too_long.ensures.same.1 ∙ c.in_ok-file.ensures.same.1))
    (c.say_too_long.ensures.same.0 ∙ c.in_ok-file.ensures.same.0) c.in_ok-file.ensures.same.2 refl c.say_too_long.ensures.whole c.say_too_long.ensures.part c.say_too_long.ensures.outward

pub returns-in_err-input-clause-does : goal.returns-in_err-input-clause-does
returns-in_err-input-clause-does g c =
    let p = err_from_is_err_and c.from_residual-in_err-input.result c.from_residual-in_err-input.ensures.1 in
    did_nothing _ _ _ _ _ _ c.from_residual-in_err-input.result p.0 p.1 none (c.in_err-input.ensures.same.0 ∙ c.in_ok-file.ensures.same.0) (c.in_err-input.ensures.same.1 ∙ c.in_ok-file.ensures.same.2)

pub returns-in_default-input-clause-does : goal.returns-in_default-input-clause-does
returns-in_default-input-clause-does g c =
    did_say _ _ _ _ _ _ _ c.say_long_input.result 10 _ limit_input
    (taken c.in-Bytes.bytes.items (rw c.in-Bytes.is at c.in_ok-file.ensures.takes) _ (input_too_long (reads_at _ _ _ _ long c.in_ok-file.ensures.same.1 c.say_long_input.ensures.same.1 (rw c.in_default-input.is at c.in_ok-input.ensures.reads))))
    (c.say_long_input.ensures.same.0 ∙ c.in_ok-input.ensures.same.0 ∙ c.in_ok-file.ensures.same.0) (c.in_ok-input.ensures.same.1 ∙ c.in_ok-file.ensures.same.2) refl c.say_long_input.ensures.whole c.say_long_input.ensures.part c.say_long_input.ensures.outward

pub returns-in-Ok-clause-does : goal.returns-in-Ok-clause-does
returns-in-Ok-clause-does g c =
    let run = c.run_program in
    let program = plain_program c.in-Ok.program in
    let is = text_at (λ b. IsCOf b program) _ _ c.as_slice.ensures.value c.in-Ok.ensures.runs.0 in
    let are = text_at (λ b. input_of b ≡ Ok c.in-Ok.numbers.items) _ _ c.as_slice-2.ensures.value c.in-Ok.ensures.runs.1 in
    run_did c.args.name.now c.in-Bytes.bytes.items c.in-Bytes-input.input.items c.args.opts.now program c.in-Ok.numbers.items _ _ _ _ _ _ run.result (rw c.in-Bytes.is at c.in_ok-file.ensures.takes) (reads_at _ _ _ _ (whole c.in-Bytes-input.input.items) c.in_ok-file.ensures.same.1 run.ensures.same (rw c.in-Bytes-input.is at c.in_ok-input.ensures.reads)) is are
    (did_numbers program _ _ c.args.opts.now _ _ _ _ run.result c.as_slice-in-Ok.ensures.value (did_from _ _ _ _ _ _ _ _ run.result (c.in_ok-input.ensures.same.0 ∙ c.in_ok-file.ensures.same.0) (c.in_ok-input.ensures.same.1 ∙ c.in_ok-file.ensures.same.2) run.ensures.does))

pub returns-in-Err-Refused-clause-does : goal.returns-in-Err-Refused-clause-does
returns-in-Err-Refused-clause-does g c =
    let arm = c.in-Err-Refused in
    let say = c.say in
    let refused = text_at (λ b. JudgesRun b c.args.opts.now c.as_slice-2.result.now (said arm.answer)) _ _ c.as_slice.ensures.value (rw arm.field-0-is at arm.ensures.refused c.args.opts.now) in
    let judged = text_at (λ b. JudgesRun c.in-Bytes.bytes.items c.args.opts.now b (said arm.answer)) _ _ c.as_slice-2.ensures.value refused in
    did_say _ _ _ _ _ _ _ say.result arm.answer.status _ arm.answer.text.items
    (run_judged c.args.name.now c.in-Bytes.bytes.items c.in-Bytes-input.input.items c.args.opts.now _ _ _ (rw c.in-Bytes.is at c.in_ok-file.ensures.takes) (reads_at _ _ _ _ (whole c.in-Bytes-input.input.items) c.in_ok-file.ensures.same.1 say.ensures.same.1 (rw c.in-Bytes-input.is at c.in_ok-input.ensures.reads)) _ judged)
    (say.ensures.same.0 ∙ c.in_ok-input.ensures.same.0 ∙ c.in_ok-file.ensures.same.0) (c.in_ok-input.ensures.same.1 ∙ c.in_ok-file.ensures.same.2) (rw arm.field-0-is at c.as_slice-in-Err-Refused.ensures.value) (rw arm.field-0-is at say.ensures.whole) say.ensures.part say.ensures.outward

pub returns-clause-does : goal.returns-clause-does
returns-clause-does g c =
    did_nothing _ _ _ _ _ _ (Err Memory) Memory refl none (c.in_ok-input.ensures.same.0 ∙ c.in_ok-file.ensures.same.0) (c.in_ok-input.ensures.same.1 ∙ c.in_ok-file.ensures.same.2)
