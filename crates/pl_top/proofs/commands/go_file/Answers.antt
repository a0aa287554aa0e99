use Rattle.std.proofs.Common.{◌≡◌, ◌∙◌, refl, Ok, Err}
use Rattle.std.proofs.lemmas.Result.{err_from_is_err_and}
use Rattle.c_syntax.specs.Plain.{plain_program}
use Rattle.pl_top.specs.declared.fetch.Fault.TheVariants.{Memory}
use Rattle.pl_top.specs.Telling.{whole, long}
use Rattle.pl_top.specs.Checks.{said}
use Rattle.pl_top.specs.Lines.{limit_file, limit_input}
use Rattle.pl_top.specs.Input.{input_of}
use Rattle.pl_top.specs.Judging.{put_text, JudgesGo, too_long, taken, input_too_long}
use Rattle.pl_top.specs.Calls.{none, go_text}
use Rattle.pl_top.specs.Goes.{IsProgramOf}
use Rattle.pl_top.proofs.Delivered.{puts_from, others_at}
use Rattle.pl_top.proofs.Promises.{counted_in, counted_out, did_nothing, did_say, did_not_put, did_behind, did_from, did_numbers, go_did, go_judged, reads_at, text_at, same_in}
use Rattle.pl_top.proofs.commands.go_file.Goals as goal

pub returns-in_err-file-clause-does : goal.returns-in_err-file-clause-does
returns-in_err-file-clause-does g c =
    let p = err_from_is_err_and c.from_residual.result c.from_residual.ensures.1 in
    did_nothing _ _ _ _ _ _ c.from_residual.result p.0 p.1 none c.in_err-file.ensures.same.0 c.in_err-file.ensures.same.2

pub returns-in_default-clause-does : goal.returns-in_default-clause-does
returns-in_default-clause-does g c =
    did_say _ _ _ _ _ _ _ c.say_too_long.result 10 _ (limit_file 1048577)
    (too_long (rw c.in_default.is at c.in_ok-file.ensures.takes) (c.say_too_long.ensures.same.1 ∙ c.in_ok-file.ensures.same.1))
    (c.say_too_long.ensures.same.0 ∙ c.in_ok-file.ensures.same.0) c.in_ok-file.ensures.same.2 refl c.say_too_long.ensures.whole c.say_too_long.ensures.part c.say_too_long.ensures.outward

pub returns-in_err-input-clause-does : goal.returns-in_err-input-clause-does
returns-in_err-input-clause-does g c =
    let p = err_from_is_err_and c.from_residual-in_err-input.result c.from_residual-in_err-input.ensures.1 in
    did_nothing _ _ _ _ _ _ c.from_residual-in_err-input.result p.0 p.1 none (c.in_err-input.ensures.same.0 ∙ c.in_ok-file.ensures.same.0) (c.in_err-input.ensures.same.1 ∙ c.in_ok-file.ensures.same.2)

pub returns-in_default-input-clause-does : goal.returns-in_default-input-clause-does
returns-in_default-input-clause-does g c =
    did_say _ _ _ _ _ _ _ c.say_long_input.result 10 _ limit_input
    (taken c.in-Bytes.bytes.items (rw c.in-Bytes.is at c.in_ok-file.ensures.takes) _ (input_too_long (reads_at _ _ _ _ long c.in_ok-file.ensures.same.1 c.say_long_input.ensures.same.1 (rw c.in_default-input.is at c.in_ok-input.ensures.reads))))
    (c.say_long_input.ensures.same.0 ∙ c.in_ok-input.ensures.same.0 ∙ c.in_ok-file.ensures.same.0) (c.in_ok-input.ensures.same.1 ∙ c.in_ok-file.ensures.same.2) refl c.say_long_input.ensures.whole c.say_long_input.ensures.part c.say_long_input.ensures.outward

pub returns-in_err-put_file-in-Ok-clause-does : goal.returns-in_err-put_file-in-Ok-clause-does
returns-in_err-put_file-in-Ok-clause-does g c =
    let e = c.in-Ok.emitted in
    let put = c.in_err-put_file-in-Ok in
    let stop = c.from_residual-in_err-put_file-in-Ok in
    let p = err_from_is_err_and stop.result stop.ensures.1 in
    let program = text_at (λ b. IsProgramOf b e) _ _ c.as_slice.ensures.value c.in-Ok.ensures.goes.0 in
    let are = text_at (λ b. input_of b ≡ Ok c.in-Ok.numbers.items) _ _ c.as_slice-2.ensures.value c.in-Ok.ensures.goes.1 in
    did_not_put _ _ _ _ _ _ stop.result p.0 (put_text c.args.name.now (plain_program e.program)) p.1 (same_in _ _ p.2 put.ensures.outward)
    (go_text (plain_program e.program) c.in-Ok.numbers.items (record { bytes = c.in-Bytes.bytes.items; takes = (rw c.in-Bytes.is at c.in_ok-file.ensures.takes); emitted = program.program }) (record { bytes = c.in-Bytes-input.input.items; left = _; reads = (reads_at _ _ _ _ (whole c.in-Bytes-input.input.items) c.in_ok-file.ensures.same.1 refl (rw c.in-Bytes-input.is at c.in_ok-input.ensures.reads)); are = are }))
    (others_at _ _ _ _ (c.in_ok-input.ensures.same.0 ∙ c.in_ok-file.ensures.same.0) put.ensures.others)
    (put.ensures.same.1 ∙ c.in_ok-input.ensures.same.1 ∙ c.in_ok-file.ensures.same.2)

pub returns-in-Ok-clause-does : goal.returns-in-Ok-clause-does
returns-in-Ok-clause-does g c =
    let e = c.in-Ok.emitted in
    let put = c.in_ok-put_file-in-Ok in
    let run = c.run_program in
    let program = text_at (λ b. IsProgramOf b e) _ _ c.as_slice.ensures.value c.in-Ok.ensures.goes.0 in
    let are = text_at (λ b. input_of b ≡ Ok c.in-Ok.numbers.items) _ _ c.as_slice-2.ensures.value c.in-Ok.ensures.goes.1 in
    go_did c.args.source.now c.args.name.now c.in-Bytes.bytes.items c.in-Bytes-input.input.items c.args.opts.now e c.in-Ok.numbers.items _ _ _ _ _ _ run.result (rw c.in-Bytes.is at c.in_ok-file.ensures.takes) (reads_at _ _ _ _ (whole c.in-Bytes-input.input.items) c.in_ok-file.ensures.same.1 (run.ensures.same ∙ put.ensures.same.0) (rw c.in-Bytes-input.is at c.in_ok-input.ensures.reads)) program are
    (did_behind (put_text c.args.name.now (plain_program e.program)) _ _ _ _ _ _ _ run.result
    (puts_from _ _ _ _ _ _ (c.in_ok-input.ensures.same.0 ∙ c.in_ok-file.ensures.same.0) (c.as_slice-in-Ok.ensures.value ∙ program.text) put.ensures.puts)
    run.ensures.outward
    (did_numbers (plain_program e.program) _ _ c.args.opts.now _ _ _ _ run.result c.as_slice-in-Ok-2.ensures.value (did_from _ _ _ _ _ _ _ _ run.result refl (put.ensures.same.1 ∙ c.in_ok-input.ensures.same.1 ∙ c.in_ok-file.ensures.same.2) run.ensures.does)))

pub returns-in-Err-Refused-clause-does : goal.returns-in-Err-Refused-clause-does
returns-in-Err-Refused-clause-does g c =
    let arm = c.in-Err-Refused in
    let say = c.say in
    let refused = text_at (λ b. JudgesGo b c.args.name.now c.args.opts.now c.as_slice-2.result.now (said arm.answer)) _ _ c.as_slice.ensures.value (rw arm.field-0-is at arm.ensures.refused c.args.name.now c.args.opts.now) in
    let judged = text_at (λ b. JudgesGo c.in-Bytes.bytes.items c.args.name.now c.args.opts.now b (said arm.answer)) _ _ c.as_slice-2.ensures.value refused in
    did_say _ _ _ _ _ _ _ say.result arm.answer.status _ arm.answer.text.items
    (go_judged c.args.source.now c.args.name.now c.in-Bytes.bytes.items c.in-Bytes-input.input.items c.args.opts.now _ _ _ (rw c.in-Bytes.is at c.in_ok-file.ensures.takes) (reads_at _ _ _ _ (whole c.in-Bytes-input.input.items) c.in_ok-file.ensures.same.1 say.ensures.same.1 (rw c.in-Bytes-input.is at c.in_ok-input.ensures.reads)) _ judged)
    (say.ensures.same.0 ∙ c.in_ok-input.ensures.same.0 ∙ c.in_ok-file.ensures.same.0) (c.in_ok-input.ensures.same.1 ∙ c.in_ok-file.ensures.same.2) (rw arm.field-0-is at c.as_slice-in-Err-Refused.ensures.value) (rw arm.field-0-is at say.ensures.whole) say.ensures.part say.ensures.outward

pub returns-clause-does : goal.returns-clause-does
returns-clause-does g c =
    did_nothing _ _ _ _ _ _ (Err Memory) Memory refl none (c.in_ok-input.ensures.same.0 ∙ c.in_ok-file.ensures.same.0) (c.in_ok-input.ensures.same.1 ∙ c.in_ok-file.ensures.same.2)

pub returns-in_err-put_file-in-Ok-clause-in_faults : goal.returns-in_err-put_file-in-Ok-clause-in_faults
returns-in_err-put_file-in-Ok-clause-in_faults g c =
    let stop = c.from_residual-in_err-put_file-in-Ok in
    let p = err_from_is_err_and stop.result stop.ensures.1 in
    counted_in _ _ _ stop.result p.0 _ p.1 p.2 (c.in_ok-input.ensures.in_faults.kept refl ∙ c.in_ok-file.ensures.in_faults.kept refl) c.in_err-put_file-in-Ok.ensures.in_faults

pub returns-in_err-put_file-in-Ok-clause-out_faults : goal.returns-in_err-put_file-in-Ok-clause-out_faults
returns-in_err-put_file-in-Ok-clause-out_faults g c =
    let stop = c.from_residual-in_err-put_file-in-Ok in
    let p = err_from_is_err_and stop.result stop.ensures.1 in
    counted_out _ _ _ stop.result p.0 _ p.1 p.2 (c.in_ok-input.ensures.out_faults.kept refl ∙ c.in_ok-file.ensures.out_faults.kept refl) c.in_err-put_file-in-Ok.ensures.out_faults
