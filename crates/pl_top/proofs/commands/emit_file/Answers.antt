use Rattle.std.proofs.Common.{◌≡◌, ◌∙◌, [], refl, Err}
use Rattle.std.proofs.lemmas.Result.{err_from_is_err_and}
use Rattle.c_syntax.specs.Plain.{plain_program}
use Rattle.pl_top.specs.declared.fetch.Fault.TheVariants.{Memory}
use Rattle.pl_top.specs.Checks.{said}
use Rattle.pl_top.specs.Lines.{accepted, limit_file}
use Rattle.pl_top.specs.Judging.{says, put_text, Refuses, not_emitted, too_long, taken}
use Rattle.pl_top.specs.Calls.{none, emit_text}
use Rattle.pl_top.specs.Goes.{IsProgramOf}
use Rattle.pl_top.proofs.Delivered.{puts_from, others_at}
use Rattle.pl_top.proofs.Promises.{counted_in, counted_out, did_nothing, did_say, did_not_put, did_behind, emit_did, text_at, same_in}
use Rattle.pl_top.proofs.commands.emit_file.Goals as goal

pub returns-in_err-file-clause-does : goal.returns-in_err-file-clause-does
returns-in_err-file-clause-does g c =
    let p = err_from_is_err_and c.from_residual.result c.from_residual.ensures.1 in
    did_nothing _ _ _ _ _ _ c.from_residual.result p.0 p.1 none c.in_err-file.ensures.same.0 c.in_err-file.ensures.same.2

pub returns-in_default-clause-does : goal.returns-in_default-clause-does
returns-in_default-clause-does g c =
    did_say _ _ _ _ _ _ _ c.say_too_long.result 10 _ (limit_file 1048577)
    (too_long (rw c.in_default.is at c.in_ok-file.ensures.takes) (c.say_too_long.ensures.same.1 ∙ c.in_ok-file.ensures.same.1))
    (c.say_too_long.ensures.same.0 ∙ c.in_ok-file.ensures.same.0) c.in_ok-file.ensures.same.2 refl c.say_too_long.ensures.whole c.say_too_long.ensures.part c.say_too_long.ensures.outward

pub returns-in_err-put_file-in-Ok-clause-does : goal.returns-in_err-put_file-in-Ok-clause-does
returns-in_err-put_file-in-Ok-clause-does g c =
    let put = c.in_err-put_file-in-Ok in
    let p = err_from_is_err_and c.from_residual-in_err-put_file-in-Ok.result c.from_residual-in_err-put_file-in-Ok.ensures.1 in
    let program = text_at (λ b. IsProgramOf b c.in-Ok.emitted) _ _ c.as_slice.ensures.value c.in-Ok.ensures.emits in
    did_not_put _ _ _ _ _ _ c.from_residual-in_err-put_file-in-Ok.result p.0 (put_text c.args.name.now (plain_program c.in-Ok.emitted.program)) p.1 (same_in _ _ p.2 put.ensures.outward)
    (emit_text (plain_program c.in-Ok.emitted.program) (record { bytes = c.in-Bytes.bytes.items; takes = (rw c.in-Bytes.is at c.in_ok-file.ensures.takes); emitted = program.program }))
    (others_at _ _ _ _ c.in_ok-file.ensures.same.0 put.ensures.others)
    (put.ensures.same.1 ∙ c.in_ok-file.ensures.same.2)

pub returns-in-Ok-clause-does : goal.returns-in-Ok-clause-does
returns-in-Ok-clause-does g c =
    let e = c.in-Ok.emitted in
    let put = c.in_ok-put_file-in-Ok in
    let program = text_at (λ b. IsProgramOf b e) _ _ c.as_slice.ensures.value c.in-Ok.ensures.emits in
    emit_did c.args.source.now c.args.name.now c.in-Bytes.bytes.items e _ _ _ _ _ _ c.say.result (rw c.in-Bytes.is at c.in_ok-file.ensures.takes) (c.say.ensures.same.1 ∙ put.ensures.same.0 ∙ c.in_ok-file.ensures.same.1) program
    (did_behind (put_text c.args.name.now (plain_program e.program)) _ _ _ _ _ _ _ c.say.result
    (puts_from _ _ _ _ _ _ c.in_ok-file.ensures.same.0 (c.as_slice-in-Ok.ensures.value ∙ program.text) put.ensures.puts)
    c.say.ensures.outward
    (did_say (λ puts. puts ≡ []) (λ o. o ≡ says 0 accepted) _ _ _ _ _ c.say.result 0 _ accepted refl c.say.ensures.same.0 (put.ensures.same.1 ∙ c.in_ok-file.ensures.same.2) c.accepted.ensures c.say.ensures.whole c.say.ensures.part c.say.ensures.outward))

pub returns-in-Err-Refused-clause-does : goal.returns-in-Err-Refused-clause-does
returns-in-Err-Refused-clause-does g c =
    let arm = c.in-Err-Refused in
    let say = c.say-in-Err-Refused in
    let refused = text_at (λ b. Refuses b (said arm.answer)) _ _ c.as_slice.ensures.value (rw arm.field-0-is at arm.ensures.refused) in
    did_say _ _ _ _ _ _ _ say.result arm.answer.status _ arm.answer.text.items
    (taken c.in-Bytes.bytes.items (rw c.in-Bytes.is at c.in_ok-file.ensures.takes) _ (say.ensures.same.1 ∙ c.in_ok-file.ensures.same.1, not_emitted _ refused))
    (say.ensures.same.0 ∙ c.in_ok-file.ensures.same.0) c.in_ok-file.ensures.same.2 c.as_slice-in-Err-Refused.ensures.value say.ensures.whole say.ensures.part say.ensures.outward

pub returns-clause-does : goal.returns-clause-does
returns-clause-does g c =
    did_nothing _ _ _ _ _ _ (Err Memory) Memory refl none c.in_ok-file.ensures.same.0 c.in_ok-file.ensures.same.2

pub returns-in_err-put_file-in-Ok-clause-in_faults : goal.returns-in_err-put_file-in-Ok-clause-in_faults
returns-in_err-put_file-in-Ok-clause-in_faults g c =
    let stop = c.from_residual-in_err-put_file-in-Ok in
    let p = err_from_is_err_and stop.result stop.ensures.1 in
    counted_in _ _ _ stop.result p.0 _ p.1 p.2 (c.in_ok-file.ensures.in_faults.kept refl) c.in_err-put_file-in-Ok.ensures.in_faults

pub returns-in_err-put_file-in-Ok-clause-out_faults : goal.returns-in_err-put_file-in-Ok-clause-out_faults
returns-in_err-put_file-in-Ok-clause-out_faults g c =
    let stop = c.from_residual-in_err-put_file-in-Ok in
    let p = err_from_is_err_and stop.result stop.ensures.1 in
    counted_out _ _ _ stop.result p.0 _ p.1 p.2 (c.in_ok-file.ensures.out_faults.kept refl) c.in_err-put_file-in-Ok.ensures.out_faults
