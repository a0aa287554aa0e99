use Rattle.std.proofs.Common.{◌∙◌, refl, Err}
use Rattle.std.proofs.lemmas.Result.{err_from_is_err_and}
use Rattle.pl_top.specs.declared.fetch.Fault.TheVariants.{Memory}
use Rattle.pl_top.specs.Checks.{said}
use Rattle.pl_top.specs.Lines.{limit_file}
use Rattle.pl_top.specs.Judging.{JudgesFmt, too_long, taken}
use Rattle.pl_top.specs.Calls.{none}
use Rattle.pl_top.proofs.Promises.{did_nothing, did_say, text_at}
use Rattle.pl_top.proofs.commands.format_file.Goals as goal

pub returns-in_err-file-clause-does : goal.returns-in_err-file-clause-does
returns-in_err-file-clause-does g c =
    let p = err_from_is_err_and c.from_residual.result c.from_residual.ensures.1 in
    did_nothing _ _ _ _ _ _ c.from_residual.result p.0 p.1 none c.in_err-file.ensures.same.0 c.in_err-file.ensures.same.2

pub returns-in_default-clause-does : goal.returns-in_default-clause-does
returns-in_default-clause-does g c =
    did_say _ _ _ _ _ _ _ c.say_too_long.result 10 _ (limit_file 1048577)
    (too_long (rw c.in_default.is at c.in_ok-file.ensures.takes) (c.say_too_long.ensures.same.1 ∙ c.in_ok-file.ensures.same.1))
    (c.say_too_long.ensures.same.0 ∙ c.in_ok-file.ensures.same.0) c.in_ok-file.ensures.same.2 refl c.say_too_long.ensures.whole c.say_too_long.ensures.part c.say_too_long.ensures.outward

pub returns-in-Ok-clause-does : goal.returns-in-Ok-clause-does
returns-in-Ok-clause-does g c =
    let answer = c.in-Ok.answer in
    let judged = text_at (λ b. JudgesFmt b (said answer)) _ _ c.as_slice.ensures.value c.in-Ok.ensures.formatted in
    did_say _ _ _ _ _ _ _ c.say.result answer.status _ answer.text.items
    (taken c.in-Bytes.bytes.items (rw c.in-Bytes.is at c.in_ok-file.ensures.takes) _ (c.say.ensures.same.1 ∙ c.in_ok-file.ensures.same.1, judged))
    (c.say.ensures.same.0 ∙ c.in_ok-file.ensures.same.0) c.in_ok-file.ensures.same.2 c.as_slice-in-Ok.ensures.value c.say.ensures.whole c.say.ensures.part c.say.ensures.outward

pub returns-in-Err-Refused-clause-does : goal.returns-in-Err-Refused-clause-does
returns-in-Err-Refused-clause-does g c =
    let arm = c.in-Err-Refused in
    let say = c.say-in-Err-Refused in
    let judged = text_at (λ b. JudgesFmt b (said arm.answer)) _ _ c.as_slice.ensures.value (rw arm.field-0-is at arm.ensures.refused) in
    did_say _ _ _ _ _ _ _ say.result arm.answer.status _ arm.answer.text.items
    (taken c.in-Bytes.bytes.items (rw c.in-Bytes.is at c.in_ok-file.ensures.takes) _ (say.ensures.same.1 ∙ c.in_ok-file.ensures.same.1, judged))
    (say.ensures.same.0 ∙ c.in_ok-file.ensures.same.0) c.in_ok-file.ensures.same.2 c.as_slice-in-Err-Refused.ensures.value say.ensures.whole say.ensures.part say.ensures.outward

pub returns-clause-does : goal.returns-clause-does
returns-clause-does g c =
    did_nothing _ _ _ _ _ _ (Err Memory) Memory refl none c.in_ok-file.ensures.same.0 c.in_ok-file.ensures.same.2
