use Rattle.std.proofs.Common.{◌∙◌, refl, Err}
use Rattle.std.proofs.lemmas.Result.{err_from_is_err_and}
use Rattle.pl_top.specs.declared.fetch.Fault.TheVariants.{Memory}
use Rattle.pl_top.specs.Telling.{whole, long}
use Rattle.pl_top.specs.Checks.{said}
use Rattle.pl_top.specs.Lines.{limit_file, limit_input}
use Rattle.pl_top.specs.Judging.{too_long, taken, input_too_long}
use Rattle.pl_top.specs.Calls.{none}
use Rattle.pl_top.proofs.Promises.{did_nothing, did_say, replay_judged, judged_at, takes_at, reads_at}
use Rattle.pl_top.proofs.commands.replay_file.Goals as goal

pub returns-in_err-text-clause-does : goal.returns-in_err-text-clause-does
returns-in_err-text-clause-does g c =
    let p = err_from_is_err_and c.from_residual.result c.from_residual.ensures.1 in
    did_nothing _ _ _ _ _ _ c.from_residual.result p.0 p.1 none c.in_err-text.ensures.same.0 c.in_err-text.ensures.same.2

pub returns-in_default-clause-does : goal.returns-in_default-clause-does
returns-in_default-clause-does g c =
    did_say _ _ _ _ _ _ _ c.say_too_long.result 10 _ (limit_file 268435457)
    (too_long (rw c.in_default.is at c.in_ok-text.ensures.takes) (c.say_too_long.ensures.same.1 ∙ c.in_ok-text.ensures.same.1))
    (c.say_too_long.ensures.same.0 ∙ c.in_ok-text.ensures.same.0) c.in_ok-text.ensures.same.2 refl c.say_too_long.ensures.whole c.say_too_long.ensures.part c.say_too_long.ensures.outward

pub returns-in_err-events-clause-does : goal.returns-in_err-events-clause-does
returns-in_err-events-clause-does g c =
    let p = err_from_is_err_and c.from_residual-in_err-events.result c.from_residual-in_err-events.ensures.1 in
    did_nothing _ _ _ _ _ _ c.from_residual-in_err-events.result p.0 p.1 none (c.in_err-events.ensures.same.0 ∙ c.in_ok-text.ensures.same.0) (c.in_err-events.ensures.same.2 ∙ c.in_ok-text.ensures.same.2)

pub returns-in_default-events-clause-does : goal.returns-in_default-events-clause-does
returns-in_default-events-clause-does g c =
    let say = c.say_too_long-in_default-events in
    did_say _ _ _ _ _ _ _ say.result 10 _ (limit_file 268435457)
    (taken c.in-Bytes.bytes.items (rw c.in-Bytes.is at c.in_ok-text.ensures.takes) _ (too_long (takes_at _ _ c.args.history.now _ long c.in_ok-text.ensures.same.0 (rw c.in_default-events.is at c.in_ok-events.ensures.takes)) (say.ensures.same.1 ∙ c.in_ok-events.ensures.same.1 ∙ c.in_ok-text.ensures.same.1)))
    (say.ensures.same.0 ∙ c.in_ok-events.ensures.same.0 ∙ c.in_ok-text.ensures.same.0) (c.in_ok-events.ensures.same.2 ∙ c.in_ok-text.ensures.same.2) refl say.ensures.whole say.ensures.part say.ensures.outward

pub returns-in_err-input-clause-does : goal.returns-in_err-input-clause-does
returns-in_err-input-clause-does g c =
    let p = err_from_is_err_and c.from_residual-in_err-input.result c.from_residual-in_err-input.ensures.1 in
    did_nothing _ _ _ _ _ _ c.from_residual-in_err-input.result p.0 p.1 none (c.in_err-input.ensures.same.0 ∙ c.in_ok-events.ensures.same.0 ∙ c.in_ok-text.ensures.same.0) (c.in_err-input.ensures.same.1 ∙ c.in_ok-events.ensures.same.2 ∙ c.in_ok-text.ensures.same.2)

pub returns-in_default-input-clause-does : goal.returns-in_default-input-clause-does
returns-in_default-input-clause-does g c =
    did_say _ _ _ _ _ _ _ c.say_long_input.result 10 _ limit_input
    (taken c.in-Bytes.bytes.items (rw c.in-Bytes.is at c.in_ok-text.ensures.takes) _ (taken c.in-Bytes-events.events.items (takes_at _ _ c.args.history.now _ (whole c.in-Bytes-events.events.items) c.in_ok-text.ensures.same.0 (rw c.in-Bytes-events.is at c.in_ok-events.ensures.takes)) _ (input_too_long (reads_at _ _ _ _ long (c.in_ok-events.ensures.same.1 ∙ c.in_ok-text.ensures.same.1) c.say_long_input.ensures.same.1 (rw c.in_default-input.is at c.in_ok-input.ensures.reads)))))
    (c.say_long_input.ensures.same.0 ∙ c.in_ok-input.ensures.same.0 ∙ c.in_ok-events.ensures.same.0 ∙ c.in_ok-text.ensures.same.0) (c.in_ok-input.ensures.same.1 ∙ c.in_ok-events.ensures.same.2 ∙ c.in_ok-text.ensures.same.2) refl c.say_long_input.ensures.whole c.say_long_input.ensures.part c.say_long_input.ensures.outward

pub returns-in-Ok-clause-does : goal.returns-in-Ok-clause-does
returns-in-Ok-clause-does g c =
    let arm = c.in-Ok in
    let say = c.say in
    let judged = judged_at _ _ _ _ _ _ _ c.as_slice.ensures.value c.as_slice-2.ensures.value c.as_slice-3.ensures.value arm.ensures.answer in
    did_say _ _ _ _ _ _ _ say.result arm.answer.status _ arm.answer.text.items
    (replay_judged c.args.name.now c.args.history.now c.in-Bytes.bytes.items c.in-Bytes-events.events.items c.in-Bytes-input.input.items _ _ _ (rw c.in-Bytes.is at c.in_ok-text.ensures.takes) (takes_at _ _ c.args.history.now _ (whole c.in-Bytes-events.events.items) c.in_ok-text.ensures.same.0 (rw c.in-Bytes-events.is at c.in_ok-events.ensures.takes)) (reads_at _ _ _ _ (whole c.in-Bytes-input.input.items) (c.in_ok-events.ensures.same.1 ∙ c.in_ok-text.ensures.same.1) say.ensures.same.1 (rw c.in-Bytes-input.is at c.in_ok-input.ensures.reads)) (said arm.answer) judged)
    (say.ensures.same.0 ∙ c.in_ok-input.ensures.same.0 ∙ c.in_ok-events.ensures.same.0 ∙ c.in_ok-text.ensures.same.0) (c.in_ok-input.ensures.same.1 ∙ c.in_ok-events.ensures.same.2 ∙ c.in_ok-text.ensures.same.2) c.as_slice-in-Ok.ensures.value say.ensures.whole say.ensures.part say.ensures.outward

pub returns-in-Err-Refused-clause-does : goal.returns-in-Err-Refused-clause-does
returns-in-Err-Refused-clause-does g c =
    let arm = c.in-Err-Refused in
    let say = c.say-in-Err-Refused in
    let judged = judged_at _ _ _ _ _ _ (said arm.answer) c.as_slice.ensures.value c.as_slice-2.ensures.value c.as_slice-3.ensures.value (rw arm.field-0-is at arm.ensures.refused) in
    did_say _ _ _ _ _ _ _ say.result arm.answer.status _ arm.answer.text.items
    (replay_judged c.args.name.now c.args.history.now c.in-Bytes.bytes.items c.in-Bytes-events.events.items c.in-Bytes-input.input.items _ _ _ (rw c.in-Bytes.is at c.in_ok-text.ensures.takes) (takes_at _ _ c.args.history.now _ (whole c.in-Bytes-events.events.items) c.in_ok-text.ensures.same.0 (rw c.in-Bytes-events.is at c.in_ok-events.ensures.takes)) (reads_at _ _ _ _ (whole c.in-Bytes-input.input.items) (c.in_ok-events.ensures.same.1 ∙ c.in_ok-text.ensures.same.1) say.ensures.same.1 (rw c.in-Bytes-input.is at c.in_ok-input.ensures.reads)) (said arm.answer) judged)
    (say.ensures.same.0 ∙ c.in_ok-input.ensures.same.0 ∙ c.in_ok-events.ensures.same.0 ∙ c.in_ok-text.ensures.same.0) (c.in_ok-input.ensures.same.1 ∙ c.in_ok-events.ensures.same.2 ∙ c.in_ok-text.ensures.same.2) c.as_slice-in-Err-Refused.ensures.value say.ensures.whole say.ensures.part say.ensures.outward

pub returns-clause-does : goal.returns-clause-does
returns-clause-does g c =
    did_nothing _ _ _ _ _ _ (Err Memory) Memory refl none (c.in_ok-input.ensures.same.0 ∙ c.in_ok-events.ensures.same.0 ∙ c.in_ok-text.ensures.same.0) (c.in_ok-input.ensures.same.1 ∙ c.in_ok-events.ensures.same.2 ∙ c.in_ok-text.ensures.same.2)
