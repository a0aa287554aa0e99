use Rattle.std.proofs.Common.{◌+◌, ◌∙◌, arith}
use Rattle.c_history.proofs.LineLaws.{refused_header, count_small, refused_last, refused_behind_end, text_read, exact_err, never_refused, one_history, is_empty_is, not_empty_is}
use Rattle.c_history.proofs.reading.read_history.Goals as goal

pub returns-in-Err-clause-refused : goal.returns-in-Err-clause-refused
returns-in-Err-clause-refused c = rw c.at_line.ensures (refused_header c.args.bytes.now c.in-Err.error c.in-Err.ensures)

pub returns-in-Err-clause-exact : goal.returns-in-Err-clause-exact
returns-in-Err-clause-exact c = rw c.at_line.ensures (exact_err c.args.bytes.now _ (refused_header c.args.bytes.now c.in-Err.error c.in-Err.ensures))

pub overflow_cast-count : goal.overflow_cast-count
overflow_cast-count c = omega (arith, count_small c.args.bytes.now c.in-Ok.rest.now c.in_ok-events.events.items c.in_ok-events.rest.now c.in-Ok.ensures c.in_ok-events.ensures)

pub overflow_add-count : goal.overflow_add-count
overflow_add-count c = omega (arith, count_small c.args.bytes.now c.in-Ok.rest.now c.in_ok-events.events.items c.in_ok-events.rest.now c.in-Ok.ensures c.in_ok-events.ensures)

pub returns-in-Err-last-clause-refused : goal.returns-in-Err-last-clause-refused
returns-in-Err-last-clause-refused c =
    rw c.at_line-in-Err-last.ensures (refused_last c.args.bytes.now c.in-Ok.rest.now c.in_ok-events.events.items c.in_ok-events.rest.now c.in-Ok.ensures c.in_ok-events.ensures c.requires c.len-count.result (c.len-count.ensures ∙ c.in_ok-events.events.ok.0) c.in-Err-last.error c.in-Err-last.ensures)

pub returns-in-Err-last-clause-exact : goal.returns-in-Err-last-clause-exact
returns-in-Err-last-clause-exact c =
    rw c.at_line-in-Err-last.ensures
    (exact_err c.args.bytes.now _ (refused_last c.args.bytes.now c.in-Ok.rest.now c.in_ok-events.events.items c.in_ok-events.rest.now c.in-Ok.ensures c.in_ok-events.ensures c.requires c.len-count.result (c.len-count.ensures ∙ c.in_ok-events.events.ok.0) c.in-Err-last.error c.in-Err-last.ensures))

pub overflow_add-result : goal.overflow_add-result
overflow_add-result c = omega (arith, count_small c.args.bytes.now c.in-Ok.rest.now c.in_ok-events.events.items c.in_ok-events.rest.now c.in-Ok.ensures c.in_ok-events.ensures)

pub returns-then-not-is_empty-clause-refused : goal.returns-then-not-is_empty-clause-refused
returns-then-not-is_empty-clause-refused c =
    refused_behind_end c.args.bytes.now c.in-Ok.rest.now c.in_ok-events.events.items c.in_ok-events.rest.now c.in-Ok.ensures c.in_ok-events.ensures c.requires c.len-count.result (c.len-count.ensures ∙ c.in_ok-events.events.ok.0) c.in-Ok-last.rest.now c.in-Ok-last.ensures (not_empty_is c.in-Ok-last.rest.now c.is_empty.result c.is_empty.ensures c.if-not-is_empty.true)

pub returns-then-not-is_empty-clause-exact : goal.returns-then-not-is_empty-clause-exact
returns-then-not-is_empty-clause-exact c h t =
    never_refused c.args.bytes.now (c.len-count.result + 3) h
    (refused_behind_end c.args.bytes.now c.in-Ok.rest.now c.in_ok-events.events.items c.in_ok-events.rest.now c.in-Ok.ensures c.in_ok-events.ensures c.requires c.len-count.result (c.len-count.ensures ∙ c.in_ok-events.events.ok.0) c.in-Ok-last.rest.now c.in-Ok-last.ensures (not_empty_is c.in-Ok-last.rest.now c.is_empty.result c.is_empty.ensures c.if-not-is_empty.true)) t

pub returns-clause-within : goal.returns-clause-within
returns-clause-within c =
    rw c.of.ensures (text_read c.args.bytes.now c.in-Ok.rest.now c.in_ok-events.events.items c.in_ok-events.rest.now c.in-Ok.ensures c.in_ok-events.ensures c.requires c.len-count.result (c.len-count.ensures ∙ c.in_ok-events.events.ok.0) c.in-Ok-last.rest.now c.in-Ok-last.ensures (is_empty_is c.in-Ok-last.rest.now c.is_empty.result c.is_empty.ensures c.if-not-is_empty.false)).within

pub returns-clause-text : goal.returns-clause-text
returns-clause-text c =
    rw c.of.ensures (text_read c.args.bytes.now c.in-Ok.rest.now c.in_ok-events.events.items c.in_ok-events.rest.now c.in-Ok.ensures c.in_ok-events.ensures c.requires c.len-count.result (c.len-count.ensures ∙ c.in_ok-events.events.ok.0) c.in-Ok-last.rest.now c.in-Ok-last.ensures (is_empty_is c.in-Ok-last.rest.now c.is_empty.result c.is_empty.ensures c.if-not-is_empty.false)).text

pub returns-clause-exact : goal.returns-clause-exact
returns-clause-exact c h t =
    rw c.of.ensures (one_history _ h c.args.bytes.now (text_read c.args.bytes.now c.in-Ok.rest.now c.in_ok-events.events.items c.in_ok-events.rest.now c.in-Ok.ensures c.in_ok-events.ensures c.requires c.len-count.result (c.len-count.ensures ∙ c.in_ok-events.events.ok.0) c.in-Ok-last.rest.now c.in-Ok-last.ensures (is_empty_is c.in-Ok-last.rest.now c.is_empty.result c.is_empty.ensures c.if-not-is_empty.false)) t)
