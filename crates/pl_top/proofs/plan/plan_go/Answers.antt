use Rattle.std.proofs.lemmas.Result.{err_from_is_err_and}
use Rattle.pl_top.proofs.Plans.{go_refused, go_no_numbers}
use Rattle.pl_top.proofs.plan.plan_go.Goals as goal

pub returns-in_err-emitted-clause-refused : goal.returns-in_err-emitted-clause-refused
returns-in_err-emitted-clause-refused c name opts =
    let p = err_from_is_err_and c.from_residual.result c.from_residual.ensures.1 in
    rw (p.1, p.2) (go_refused c.args.bytes.now c.args.input.now c.in_err-emitted.field-0.0 c.in_err-emitted.ensures.refused name opts)

pub returns-in_err-numbers-clause-refused : goal.returns-in_err-numbers-clause-refused
returns-in_err-numbers-clause-refused c name opts =
    let p = err_from_is_err_and c.from_residual-in_err-numbers.result c.from_residual-in_err-numbers.ensures.1 in
    rw (p.1, p.2) (go_no_numbers c.args.bytes.now c.args.input.now c.in_ok-emitted.emitted c.in_err-numbers.field-0.0 c.in_ok-emitted.ensures.emits c.in_err-numbers.ensures.refused name opts)
