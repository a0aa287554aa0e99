use Rattle.std.proofs.lemmas.Result.{err_from_is_err_and}
use Rattle.c_syntax.specs.Plain.{plain_program}
use Rattle.pl_top.proofs.Plans.{run_refused, run_refused_input}
use Rattle.pl_top.proofs.plan.plan_run.Goals as goal

pub returns-in_err-program-clause-refused : goal.returns-in_err-program-clause-refused
returns-in_err-program-clause-refused c opts =
    let p = err_from_is_err_and c.from_residual.result c.from_residual.ensures.1 in
    rw (p.1, p.2) (run_refused c.args.bytes.now c.args.input.now c.in_err-program.field-0.0 c.in_err-program.ensures.refused opts)

pub returns-in_err-numbers-clause-refused : goal.returns-in_err-numbers-clause-refused
returns-in_err-numbers-clause-refused c opts =
    let p = err_from_is_err_and c.from_residual-in_err-numbers.result c.from_residual-in_err-numbers.ensures.1 in
    rw (p.1, p.2) (run_refused_input c.args.bytes.now c.args.input.now (plain_program c.in_ok-program.program) c.in_err-numbers.field-0.0 c.in_ok-program.ensures.is c.in_err-numbers.ensures.refused opts)
