use Rattle.std.proofs.lemmas.Result.{err_from_is_err_and}
use Rattle.c_syntax.specs.Plain.{plain_program}
use Rattle.pl_top.specs.Checks.{said}
use Rattle.pl_top.proofs.Plans.{replay_refused, replay_refused_history, replay_refused_input, replay_said}
use Rattle.pl_top.proofs.plan.plan_replay.Goals as goal

pub returns-in_err-program-clause-refused : goal.returns-in_err-program-clause-refused
returns-in_err-program-clause-refused c =
    let p = err_from_is_err_and c.from_residual.result c.from_residual.ensures.1 in
    rw (p.1, p.2) (replay_refused c.args.bytes.now c.args.events.now c.args.input.now c.in_err-program.field-0.0 c.in_err-program.ensures.refused)

pub returns-in_err-history-clause-refused : goal.returns-in_err-history-clause-refused
returns-in_err-history-clause-refused c =
    let p = err_from_is_err_and c.from_residual-in_err-history.result c.from_residual-in_err-history.ensures.1 in
    rw (p.1, p.2) (replay_refused_history c.args.bytes.now c.args.events.now c.args.input.now (plain_program c.in_ok-program.program) c.in_err-history.field-0.0 c.in_ok-program.ensures.is c.in_err-history.ensures.refused)

pub returns-in_err-numbers-clause-refused : goal.returns-in_err-numbers-clause-refused
returns-in_err-numbers-clause-refused c =
    let p = err_from_is_err_and c.from_residual-in_err-numbers.result c.from_residual-in_err-numbers.ensures.1 in
    rw (p.1, p.2) (replay_refused_input c.args.bytes.now c.args.events.now c.args.input.now (plain_program c.in_ok-program.program) c.in_ok-history.history c.in_err-numbers.field-0.0 c.in_ok-program.ensures.is c.in_ok-history.ensures.is c.in_err-numbers.ensures.refused)

pub returns-clause-answer : goal.returns-clause-answer
returns-clause-answer c =
    replay_said c.args.bytes.now c.args.events.now c.args.input.now (plain_program c.in_ok-program.program) c.in_ok-history.history c.in_ok-numbers.numbers.items _ (said c.in_ok-replay_answer.field-0) c.in_ok-program.ensures.is c.in_ok-history.ensures.is c.in_ok-numbers.ensures.are c.as_slice.ensures.value c.in_ok-replay_answer.ensures
