use Rattle.pl_top.proofs.Plans.{input_refused}
use Rattle.pl_top.proofs.plan.numbers_of.Goals as goal

pub returns-in_ok-text-in-Err-Line-clause-refused : goal.returns-in_ok-text-in-Err-Line-clause-refused
returns-in_ok-text-in-Err-Line-clause-refused c =
    let arm = c.in-Err-Line in
    input_refused c.args.input.now arm.line c.in_ok-text-in-Err-Line.text.items (rw arm.field-0-is at arm.ensures) c.in_ok-text-in-Err-Line.ensures
