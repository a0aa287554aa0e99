use Rattle.pl_top.proofs.Statuses.{told_keeps}
use Rattle.pl_top.proofs.top.check_command.Goals as goal

pub returns : goal.returns
returns g c = told_keeps c.args.command.now _ _ _ _ _ _ _ _ _ _ c.check_answer.result c.told.result c.told.ensures c.check_answer.ensures.does c.check_answer.ensures.in_faults c.check_answer.ensures.out_faults
