use Rattle.pl_top.proofs.Statuses.{told_keeps}
use Rattle.pl_top.proofs.top.run_command.Goals as goal

pub returns : goal.returns
returns g c = told_keeps c.args.command.now _ _ _ _ _ _ _ _ _ _ c.run_answer.result c.told.result c.told.ensures c.run_answer.ensures.does c.run_answer.ensures.in_faults c.run_answer.ensures.out_faults
