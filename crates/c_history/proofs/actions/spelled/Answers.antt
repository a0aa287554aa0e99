use Rattle.c_history.proofs.ActionLaws.{no_verb}
use Rattle.c_history.proofs.actions.spelled.Goals as goal

pub returns-in-Err : goal.returns-in-Err
returns-in-Err c = no_verb c.args.word.now c.in-Err.ensures.cases.0
