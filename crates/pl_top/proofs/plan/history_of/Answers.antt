use Rattle.pl_top.proofs.Plans.{events_few, history_refused}
use Rattle.pl_top.proofs.plan.history_of.Goals as goal

pub returns-in-Ok-clause-few : goal.returns-in-Ok-clause-few
returns-in-Ok-clause-few c = events_few c.args.bytes.now c.in-Ok.history c.requires c.in-Ok.ensures.text

pub returns-in_ok-text-in-Err-BadHistory-clause-refused : goal.returns-in_ok-text-in-Err-BadHistory-clause-refused
returns-in_ok-text-in-Err-BadHistory-clause-refused c =
    let arm = c.in-Err-BadHistory in
    history_refused c.args.bytes.now arm.line c.in_ok-text-in-Err-BadHistory.text.items (rw arm.field-0-is at arm.ensures.refused) c.in_ok-text-in-Err-BadHistory.ensures
