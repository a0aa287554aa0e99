use Rattle.pl_top.proofs.Plans.{c_refused}
use Rattle.pl_top.proofs.plan.c_of.Goals as goal

pub returns-in_ok-text-in-Err-NotFragment-clause-refused : goal.returns-in_ok-text-in-Err-NotFragment-clause-refused
returns-in_ok-text-in-Err-NotFragment-clause-refused c =
    let arm = c.in-Err-NotFragment in
    c_refused c.args.bytes.now arm.byte c.in_ok-text-in-Err-NotFragment.text.items (rw arm.field-0-is at arm.ensures.only) (rw arm.field-0-is at arm.ensures.refused) c.in_ok-text-in-Err-NotFragment.ensures
