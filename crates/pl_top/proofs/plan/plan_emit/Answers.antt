use Rattle.pl_syntax.specs.Plain.{plain_program}
use Rattle.pl_top.proofs.Plans.{emission_is}
use Rattle.pl_top.proofs.plan.plan_emit.Goals as goal

pub returns-clause-emits : goal.returns-clause-emits
returns-clause-emits c = emission_is c.args.bytes.now (plain_program c.in_ok-straight.straight) c.in_ok-emit.field-0 c.in_ok-straight.ensures.accepted c.in_ok-emit.ensures c.names_are_proper.ensures
