use Rattle.pl_syntax.specs.Plain.{plain_program}
use Rattle.pl_top.proofs.Judged.{not_built_refused}
use Rattle.pl_top.proofs.judge.straight_of.Goals as goal

pub returns-in-Err-clause-refused : goal.returns-in-Err-clause-refused
returns-in-Err-clause-refused c = not_built_refused c.args.bytes.now (plain_program c.in_ok-typed.typed) c.in-Err.place c.not_built.result c.in_ok-typed.ensures.is c.in-Err.ensures.is c.not_built.ensures
