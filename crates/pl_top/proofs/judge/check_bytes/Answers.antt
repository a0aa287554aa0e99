use Rattle.pl_syntax.specs.Plain.{plain_program}
use Rattle.pl_top.proofs.Judged.{file_accepted, file_undone}
use Rattle.pl_top.proofs.judge.check_bytes.Goals as goal

pub returns-in-None-clause-accepted : goal.returns-in-None-clause-accepted
returns-in-None-clause-accepted c =
    file_accepted c.args.bytes.now (plain_program c.in_ok-straight.straight) c.in_ok-straight.ensures.is c.program-program.ensures.straight (rw c.in-None.is at c.in_ok-first_undone.ensures)

pub returns-in-Some-clause-refused : goal.returns-in-Some-clause-refused
returns-in-Some-clause-refused c =
    file_undone c.args.bytes.now (plain_program c.in_ok-straight.straight) c.in_ok-straight.ensures.is c.program-program.ensures.straight c.in-Some.answer (rw c.in-Some.is at c.in_ok-first_undone.ensures)
