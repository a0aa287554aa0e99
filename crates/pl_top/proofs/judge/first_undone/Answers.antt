use Rattle.pl_top.proofs.Judged.{first_of, main_done, said_undone}
use Rattle.pl_top.proofs.judge.first_undone.Goals as goal

pub returns-in-Ok : goal.returns-in-Ok
returns-in-Ok c = λ main e is. main_done main is (c.in-Ok.ensures main (first_of _ main e))

pub returns-in_ok-text-in-Err-Undone : goal.returns-in_ok-text-in-Err-Undone
returns-in_ok-text-in-Err-Undone c = λ main e is. said_undone main c.in-Err-Undone.pos c.in-Err-Undone.duty ((rw c.in-Err-Undone.field-0-is at c.in-Err-Undone.ensures) main (first_of _ main e)) _ (c.in_ok-text-in-Err-Undone.ensures)
