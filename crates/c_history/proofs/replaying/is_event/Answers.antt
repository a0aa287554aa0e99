use Rattle.c_history.proofs.SameEvents.{some_decides}
use Rattle.c_history.proofs.replaying.is_event.Goals as goal

pub returns-in-Some : goal.returns-in-Some
returns-in-Some c = rw (c.in-Some.is, c.eq.ensures) (some_decides c.in-Some.next c.args.event.now)
