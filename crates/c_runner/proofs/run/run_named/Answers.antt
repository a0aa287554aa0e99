use Rattle.std.proofs.Common.{List, length, subst, sym}
use Rattle.c_meaning.specs.declared.action.Event.{Event}
use Rattle.c_meaning.specs.States.{shown}
use Rattle.c_runner.specs.Ends.{EndOf}
use Rattle.c_runner.proofs.run.run_named.Goals as goal

pub returns-then-workers-eq1-clause-run : goal.returns-then-workers-eq1-clause-run
returns-then-workers-eq1-clause-run g c = record {
  last = shown c.finish.new.self.0;
  replays = c.into_history.ensures.replays;
  goes = c.into_history.ensures.goes;
  ends = let P : List Event → Type 0 = λ z. EndOf g.J.Naming.program g.J.Naming.bound (shown c.finish.new.self.0) (length z) c.in_ok-end.end in subst P (sym c.into_history.ensures.same) c.in_ok-end.ensures.end;
}

pub returns-clause-run : goal.returns-clause-run
returns-clause-run g c = record {
  last = shown c.into_inner-machine.result.0;
  replays = c.into_history-2.ensures.replays;
  goes = c.into_history-2.ensures.goes;
  ends = let P : List Event → Type 0 = λ z. EndOf g.J.Naming.program g.J.Naming.bound (shown c.into_inner-machine.result.0) (length z) c.in-Some.end in subst P (sym c.into_history-2.ensures.same) c.in-Some.ensures;
}
