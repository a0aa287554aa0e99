use Rattle.std.proofs.Common.{◌≡◌}
use Rattle.c_syntax.specs.Plain.{plain_program}
use Rattle.c_meaning.specs.States.{shown, IsFor}
use Rattle.c_history.proofs.ReplayLaws.{Reached}
use Rattle.c_history.proofs.replaying.replay.Given as goal

abbrev pub invariant-loop-k : goal.invariant-loop-k
invariant-loop-k l = record {
  program : IsFor (plain_program l.program) l.state;
  events : l.events ≡ l.fn.history.events;
  reached : Reached (plain_program l.program) l.input l.events l.k (shown l.state);
}
