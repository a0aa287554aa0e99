use Rattle.std.proofs.Common.{◌≤◌, ◌+◌, length}
use Rattle.c_syntax.specs.Plain.{plain_program}
use Rattle.c_meaning.specs.States.{shown, IsFor}
use Rattle.c_meaning.proofs.tests.ends.Given as goal

abbrev pub invariant-loop-event : goal.invariant-loop-event
invariant-loop-event l =
    IsFor (plain_program l.program) l.state × (length (shown l.state).world.blocks ≤ l._event) × (length (shown l.state).world.locks ≤ l._event) × (length (shown l.state).threads ≤ l._event + 1)
