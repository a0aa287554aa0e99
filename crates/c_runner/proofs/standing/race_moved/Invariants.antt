use Rattle.std.proofs.Common.{◌≡◌, drop}
use Rattle.c_runner.specs.Standings.{race_moved}
use Rattle.c_runner.proofs.standing.race_moved.Given as goal

abbrev pub invariant-loop-i : goal.invariant-loop-i
invariant-loop-i l = race_moved l.stepped l.made l.moved l.standings ≡ race_moved l.stepped l.made l.moved (drop l.i l.standings)
