use Rattle.std.proofs.Common.{◌≡◌, drop}
use Rattle.c_runner.specs.Standings.{race_behind}
use Rattle.c_runner.proofs.standing.race_behind.Given as goal

abbrev pub invariant-loop-b : goal.invariant-loop-b
invariant-loop-b l = race_behind l.a l.others ≡ race_behind l.a (drop l.b-index l.others)
