use Rattle.std.proofs.Common.{◌≡◌, drop}
use Rattle.c_runner.specs.Standings.{race_with}
use Rattle.c_runner.proofs.standing.race_with.Given as goal

abbrev pub invariant-loop-b : goal.invariant-loop-b
invariant-loop-b l = race_with l.a l.others ≡ race_with l.a (drop l.b-index l.others)
