use Rattle.std.proofs.Common.{◌≡◌, drop}
use Rattle.c_runner.specs.Standings.{forks_among}
use Rattle.c_runner.proofs.standing.forks_among.Given as goal

abbrev pub invariant-loop-a : goal.invariant-loop-a
invariant-loop-a l = forks_among l.standings ≡ forks_among (drop l.a-index l.standings)
