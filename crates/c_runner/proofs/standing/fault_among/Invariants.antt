use Rattle.std.proofs.Common.{◌≡◌, drop}
use Rattle.c_runner.specs.Standings.{fault_among}
use Rattle.c_runner.proofs.standing.fault_among.Given as goal

abbrev pub invariant-loop-a : goal.invariant-loop-a
invariant-loop-a l = fault_among l.standings ≡ fault_among (drop l.a-index l.standings)
