use Rattle.std.proofs.Common.{◌≡◌, drop}
use Rattle.c_runner.specs.Numbers.{first_among}
use Rattle.c_runner.proofs.outlook.first_among.Given as goal

abbrev pub invariant-loop-t : goal.invariant-loop-t
invariant-loop-t l = first_among l.threads l.from l.worker l.workers ≡ first_among (drop l.t-index l.threads) l.from l.worker l.workers
