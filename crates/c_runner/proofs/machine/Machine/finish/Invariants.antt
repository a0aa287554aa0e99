use Rattle.std.proofs.Common.{◌-◌, length}
use Rattle.c_runner.specs.Kept.{GoesByRule, seen}
use Rattle.c_runner.proofs.machine.Machine.finish.Given as goal

abbrev pub invariant-events : goal.invariant-events
invariant-events g l = GoesByRule g.J.Naming.program g.J.Naming.bound (seen l.fn.self) (seen l.self)

abbrev pub decreases-events : goal.decreases-events
decreases-events g l = g.J.Naming.bound - length l.self.1
