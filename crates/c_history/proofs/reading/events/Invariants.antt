use Rattle.std.proofs.Common.{length}
use Rattle.c_history.proofs.LineLaws.{SoFar}
use Rattle.c_history.proofs.reading.events.Given as goal

abbrev pub invariant-lines : goal.invariant-lines
invariant-lines l = SoFar l.bytes l.events.items l.rest

abbrev pub decreases-lines : goal.decreases-lines
decreases-lines l = length l.rest
