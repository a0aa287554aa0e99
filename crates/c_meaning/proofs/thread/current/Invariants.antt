use Rattle.std.proofs.Common.{◌≡◌, ◌≤◌, length, take}
use Rattle.c_meaning.specs.Blocks.{left}
use Rattle.c_meaning.proofs.thread.current.Given as goal

abbrev pub invariant-loop-n : goal.invariant-loop-n
invariant-loop-n l = (left l.code l.spots ≡ left l.code (take l.n l.spots)) × (l.n ≤ length l.spots)

abbrev pub decreases-loop-n : goal.decreases-loop-n
decreases-loop-n l = l.n
