use Rattle.std.proofs.Common.{map}
use Rattle.pl_syntax.specs.Plain.{plain_stmt}
use Rattle.pl_walk.specs.Shown.{known_of}
use Rattle.pl_walk.proofs.Reaching.{Reaches}
use Rattle.pl_walk.proofs.walk.walk_list.Given as goal

abbrev pub invariant-loop-stmt : goal.invariant-loop-stmt
invariant-loop-stmt l = Reaches (map plain_stmt l.list) l.stmt-index (known_of l.known)
