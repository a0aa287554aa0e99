use Rattle.std.proofs.Common.{◌≡◌, map, drop}
use Rattle.pl_syntax.specs.Plain.{plain_stmt}
use Rattle.pl_syntax.specs.Unbuilt as spec
use Rattle.pl_syntax.proofs.unbuilt.first_other.Given as goal

abbrev pub invariant-loop-stmt : goal.invariant-loop-stmt
invariant-loop-stmt l = spec.first_other (map plain_stmt l.list) ≡ spec.first_other (map plain_stmt (drop l.stmt-index l.list))
