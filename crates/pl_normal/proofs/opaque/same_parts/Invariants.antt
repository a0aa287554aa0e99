use Rattle.std.proofs.Common.{◌≡◌, drop}
use Rattle.pl_normal.specs.Normal.{same_parts}
use Rattle.pl_normal.proofs.opaque.same_parts.Given as goal

abbrev pub invariant-loop-i : goal.invariant-loop-i
invariant-loop-i l = same_parts l.one l.other ≡ same_parts (drop l.i l.one) (drop l.i l.other)
