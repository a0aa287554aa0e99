use Rattle.std.proofs.Common.{◌≡◌, drop}
use Rattle.pl_forms.specs.Rows.{gcd_from}
use Rattle.pl_forms.proofs.row.common.Given as goal

abbrev pub invariant-loop-i : goal.invariant-loop-i
invariant-loop-i l = gcd_from 0 (drop 1 l.row) ≡ gcd_from l.g (drop l.i l.row)
