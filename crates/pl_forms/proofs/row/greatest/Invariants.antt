use Rattle.std.proofs.Common.{◌≡◌}
use Rattle.pl_forms.specs.Rows.{gcd}
use Rattle.pl_forms.proofs.row.greatest.Given as goal

abbrev pub invariant-loop-b : goal.invariant-loop-b
invariant-loop-b l = gcd l.one l.other ≡ gcd l.a l.b

abbrev pub decreases-loop-b : goal.decreases-loop-b
decreases-loop-b l = l.b
