use Rattle.std.proofs.Common.{◌≡◌, ◌++◌, ◌+◌, ◌-◌, ◌≤◌, length, drop}
use Rattle.pl_forms.specs.Forms.{merge}
use Rattle.pl_forms.proofs.form.merged.Given as goal

abbrev pub invariant-loop-i : goal.invariant-loop-i
invariant-loop-i l = record {
  first_within : l.i ≤ length l.one;
  second_within : l.j ≤ length l.other;
  so_far : merge l.one l.other ≡ l.out.items ++ merge (drop l.i l.one) (drop l.j l.other);
}

abbrev pub decreases-loop-i : goal.decreases-loop-i
decreases-loop-i l = (length l.one - l.i) + (length l.other - l.j)
