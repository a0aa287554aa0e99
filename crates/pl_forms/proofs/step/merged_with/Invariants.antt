use Rattle.std.proofs.Common.{◌≡◌, ◌++◌, ◌+◌, ◌-◌, ◌≤◌, length, drop, map, None}
use Rattle.pl_forms.specs.Forms.{merge, excess}
use Rattle.pl_forms.specs.Steps.{times_part}
use Rattle.pl_forms.proofs.step.merged_with.Given as goal

abbrev pub invariant-loop-i : goal.invariant-loop-i
invariant-loop-i l = record {
  first_within : l.i ≤ length l.one;
  second_within : l.j ≤ length l.other;
  so_far : merge l.one (map (times_part l.times) l.other) ≡ l.out.items ++ merge (drop l.i l.one) (map (times_part l.times) (drop l.j l.other));
  within : excess l.out.items ≡ None;
}

abbrev pub decreases-loop-i : goal.decreases-loop-i
decreases-loop-i l = (length l.one - l.i) + (length l.other - l.j)
