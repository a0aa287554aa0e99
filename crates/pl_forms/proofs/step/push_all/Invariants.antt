use Rattle.std.proofs.Common.{◌≡◌, ◌++◌, drop, map}
use Rattle.pl_forms.specs.Forms.{excess}
use Rattle.pl_forms.specs.Steps.{times_part}
use Rattle.pl_forms.proofs.step.push_all.Given as goal

abbrev pub invariant-loop-i : goal.invariant-loop-i
invariant-loop-i l = record {
  so_far : l.initial.out.items ++ map (times_part l.times) l.parts ≡ l.out.items ++ map (times_part l.times) (drop l.i l.parts);
  within : excess (map (times_part l.times) l.parts) ≡ excess (map (times_part l.times) (drop l.i l.parts));
}
