use Rattle.std.proofs.Common.{◌≡◌, ◌+◌, length, []}
use Rattle.pl_forms.specs.Equations.{AreSolutions}
use Rattle.pl_forms.specs.Solving.{passes}
use Rattle.pl_forms.proofs.solving.all_passes.Given as goal

abbrev pub invariant-loop-left : goal.invariant-loop-left
invariant-loop-left l = record {
  so_far : passes (length l.facts + 1) l.facts [] ≡ passes l.left l.facts l.solutions.items;
  forms : AreSolutions l.solutions.items;
}

abbrev pub decreases-loop-left : goal.decreases-loop-left
decreases-loop-left l = l.left
