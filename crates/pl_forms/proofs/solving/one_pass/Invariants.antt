use Rattle.std.proofs.Common.{◌≡◌, drop}
use Rattle.pl_forms.specs.Equations.{AreSolutions}
use Rattle.pl_forms.specs.Solving.{pass}
use Rattle.pl_forms.proofs.solving.one_pass.Given as goal

abbrev pub invariant-loop-i : goal.invariant-loop-i
invariant-loop-i l = record {
  so_far : pass 0 l.facts l.initial.solutions.items ≡ pass l.i (drop l.i l.facts) l.solutions.items;
  forms : AreSolutions l.solutions.items;
}
