use Rattle.std.proofs.Common.{◌≡◌, drop}
use Rattle.pl_forms.specs.Equations.{coeff_of}
use Rattle.pl_forms.proofs.equation.multiple_of.Given as goal

abbrev pub invariant-loop-part : goal.invariant-loop-part
invariant-loop-part l = coeff_of l.atom l.parts ≡ coeff_of l.atom (drop l.part-index l.parts)
