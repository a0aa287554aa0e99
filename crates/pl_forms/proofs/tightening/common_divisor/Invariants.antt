use Rattle.std.proofs.Common.{◌≡◌, drop}
use Rattle.pl_forms.specs.Tightening.{common}
use Rattle.pl_forms.proofs.tightening.common_divisor.Given as goal

abbrev pub invariant-loop-part : goal.invariant-loop-part
invariant-loop-part l = common 0 l.parts ≡ common l.g (drop l.part-index l.parts)
