use Rattle.std.proofs.Common.{◌≡◌, map, take}
use Rattle.pl_forms.specs.Tightening.{divided}
use Rattle.pl_forms.proofs.tightening.quotients.Given as goal

abbrev pub invariant-loop-part : goal.invariant-loop-part
invariant-loop-part l = l.out.items ≡ map (divided l.divisor) (take l.part-index l.parts)
