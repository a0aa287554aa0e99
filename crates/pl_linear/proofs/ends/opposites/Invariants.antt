use Rattle.std.proofs.Common.{◌≡◌, map, take}
use Rattle.pl_linear.specs.Ends.{minus}
use Rattle.pl_linear.proofs.ends.opposites.Given as goal

abbrev pub invariant-loop-part : goal.invariant-loop-part
invariant-loop-part l = l.out.items ≡ map minus (take l.part-index l.parts)
