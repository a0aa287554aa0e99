use Rattle.std.proofs.Common.{◌≡◌, map, take}
use Rattle.pl_linear.specs.Bounds.{minus_term}
use Rattle.pl_linear.proofs.bounds.opposite_terms.Given as goal

abbrev pub invariant-loop-term : goal.invariant-loop-term
invariant-loop-term l = l.out.items ≡ map minus_term (take l.term-index l.terms)
