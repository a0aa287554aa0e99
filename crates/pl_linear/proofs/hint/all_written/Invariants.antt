use Rattle.std.proofs.Common.{◌≡◌, [], drop}
use Rattle.pl_linear.specs.Hints.{with_terms}
use Rattle.pl_linear.proofs.hint.all_written.Given as goal

abbrev pub invariant-loop-term : goal.invariant-loop-term
invariant-loop-term l = with_terms l.eqs l.facts l.divisor l.negated.terms [] l.hint ≡ with_terms l.eqs l.facts l.divisor l.negated.terms l.out.items (drop l.term-index l.hint)
