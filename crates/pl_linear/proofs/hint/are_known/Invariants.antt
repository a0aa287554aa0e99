use Rattle.std.proofs.Common.{◌≡◌, drop}
use Rattle.pl_linear.specs.Hints.{are_known}
use Rattle.pl_linear.proofs.hint.are_known.Given as goal

abbrev pub invariant-loop-term : goal.invariant-loop-term
invariant-loop-term l = are_known l.facts l.hint ≡ are_known l.facts (drop l.term-index l.hint)
