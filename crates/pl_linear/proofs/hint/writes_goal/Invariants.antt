use Rattle.std.proofs.Common.{◌≡◌, drop}
use Rattle.pl_linear.specs.Hints.{writes_goal}
use Rattle.pl_linear.proofs.hint.writes_goal.Given as goal

abbrev pub invariant-loop-term : goal.invariant-loop-term
invariant-loop-term l = writes_goal l.hint ≡ writes_goal (drop l.term-index l.hint)
