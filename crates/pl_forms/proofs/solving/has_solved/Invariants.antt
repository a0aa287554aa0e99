use Rattle.std.proofs.Common.{◌≡◌, drop}
use Rattle.pl_forms.specs.Solving.{is_solved}
use Rattle.pl_forms.proofs.solving.has_solved.Given as goal

abbrev pub invariant-loop-solution : goal.invariant-loop-solution
invariant-loop-solution l = is_solved l.place l.solutions ≡ is_solved l.place (drop l.solution-index l.solutions)
