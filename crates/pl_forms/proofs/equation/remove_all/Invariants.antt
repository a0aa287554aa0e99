use Rattle.std.proofs.Common.{◌≡◌, ◌++◌, drop}
use Rattle.pl_forms.specs.Forms.{IsForm}
use Rattle.pl_forms.specs.Equations.{reduced}
use Rattle.pl_forms.specs.Terms.{terms}
use Rattle.pl_forms.proofs.equation.remove_all.Given as goal

abbrev pub invariant-loop-solution : goal.invariant-loop-solution
invariant-loop-solution l = record {
  so_far : reduced l.solutions l.form ≡ reduced (drop l.solution-index l.solutions) l.now;
  added : terms l.solutions l.form ≡ l.terms.items ++ terms (drop l.solution-index l.solutions) l.now;
  is_form : IsForm l.now;
}
