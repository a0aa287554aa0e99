use Rattle.std.proofs.Common.{◌≡◌, ◌++◌, drop}
use Rattle.pl_forms.specs.Forms.{IsForm}
use Rattle.pl_forms.specs.Equations.{reduced}
use Rattle.pl_forms.specs.Terms.{between}
use Rattle.pl_forms.proofs.between.terms_between.Given as goal

abbrev pub invariant-loop-solution : goal.invariant-loop-solution
invariant-loop-solution l = record {
  one : reduced l.solutions l.one ≡ reduced (drop l.solution-index l.solutions) l.first;
  other : reduced l.solutions l.other ≡ reduced (drop l.solution-index l.solutions) l.second;
  added : between l.solutions l.same l.one l.other ≡ l.terms.items ++ between (drop l.solution-index l.solutions) l.same l.first l.second;
  is_first : IsForm l.first;
  is_second : IsForm l.second;
}
