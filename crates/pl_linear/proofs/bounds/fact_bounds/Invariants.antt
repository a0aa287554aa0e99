use Rattle.std.proofs.Common.{◌≡◌, [], drop}
use Rattle.pl_linear.specs.Duty.{look_all}
use Rattle.pl_linear.specs.Bounds.{forms_of, GivenBy}
use Rattle.pl_linear.proofs.bounds.fact_bounds.Given as goal

abbrev pub invariant-loop-i : goal.invariant-loop-i
invariant-loop-i l = record {
  so_far : look_all l.eqs [] l.facts ≡ look_all l.eqs (forms_of l.out.items) (drop l.i l.facts);
  given : GivenBy l.eqs l.facts l.out.items;
}
