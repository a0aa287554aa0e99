use Rattle.std.proofs.Common.{◌≡◌, negsuc, Ok, sym, subst, rules}
use Rattle.pl_forms.specs.Steps.{plus}
use Rattle.pl_linear.specs.Duty.{one_form}
use Rattle.pl_linear.specs.Bounds.{IsGiven}
use Rattle.pl_linear.proofs.Given.{goal_given}
use Rattle.pl_linear.proofs.bounds.negated_goal.Goals as goal

pub returns-clause-given : goal.returns-clause-given
returns-clause-given c =
    let made : plus one_form (negsuc 0) c.args.goal.now ≡ Ok c.in_ok-negated.negated = search rules in
    λ facts. subst (IsGiven c.args.eqs.now facts c.args.goal.now) (sym c.in_ok-forward.ensures) (goal_given c.args.eqs.now c.args.goal.now c.in_ok-negated.negated c.in_ok-reduced.reduced.form c.in_ok-reduced.reduced.terms c.requires.named c.requires.eqs c.requires.goal made c.in_ok-reduced.ensures.exact.0 c.in_ok-reduced.ensures.exact.1 facts)
