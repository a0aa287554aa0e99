use Rattle.std.proofs.Common.{◌≡◌, true, Ok, rules}
use Rattle.pl_forms.specs.Equations.{counted}
use Rattle.pl_linear.proofs.Given.{more_given}
use Rattle.pl_linear.proofs.bounds.add_counted.Goals as goal

pub returns-clause-given : goal.returns-clause-given
returns-clause-given c =
    let yes : counted c.args.eqs.now c.args.fact.now.guard ≡ Ok true = search rules in
    more_given c.args.eqs.now c.args.place c.args.fact.now c.in_ok-reduced.reduced.form c.in_ok-reduced.reduced.terms c.args.out.now.items c.add_reduced.new.out.items c.requires.named c.requires.eqs c.requires.fact yes c.in_ok-reduced.ensures.exact.0 c.in_ok-reduced.ensures.exact.1 c.in_ok-add_reduced.ensures
