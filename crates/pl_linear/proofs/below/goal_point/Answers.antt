use Rattle.std.proofs.Common.{ap, sym, ◌∙◌}
use Rattle.pl_linear.specs.Decisions.{own_nodes, shown}
use Rattle.pl_linear.proofs.Shown.{last_is}
use Rattle.pl_linear.proofs.below.goal_point.Goals as goal

pub returns-in_ok-shown-in-Some : goal.returns-in_ok-shown-in-Some
returns-in_ok-shown-in-Some c =
    let values = rw (c.deref.ensures.value, c.in_ok-nodes-in-Some.ensures) at c.in_ok-shown-in-Some.ensures in
    c.of-in-Some.ensures ∙ values ∙ ap (λ g. shown c.args.point.now (own_nodes g)) (sym (last_is c.args.bounds.now c.in-Some.bound.now (sym c.in-Some.ensures.value)))
