use Rattle.std.proofs.Common.{◌≡◌, rules}
use Rattle.pl_linear.specs.declared.found.Decided.TheVariants.{Done}
use Rattle.pl_linear.specs.Witnesses.{IsOfBelow}
use Rattle.pl_linear.proofs.Witnessed.{joined_below, done_is}
use Rattle.pl_linear.proofs.deciding.decide_both_sides.Goals as goal

pub returns-in_ok-join-in-Ok-Done-clause-witness : goal.returns-in_ok-join-in-Ok-Done-clause-witness
returns-in_ok-join-in-Ok-Done-clause-witness c =
    let is : c.in-Ok-Done.field-0 ≡ Done c.in-Ok-Done.groups = search rules in
    let first = done_is (IsOfBelow c.args.eqs.now.solved c.args.facts.now.list c.args.form.now) c.in-Ok-Done.field-0 c.in-Ok-Done.groups is c.in-Ok-Done.ensures.witness in
    let other = rw c.in_ok-opposite-in-Ok-Done.ensures.is at c.in_ok-rest-in-Ok-Done.ensures.witness in
    rw c.in_ok-join-in-Ok-Done.ensures (joined_below c.args.eqs.now.solved c.args.facts.now.list c.args.form.now c.in-Ok-Done.groups c.in_ok-rest-in-Ok-Done.rest first other)
