use Rattle.std.proofs.Common.{true}
use Rattle.pl_syntax.specs.Plain.{plain_expr}
use Rattle.pl_normal.specs.Normal.{made_of, made_by}
use Rattle.pl_normal.proofs.OrderLaws.{goal_in_order, truth_kept}
use Rattle.pl_normal.proofs.forming.condition.Goals as goal

pub returns-clause-order : goal.returns-clause-order
returns-clause-order c = goal_in_order c.args.scope.now.bound (plain_expr c.args.e.now) true (made_by c.args.scope.now c.args.facts.now) (made_of c.condition_of.new.atoms.items c.condition_of.new.facts.list) c.condition_of.result c.requires (rw c.as_slice.ensures at c.condition_of.ensures.exact)

pub returns-clause-truth : goal.returns-clause-truth
returns-clause-truth c = truth_kept c.args.scope.now.bound (plain_expr c.args.e.now) true (made_by c.args.scope.now c.args.facts.now) (made_of c.condition_of.new.atoms.items c.condition_of.new.facts.list) c.condition_of.result c.requires (rw c.as_slice.ensures at c.condition_of.ensures.exact)
