use Rattle.pl_syntax.specs.Plain.{plain_expr}
use Rattle.pl_normal.specs.Normal.{made_of, made_by}
use Rattle.pl_normal.proofs.OrderLaws.{form_in_order, value_kept}
use Rattle.pl_normal.proofs.forming.normal.Goals as goal

pub returns-clause-order : goal.returns-clause-order
returns-clause-order c = form_in_order c.args.scope.now.bound (plain_expr c.args.e.now) (made_by c.args.scope.now c.args.facts.now) (made_of c.normal_of.new.atoms.items c.normal_of.new.facts.list) c.normal_of.result c.requires (rw c.as_slice.ensures at c.normal_of.ensures.exact)

pub returns-clause-value : goal.returns-clause-value
returns-clause-value c = value_kept c.args.scope.now.bound (plain_expr c.args.e.now) (made_by c.args.scope.now c.args.facts.now) (made_of c.normal_of.new.atoms.items c.normal_of.new.facts.list) c.normal_of.result c.requires (rw c.as_slice.ensures at c.normal_of.ensures.exact)
