use Rattle.pl_syntax.specs.Plain.{plain_expr}
use Rattle.pl_normal.specs.Normal.{made_of}
use Rattle.pl_normal.proofs.OrderLaws.{form_order, form_is, goal_order, goal_is, connected_order, connected_is}
use Rattle.pl_normal.proofs.forming.+forming.Goals as goal

pub normal_of-returns-clause-order : goal.normal_of-returns-clause-order
normal_of-returns-clause-order t c = form_order c.args.names.now (plain_expr c.args.e.now) (made_of c.args.atoms.now.items c.args.facts.now.list) (made_of c.formed.new.atoms.items c.formed.new.facts.list) c.formed.result c.requires c.formed.ensures

pub normal_of-returns-clause-form : goal.normal_of-returns-clause-form
normal_of-returns-clause-form t c = form_is c.args.names.now (plain_expr c.args.e.now) (made_of c.args.atoms.now.items c.args.facts.now.list) (made_of c.formed.new.atoms.items c.formed.new.facts.list) c.formed.result c.requires c.formed.ensures

pub condition_of-returns-clause-order : goal.condition_of-returns-clause-order
condition_of-returns-clause-order t c = goal_order c.args.names.now (plain_expr c.args.e.now) c.args.holds (made_of c.args.atoms.now.items c.args.facts.now.list) (made_of c.stated.new.atoms.items c.stated.new.facts.list) c.stated.result c.requires c.stated.ensures

pub condition_of-returns-clause-goal : goal.condition_of-returns-clause-goal
condition_of-returns-clause-goal t c = goal_is c.args.names.now (plain_expr c.args.e.now) c.args.holds (made_of c.args.atoms.now.items c.args.facts.now.list) (made_of c.stated.new.atoms.items c.stated.new.facts.list) c.stated.result c.requires c.stated.ensures

pub connected-returns-clause-order : goal.connected-returns-clause-order
connected-returns-clause-order t c = connected_order c.args.names.now c.args.op c.args.holds (plain_expr c.args.a.now) (plain_expr c.args.b.now) (made_of c.args.atoms.now.items c.args.facts.now.list) (made_of c.linked.new.atoms.items c.linked.new.facts.list) c.linked.result c.requires c.linked.ensures

pub connected-returns-clause-goal : goal.connected-returns-clause-goal
connected-returns-clause-goal t c = connected_is c.args.names.now c.args.op c.args.holds (plain_expr c.args.a.now) (plain_expr c.args.b.now) (made_of c.args.atoms.now.items c.args.facts.now.list) (made_of c.linked.new.atoms.items c.linked.new.facts.list) c.linked.result c.requires c.linked.ensures
