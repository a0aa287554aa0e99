use Rattle.pl_linear.proofs.Witnessed.{absurd_witness}
use Rattle.pl_linear.proofs.deciding.decide_absurd.Goals as goal

pub returns-clause-witness : goal.returns-clause-witness
returns-clause-witness c = absurd_witness c.in_ok-eqs.eqs.solved c.args.facts.now.list c.in_ok-longer.longer.list c.args.form.now c.decide_below.result c.in_ok-longer.ensures.is c.in_ok-longer.ensures.atoms c.in_ok-eqs.ensures.exact c.in_ok-eqs.ensures.atoms (rw c.of_constant.ensures.is at c.decide_below.ensures.witness)
