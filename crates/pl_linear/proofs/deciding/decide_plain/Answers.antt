use Rattle.pl_linear.proofs.Witnessed.{zero_plain, below_plain, apart_plain}
use Rattle.pl_linear.proofs.deciding.decide_plain.Goals as goal

pub returns-in-Zero-clause-witness : goal.returns-in-Zero-clause-witness
returns-in-Zero-clause-witness c = rw c.in-Zero.is (zero_plain c.in_ok-eqs.eqs.solved c.args.facts.now.list c.args.form.now c.decide_equal.result c.in_ok-eqs.ensures.exact c.in_ok-eqs.ensures.atoms c.decide_equal.ensures.witness)

pub returns-in-Below-clause-witness : goal.returns-in-Below-clause-witness
returns-in-Below-clause-witness c = rw c.in-Below.is (below_plain c.in_ok-eqs.eqs.solved c.args.facts.now.list c.args.form.now c.decide_below.result c.in_ok-eqs.ensures.exact c.in_ok-eqs.ensures.atoms c.decide_below.ensures.witness)

pub returns-clause-witness : goal.returns-clause-witness
returns-clause-witness c = rw c.in-Differs.is (apart_plain c.in_ok-eqs.eqs.solved c.args.facts.now.list c.args.form.now c.decide_apart.result c.in_ok-eqs.ensures.exact c.in_ok-eqs.ensures.atoms c.decide_apart.ensures.witness)
