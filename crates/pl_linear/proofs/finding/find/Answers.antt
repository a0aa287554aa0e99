use Rattle.pl_linear.proofs.Settling.{whole_found}
use Rattle.pl_linear.proofs.finding.find.Goals as goal

pub returns-clause-certificate : goal.returns-clause-certificate
returns-clause-certificate c = whole_found c.args.facts.now.list c.args.goal.now c.in_ok-eqs.eqs.solved c.find_with.result c.in_ok-eqs.ensures.exact c.in_ok-eqs.ensures.atoms c.find_with.ensures.certificate
