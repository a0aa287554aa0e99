use Rattle.pl_linear.proofs.WitnessLaws.{confirms_law}
use Rattle.pl_linear.proofs.confirming.confirms.Goals as goal

pub returns-clause-law : goal.returns-clause-law
returns-clause-law c = confirms_law c.args.facts.now.list c.args.atoms _ c.args.groups.now c.confirm.result c.requires.fact_atoms c.requires.goal_atoms c.confirm.ensures
