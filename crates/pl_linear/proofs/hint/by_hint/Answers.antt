use Rattle.pl_linear.proofs.HintLaws.{hint_shown, hint_law}
use Rattle.pl_linear.proofs.HintWhole.{hint_rule}
use Rattle.pl_linear.proofs.hint.by_hint.Goals as goal

pub returns-clause-certificate : goal.returns-clause-certificate
returns-clause-certificate c = hint_shown c.args.facts.now.list c.args.atoms _ c.args.hint.now c.outcome.result c.outcome.ensures

pub returns-clause-law : goal.returns-clause-law
returns-clause-law c = hint_law c.args.facts.now.list c.args.atoms _ c.outcome.result c.requires.fact_atoms c.requires.goal_atoms (hint_shown c.args.facts.now.list c.args.atoms _ c.args.hint.now c.outcome.result c.outcome.ensures)

pub returns-clause-rule : goal.returns-clause-rule
returns-clause-rule c = λ few. hint_rule c.args.facts.now.list c.args.atoms _ c.args.hint.now c.outcome.result c.requires.facts c.requires.goal c.requires.fact_atoms c.requires.goal_atoms c.outcome.ensures few
