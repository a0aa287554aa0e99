use Rattle.pl_normal.proofs.Expressions.{normal_law, condition_law}
use Rattle.pl_normal.proofs.laws.normal_laws.Goals as goal

pub returns-clause-forms : goal.returns-clause-forms
returns-clause-forms c = normal_law

pub returns-clause-conditions : goal.returns-clause-conditions
returns-clause-conditions c = condition_law
