use Rattle.pl_terms.proofs.AtomLaws.{all_keeps, all_both, take_out}
use Rattle.pl_terms.proofs.laws.atom_laws.Goals as goal

pub returns-clause-keeps : goal.returns-clause-keeps
returns-clause-keeps c = λ vs us atoms x e h. all_keeps e atoms x h

pub returns-clause-both : goal.returns-clause-both
returns-clause-both c = all_both

pub returns-clause-taken : goal.returns-clause-taken
returns-clause-taken c = take_out
