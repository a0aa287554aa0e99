use Rattle.pl_forms.proofs.SolvingLaws.{solved_follow, solved_forms, solved_within}
use Rattle.pl_forms.proofs.NameLaws.{solved_named}
use Rattle.pl_forms.proofs.equation.Eqs.of.Goals as goal

pub returns-clause-forms : goal.returns-clause-forms
returns-clause-forms c = solved_forms c.args.facts.now.list _ c.requires.facts (rw c.as_slice.ensures at c.solve_all.ensures)

pub returns-clause-follow : goal.returns-clause-follow
returns-clause-follow c = solved_follow c.args.facts.now.list _ (rw c.as_slice.ensures at c.solve_all.ensures)

pub returns-clause-atoms : goal.returns-clause-atoms
returns-clause-atoms c = solved_within c.args.facts.now.list _ (rw c.as_slice.ensures at c.solve_all.ensures)

pub returns-clause-once : goal.returns-clause-once
returns-clause-once c = solved_named c.args.facts.now.list _ (rw c.as_slice.ensures at c.solve_all.ensures)
