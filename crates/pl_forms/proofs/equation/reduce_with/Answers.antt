use Rattle.pl_forms.proofs.TermLaws.{reduces_within, reduces_small}
use Rattle.pl_forms.proofs.equation.reduce_with.Goals as goal

pub returns-clause-atoms : goal.returns-clause-atoms
returns-clause-atoms c = reduces_within c.args.solutions.now c.args.form.now _ c.remove_all.ensures.exact

pub returns-clause-sizes : goal.returns-clause-sizes
returns-clause-sizes c = reduces_small c.args.solutions.now c.args.form.now _ c.requires.solutions c.requires.form c.remove_all.ensures.exact
