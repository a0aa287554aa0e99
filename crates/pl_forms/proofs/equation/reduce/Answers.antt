use Rattle.pl_forms.proofs.Reducing.{reduce_value, reduce_form}
use Rattle.pl_forms.proofs.PlaceLaws.{reduce_within}
use Rattle.pl_forms.proofs.equation.reduce.Goals as goal

pub returns-clause-value : goal.returns-clause-value
returns-clause-value c = reduce_value c.args.solutions.now c.args.form.now _ c.reduce_all.ensures

pub returns-clause-form : goal.returns-clause-form
returns-clause-form c = reduce_form c.args.solutions.now c.args.form.now _ c.requires.solutions c.requires.form c.reduce_all.ensures

pub returns-clause-atoms : goal.returns-clause-atoms
returns-clause-atoms c = reduce_within c.args.solutions.now c.args.form.now _ c.reduce_all.ensures
