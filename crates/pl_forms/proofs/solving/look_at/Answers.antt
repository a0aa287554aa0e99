use Rattle.pl_forms.proofs.SolvingLaws.{look_is_forms}
use Rattle.pl_forms.proofs.solving.look_at.Goals as goal

pub returns-clause-forms : goal.returns-clause-forms
returns-clause-forms c = look_is_forms _ _ c.args.place c.args.fact.now _ c.requires.fact c.requires.solutions c.look_by_shape.ensures
