use Rattle.std.proofs.Common.{rules}
use mir.Val.{SFits}
use mir.Syntax.{w128}
use Rattle.std.proofs.lemmas.Int.{to_z-of_z}
use Rattle.pl_forms.proofs.FormSteps.{difference_form}
use Rattle.pl_forms.proofs.form.Form.difference.Goals as goal

pub returns-clause-form : goal.returns-clause-form
returns-clause-form c =
    let fit : SFits w128 c.args.more = search rules in
    let exact = simp to_z-of_z at c.difference_of.ensures in
    difference_form c.args.one.now c.args.other.now c.args.more _ c.requires.one c.requires.other exact
