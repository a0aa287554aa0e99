use Rattle.std.proofs.Common.{rules}
use mir.Val.{SFits}
use mir.Syntax.{w128}
use Rattle.std.proofs.lemmas.Int.{to_z-of_z}
use Rattle.pl_forms.proofs.FormSteps.{plus_value, plus_form}
use Rattle.pl_forms.proofs.form.Form.add_multiple.Goals as goal

pub returns-clause-value : goal.returns-clause-value
returns-clause-value c =
    let fit : SFits w128 c.args.times = search rules in
    let exact = simp to_z-of_z at c.sum_of.ensures in
    plus_value c.args.one.now c.args.other.now c.args.times _ exact

pub returns-clause-form : goal.returns-clause-form
returns-clause-form c =
    let fit : SFits w128 c.args.times = search rules in
    let exact = simp to_z-of_z at c.sum_of.ensures in
    plus_form c.args.one.now c.args.other.now c.args.times _ c.requires.some c.requires.one c.requires.other exact
