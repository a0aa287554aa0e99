use Rattle.std.proofs.Common.{rules}
use mir.Val.{SFits}
use mir.Syntax.{w128}
use Rattle.std.proofs.lemmas.Int.{to_z-of_z}
use Rattle.pl_forms.proofs.FormMultiples.{multiple_value, multiple_form}
use Rattle.pl_forms.proofs.form.Form.scale.Goals as goal

pub returns-clause-value : goal.returns-clause-value
returns-clause-value c =
    let fit : SFits w128 c.args.times = search rules in
    let exact = simp to_z-of_z at c.scale_form.ensures in
    multiple_value c.args.times c.args.form.now _ c.requires exact

pub returns-clause-form : goal.returns-clause-form
returns-clause-form c =
    let fit : SFits w128 c.args.times = search rules in
    let exact = simp to_z-of_z at c.scale_form.ensures in
    multiple_form c.args.times c.args.form.now _ c.requires exact
