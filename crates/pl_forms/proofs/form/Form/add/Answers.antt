use Rattle.std.proofs.Common.{◌∙◌, ◌+ℤ◌, ap, rules}
use mir.Val.{SFits}
use mir.Syntax.{w128}
use Rattle.std.proofs.lemmas.Int.{to_z-of_z}
use Rattle.pl_forms.specs.Forms.{limited}
use Rattle.pl_forms.proofs.FormMerging.{answers_same}
use Rattle.pl_forms.proofs.FormLimits.{sum_value, sum_form}
use Rattle.pl_forms.proofs.form.Form.add.Goals as goal

pub returns : goal.returns
returns c =
    let first : SFits w128 c.args.one.now.constant = search rules in
    let second : SFits w128 c.args.other.now.constant = search rules in
    let both : SFits w128 (c.args.one.now.constant +ℤ c.args.other.now.constant) = search rules in
    let made = c.limit.ensures ∙ simp to_z-of_z (ap (λ ps. limited ps (c.args.one.now.constant +ℤ c.args.other.now.constant)) (rw (c.as_slice.ensures, c.as_slice-2.ensures) at c.in_ok-parts.ensures)) in
    record {
      exact = answers_same _ _ made;
      value = sum_value c.args.one.now c.args.other.now _ made;
      form = sum_form c.args.one.now c.args.other.now _ c.requires.one c.requires.other made;
    }
