use Rattle.std.proofs.Common.{◌+ℤ◌, ◌∙◌, ap, rules}
use mir.Val.{SFits}
use mir.Syntax.{w128}
use Rattle.std.proofs.lemmas.Int.{to_z-of_z}
use Rattle.pl_forms.proofs.FormSteps.{difference_made}
use Rattle.pl_forms.proofs.step.difference_of.Goals as goal

pub returns : goal.returns
returns c =
    let last : SFits w128 c.args.more = search rules in
    let first : SFits w128 c.args.one.now.constant = search rules in
    let second : SFits w128 c.args.other.now.constant = search rules in
    let product : SFits w128 c.constant_product-negated.result = search rules in
    let whole : SFits w128 c.constant_total.result = search rules in
    let put = rw (c.as_slice.ensures, c.as_slice-2.ensures) at c.in_ok-parts.ensures in
    let negated = simp to_z-of_z at c.constant_product-negated.ensures.is in
    let total = simp to_z-of_z at c.constant_total.ensures in
    let made = simp to_z-of_z at c.with_constant.ensures in
    difference_made c.args.one.now c.args.other.now c.args.more c.constant_total.result c.in_ok-parts.parts.items _ put.0 put.1 (total ∙ ap (λ m. (c.args.one.now.constant +ℤ m) +ℤ c.args.more) negated) made
