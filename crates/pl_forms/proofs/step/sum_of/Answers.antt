use Rattle.std.proofs.Common.{◌+ℤ◌, ◌∙◌, ap, rules}
use mir.Val.{SFits}
use mir.Syntax.{w128}
use Rattle.std.proofs.lemmas.Int.{to_z-of_z}
use Rattle.pl_forms.proofs.FormSteps.{plus_made}
use Rattle.pl_forms.proofs.step.sum_of.Goals as goal

pub returns : goal.returns
returns c =
    let times : SFits w128 c.args.times = search rules in
    let first : SFits w128 c.args.one.now.constant = search rules in
    let second : SFits w128 c.args.other.now.constant = search rules in
    let product : SFits w128 c.constant_product-more.result = search rules in
    let whole : SFits w128 c.constant_sum.result = search rules in
    let put = rw (c.as_slice.ensures, c.as_slice-2.ensures) at c.in_ok-parts.ensures in
    let parts = simp to_z-of_z at put in
    let more = simp to_z-of_z at c.constant_product-more.ensures.is in
    let sum = simp to_z-of_z at c.constant_sum.ensures in
    let made = simp to_z-of_z at c.with_constant.ensures in
    plus_made c.args.one.now c.args.other.now c.args.times c.constant_sum.result c.in_ok-parts.parts.items _ parts.0 parts.1 (sum ∙ ap (λ m. c.args.one.now.constant +ℤ m) more) made
