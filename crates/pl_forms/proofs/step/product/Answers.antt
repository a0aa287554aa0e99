use Rattle.std.proofs.Common.{◌≤◌, ◌^◌, ◌*ℤ◌, unsigned_abs, rules}
use mir.Val.{SFits}
use mir.Syntax.{w64, w128}
use Rattle.std.proofs.lemmas.Int.{to_z-of_z}
use Rattle.pl_forms.proofs.FormSteps.{product_size}
use Rattle.pl_forms.proofs.step.product.Goals as goal

pub returns-clause-is : goal.returns-clause-is
returns-clause-is c =
    let size : unsigned_abs (c.args.times *ℤ c.args.coeff) ≤ 2 ^ 80 = product_size c.args.times c.args.coeff (2 ^ 40) (2 ^ 40) c.requires.times c.requires.coeff in
    let fit : SFits w128 (c.args.times *ℤ c.args.coeff) = search rules in
    search rules

pub returns-clause-size : goal.returns-clause-size
returns-clause-size c =
    let size : unsigned_abs (c.args.times *ℤ c.args.coeff) ≤ 2 ^ 80 = product_size c.args.times c.args.coeff (2 ^ 40) (2 ^ 40) c.requires.times c.requires.coeff in
    let times : SFits w128 c.args.times = search rules in
    let narrow : SFits w64 c.args.coeff = search rules in
    let wide : SFits w128 c.args.coeff = search rules in
    let fit : SFits w128 (c.args.times *ℤ c.args.coeff) = search rules in
    simp (c.from.ensures, to_z-of_z) size
