use Rattle.std.proofs.Common.{◌≤◌, ◌^◌, ◌*ℤ◌, unsigned_abs, rules}
use mir.Val.{SFits}
use mir.Syntax.{w128}
use Rattle.std.proofs.lemmas.Int.{to_z-of_z}
use Rattle.pl_forms.proofs.FormSteps.{product_size}
use Rattle.pl_forms.proofs.step.constant_product.Goals as goal

pub returns-clause-is : goal.returns-clause-is
returns-clause-is c =
    let size : unsigned_abs (c.args.times *ℤ c.args.constant) ≤ 2 ^ 120 = product_size c.args.times c.args.constant (2 ^ 40) (2 ^ 80) c.requires.times c.requires.constant in
    let fit : SFits w128 (c.args.times *ℤ c.args.constant) = search rules in
    search rules

pub returns-clause-size : goal.returns-clause-size
returns-clause-size c =
    let size : unsigned_abs (c.args.times *ℤ c.args.constant) ≤ 2 ^ 120 = product_size c.args.times c.args.constant (2 ^ 40) (2 ^ 80) c.requires.times c.requires.constant in
    let times : SFits w128 c.args.times = search rules in
    let constant : SFits w128 c.args.constant = search rules in
    let fit : SFits w128 (c.args.times *ℤ c.args.constant) = search rules in
    simp to_z-of_z size
