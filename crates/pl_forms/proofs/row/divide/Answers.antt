use Rattle.std.proofs.Common.{◌∙◌, rules, add-one, int_div, pos, arith}
use mir.Val.{SFits}
use mir.Syntax.{w128}
use Rattle.std.proofs.lemmas.Int.{to_z-of_z}
use Rattle.pl_forms.specs.Rows.{at}
use Rattle.pl_forms.proofs.Divisors.{divide_step}
use Rattle.pl_forms.proofs.row.divide.Goals as goal

pub loop-i-preserved : goal.loop-i-preserved
loop-i-preserved c =
    let fit : SFits w128 c.quotient.result = search rules in
    let read : SFits w128 (at c.loop-i.row c.loop-i.i) = search rules in
    let q = simp to_z-of_z at c.quotient.ensures in
    rw (add-one, to_z-of_z w128 c.quotient.result fit, q) (c.loop-i.invariant ∙ divide_step (λ x. int_div x (pos c.args.g)) c.loop-i.row c.loop-i.i (omega arith))
