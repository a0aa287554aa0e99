use Rattle.std.proofs.Common.{◌^◌, rules, arith}
use mir.Val.{SFits}
use mir.Syntax.{w128}
use Rattle.std.proofs.lemmas.Int.{to_z-of_z}
use Rattle.pl_forms.specs.Rows.{at}
use Rattle.pl_forms.proofs.Divisors.{rest_le, tight_is}
use Rattle.pl_forms.proofs.row.tighten.Goals as goal

pub ceiling-constant-requires-clause-divisor : goal.ceiling-constant-requires-clause-divisor
ceiling-constant-requires-clause-divisor c = rw c.common-g.ensures (rest_le c.args.row.now (2 ^ 126) c.requires.sizes)

pub divide-requires : goal.divide-requires
divide-requires c = (omega arith, rw c.common-g.ensures (rest_le c.args.row.now (2 ^ 126) c.requires.sizes))

pub returns-then-g-gt1 : goal.returns-then-g-gt1
returns-then-g-gt1 c =
    let fit : SFits w128 c.ceiling-constant.result = search rules in
    let read : SFits w128 (at c.args.row.now 0) = search rules in
    let q = simp to_z-of_z at c.ceiling-constant.ensures in
    rw (to_z-of_z w128 c.ceiling-constant.result fit) (tight_is c.args.row.now c.common-g.result c.ceiling-constant.result c.divide.new.row c.common-g.ensures (omega arith) c.divide.ensures q)
