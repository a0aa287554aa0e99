use Rattle.std.proofs.Common.{◌/◌, arith}
use Rattle.pl_base.proofs.FractionLaws.{some_common, is_reduced, made}
use Rattle.pl_base.proofs.perm.reduced.Goals as goal

pub nonzero_div-num : goal.nonzero_div-num
nonzero_div-num c = some_common c.args.num c.args.den c.greatest_common-common.result c.requires.some c.greatest_common-common.ensures

pub nonzero_div-den : goal.nonzero_div-den
nonzero_div-den c = some_common c.args.num c.args.den c.greatest_common-common.result c.requires.some c.greatest_common-common.ensures

pub returns-then-den-gt-FINEST-clause-exact : goal.returns-then-den-gt-FINEST-clause-exact
returns-then-den-gt-FINEST-clause-exact c =
    (c.args.num / c.greatest_common-common.result, is_reduced c.args.num c.args.den c.greatest_common-common.result c.requires.some c.greatest_common-common.ensures, omega arith)

pub invariant_of-result : goal.invariant_of-result
invariant_of-result c = made c.args.num c.args.den c.greatest_common-common.result c.requires.some c.requires.within c.greatest_common-common.ensures (omega arith)

pub returns-clause-fraction : goal.returns-clause-fraction
returns-clause-fraction c = made c.args.num c.args.den c.greatest_common-common.result c.requires.some c.requires.within c.greatest_common-common.ensures (omega arith)

pub returns-clause-exact : goal.returns-clause-exact
returns-clause-exact c = is_reduced c.args.num c.args.den c.greatest_common-common.result c.requires.some c.greatest_common-common.ensures
