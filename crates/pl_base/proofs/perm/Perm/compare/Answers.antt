use Rattle.std.proofs.Common.{rules}
use Rattle.pl_base.proofs.FractionLaws.{compared, is_fraction}
use Rattle.pl_base.proofs.perm.Perm.compare.Goals as goal

pub returns-clause-same : goal.returns-clause-same
returns-clause-same c = compared c.args.self c.args.other c.cmp.result (is_fraction c.self.view_is c.self.invariant) (is_fraction c.other.view_is c.other.invariant) (search rules)
