use Rattle.std.proofs.Common.{rules}
use Rattle.pl_base.proofs.FractionLaws.{halves}
use Rattle.pl_base.proofs.perm.Perm.half.Goals as goal

pub returns-clause-adds : goal.returns-clause-adds
returns-clause-adds c = halves c.args.self c.reduced.result (search rules)
