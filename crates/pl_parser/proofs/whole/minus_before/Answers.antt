use Rattle.std.proofs.Common.{arith}
use Rattle.pl_parser.proofs.Refusing.{before_told}
use Rattle.pl_parser.proofs.whole.minus_before.Goals as goal

pub returns : goal.returns
returns c = before_told c.args.tokens.now c.args.k c.is_last_minus.result (omega arith) c.is_last_minus.ensures
