use Rattle.std.proofs.Common.{sym}
use Rattle.pl_linear.proofs.Listing.{lengths_differ}
use Rattle.pl_linear.proofs.nodes.is_same.Goals as goal

pub returns-then-one-other : goal.returns-then-one-other
returns-then-one-other c = sym (lengths_differ c.args.one.now c.args.other.now c.if-one-other.true)
