use Rattle.pl_normal.proofs.OpaqueLaws.{different_lengths}
use Rattle.pl_normal.proofs.opaque.same_parts.Goals as goal

pub returns-then-one-other : goal.returns-then-one-other
returns-then-one-other c = different_lengths c.args.one.now c.args.other.now c.if-one-other.true
