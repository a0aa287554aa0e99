use Rattle.std.proofs.Common.{refl}
use Rattle.pl_resource.proofs.Cut.{pieces-repeat}
use Rattle.pl_resource.proofs.block.Block.new.Goals as goal

pub returns : goal.returns
returns c = rw (c.fill-values.ensures.items, pieces-repeat c.args.count c.args.first.now) refl
