use Rattle.std.proofs.Common.{sym}
use Rattle.pl_resource.proofs.Filled.{fits_one}
use Rattle.pl_resource.proofs.block.fill.Goals as goal

pub unreachable-requires : goal.unreachable-requires
unreachable-requires c =
    fits_one c.extend_from_slice.result c.loop-element._element c.args.count _ _ _ (sym c.if-is_err.ensures.value) c.extend_from_slice.ensures.full c.loop-element-test.true c.loop-element.invariant.len c.loop-element.invariant.room
