use Rattle.std.proofs.Common.{◌∙◌}
use Rattle.std.specs.Prelude.{vec_capacity}
use Rattle.c_meaning.proofs.FrameEvents.{end_goes}
use Rattle.c_meaning.proofs.thread.take_place.Goals as goal

pub places-preserved : goal.places-preserved
places-preserved c =
    let i = c.places.invariant in
    let e = end_goes c.args.code.now (vec_capacity c.args.spots.now) c.args.spots.now.items c.places.spots.items c.pop.new.self.items c.in-Some.spot c.in-Some.ensures.items i.0 i.1 c.in_default-op_at.ensures.none in
    (e.0, e.1, c.pop.ensures.capacity ∙ i.2)
