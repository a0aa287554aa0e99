use Rattle.std.proofs.Common.{◌≡◌, length}
use Rattle.std.specs.Prelude.{vec_capacity}
use Rattle.c_meaning.specs.Blocks.{left, fits}
use Rattle.c_meaning.proofs.thread.take_place.Given as goal

abbrev pub invariant-places : goal.invariant-places
invariant-places l =
    (left l.code l.fn.spots.items ≡ left l.code l.spots.items) × fits l.code 0 (vec_capacity l.fn.spots) l.spots.items × (vec_capacity l.spots ≡ vec_capacity l.fn.spots)

abbrev pub decreases-places : goal.decreases-places
decreases-places l = length l.spots.items
