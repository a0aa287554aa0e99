use Rattle.std.proofs.Common.{◌≡◌, ◌+◌, ◌*◌, length}
use Rattle.std.specs.Prelude.{vec_capacity}
use Rattle.c_meaning.specs.Local.{size}
use Rattle.c_meaning.specs.Blocks.{Kept, left}
use Rattle.c_meaning.proofs.frame.run_local.Given as goal

abbrev pub invariant-places : goal.invariant-places
invariant-places l =
    Kept l.code (vec_capacity l.fn.spots) (left l.code l.fn.spots.items) l.fn.env.items l.spots.items l.env.items × (vec_capacity l.spots ≡ vec_capacity l.fn.spots)

abbrev pub decreases-places : goal.decreases-places
decreases-places l = 2 * size (left l.code l.spots.items) + length l.spots.items
