-- The results of items, and places for them while they are put in order.
use Rattle.std.specs.Prelude.{◌≡◌, ◌⊎◌, ℕ, ◌<◌, ◌≤◌, List, length, Some, Option, slice_index_or}
use mathlib.Core.Option.{some}
use lib.ListN.{get_elem?}
use Rattle.pl_jobs.specs.declared.work.Done.{Done}
use Rattle.pl_jobs.specs.Numbers.{times}
use Rattle.pl_jobs.specs.Items.{numbers}

module _ {W T : Type 0} (gives : W → ℕ → T → Type 0) (work : W) where
  -- the result of the item k is in its place
  abbrev pub RightAt : List (Option T) → ℕ → Type 0
  RightAt slots k = (x : T) × (get_elem? slots k ≡ some (Some x)) × gives work k x

  -- the result of each item is in its place, or still among these
  abbrev pub Reaches : ℕ → List (Option T) → List (Done T) → Type 0
  Reaches items slots ds = (k : ℕ) → k < items → (0 < times k (numbers ds)) ⊎ RightAt slots k

  -- the results of the items from `from` on are in their places
  abbrev pub RightFrom : ℕ → ℕ → List (Option T) → Type 0
  RightFrom from items slots = (k : ℕ) → from ≤ k → k < items → RightAt slots k

  -- the results in the order of their items: the one at k may come of the item k
  abbrev pub InOrder : List T → Type 0
  InOrder xs = (k : ℕ) (d : T) → k < length xs → gives work k (slice_index_or xs k d)
