-- How the elements of a block stand in one list of values.
use Rattle.std.specs.Prelude.{◌≡◌, ℕ, zero, suc, ◌+◌, ◌*◌, ◌<◌, ◌≤◌, ◌⊎◌, List, [], ◌∷◌, take, drop}

-- a list that is cut into so many pieces of that size
abbrev pub pieces : {A : Type 0} → ℕ → ℕ → List A → List (List A)
pieces size zero xs = []
pieces size (suc count) xs = take size xs ∷ pieces size count (drop size xs)

-- the place in the list of an item of a piece
pub record IsPlace (size count piece item place : ℕ) : Type 0 where
  pub piece_there : piece < count
  pub item_there : item < size
  pub place_is : place ≡ piece * size + item

-- there is no such piece, or no such item in it
abbrev pub HasNoPlace : ℕ → ℕ → ℕ → ℕ → Type 0
HasNoPlace size count piece item = (count ≤ piece) ⊎ (size ≤ item)
