-- A list that is cut into pieces: what stands in a piece, and a piece with another item.
use Rattle.std.proofs.Common.{◌≡◌, ℕ, zero, suc, ◌+◌, ◌*◌, ◌≤◌, ◌<◌, inl, inr, List, [], ◌∷◌, Some, None, length, take, drop, get_or, set, replicate, arith, refl, ap, ◌∙◌}
use Rattle.std.specs.Prelude.{slice_get}
use Rattle.std.specs.List.{repeat}
use Rattle.std.proofs.Math.Nat.{zero-mul, mul-le-mul_right}
use Rattle.std.proofs.Math.Seq.{take-set-lt, take-append_seam, drop-append_seam}
use Rattle.std.proofs.lemmas.List.{drop-drop, take-set-le, drop-set-lt, drop-set-add, get_or-drop, get_or-take, get_or_past, set_past, set-get_or, length-drop, length-take}
use Rattle.std.proofs.lemmas.Option.{slice_get-get_or, slice_get_past}
use Rattle.pl_resource.specs.Pieces.{pieces, IsPlace, HasNoPlace}

module _ {A : Type 0} where
  -- as many pieces as were asked for
  pub length-pieces : (size count : ℕ) (xs : List A) → length (pieces size count xs) ≡ count
  length-pieces size zero xs = refl
  length-pieces size (suc count) xs = ap suc (length-pieces size count (drop size xs))

  -- the piece of an index
  pub piece_at : (size count : ℕ) (xs : List A) (i : ℕ) → i < count
      → get_or (pieces size count xs) i [] ≡ take size (drop (i * size) xs)
  piece_at size zero xs i below = absurd (omega (arith, below))
  piece_at size (suc count) xs zero below = rw zero-mul refl
  piece_at size (suc count) xs (suc i) below =
      let next : size + i * size ≡ suc i * size = omega arith in
      piece_at size count (drop size xs) i (omega (arith, below)) ∙ ap (take size) (drop-drop (i * size) size xs ∙ ap (λ n. drop n xs) next)

  -- no piece is longer than it may be
  pub piece_small : (size count : ℕ) (xs : List A) (i : ℕ) → length (get_or (pieces size count xs) i []) ≤ size
  piece_small size zero xs i = omega arith
  piece_small size (suc count) xs zero = rw length-take (omega arith)
  piece_small size (suc count) xs (suc i) = piece_small size count (drop size xs) i

  pub value_there : (size count : ℕ) (xs : List A) (i j place : ℕ) (d : A) → length xs ≡ count * size
      → IsPlace size count i j place → slice_get (get_or (pieces size count xs) i []) j ≡ Some (get_or xs place d)
  value_there size count xs i j place d whole at =
      let most : (i + 1) * size ≤ count * size = mul-le-mul_right size (omega (arith, at.piece_there)) in
      let inside : j < length (take size (drop (i * size) xs)) = simp (length-take, length-drop) (omega (arith, most, whole, at.item_there)) in
      rw (piece_at size count xs i at.piece_there, at.place_is)
      (slice_get-get_or (take size (drop (i * size) xs)) j d inside
      ∙ ap Some (get_or-take size (drop (i * size) xs) j d at.item_there ∙ get_or-drop (i * size) xs j d))

  pub value_missing : (size count : ℕ) (xs : List A) (i j : ℕ) → HasNoPlace size count i j
      → slice_get (get_or (pieces size count xs) i []) j ≡ None
  value_missing size count xs i j (inl past) = rw (get_or_past (pieces size count xs) i [] (rw length-pieces past)) refl
  value_missing size count xs i j (inr past) =
      slice_get_past (get_or (pieces size count xs) i []) j (omega (arith, piece_small size count xs i, past))

  pub put_there : (size count : ℕ) (xs : List A) (i j : ℕ) (v : A) → i < count → j < size
      → pieces size count (set xs (i * size + j) v) ≡ set (pieces size count xs) i (set (get_or (pieces size count xs) i []) j v)
  put_there size zero xs i j v below item = absurd (omega (arith, below))
  put_there size (suc count) xs zero j v below item =
      let at : zero * size + j ≡ j = omega arith in
      rw (at, take-set-lt size xs j v item, drop-set-lt size xs j v item) refl
  put_there size (suc count) xs (suc i) j v below item =
      let at : suc i * size + j ≡ size + (i * size + j) = omega arith in
      rw (at, take-set-le size xs (size + (i * size + j)) v (omega arith), drop-set-add size xs (i * size + j) v)
      (ap (λ rest. take size xs ∷ rest) (put_there size count (drop size xs) i j v (omega (arith, below)) item))

  pub put_at : (size count : ℕ) (xs : List A) (i j place : ℕ) (v : A) → IsPlace size count i j place
      → pieces size count (set xs place v) ≡ set (pieces size count xs) i (set (get_or (pieces size count xs) i []) j v)
  put_at size count xs i j place v at = rw at.place_is (put_there size count xs i j v at.piece_there at.item_there)

  pub put_missing : (size count : ℕ) (xs : List A) (i j : ℕ) (v : A) → HasNoPlace size count i j
      → set (pieces size count xs) i (set (get_or (pieces size count xs) i []) j v) ≡ pieces size count xs
  put_missing size count xs i j v (inl past) = set_past (pieces size count xs) i _ (rw length-pieces past)
  put_missing size count xs i j v (inr past) =
      rw (set_past (get_or (pieces size count xs) i []) j v (omega (arith, piece_small size count xs i, past)))
      (set-get_or (pieces size count xs) i [])

  -- what is repeated is cut into copies
  pub pieces-repeat : (count : ℕ) (xs : List A) → pieces (length xs) count (repeat count xs) ≡ replicate count xs
  pieces-repeat zero xs = refl
  pieces-repeat (suc count) xs =
      rw (take-append_seam xs (repeat count xs), drop-append_seam xs (repeat count xs))
      (ap (λ rest. xs ∷ rest) (pieces-repeat count xs))
