-- Laws of what is left of lists.
use Rattle.std.proofs.Common.{◌≡◌, ◌∙◌, sym, ap, refl, ℕ, zero, suc, ◌+◌, ◌<◌, List, [], ◌∷◌, length, drop, get_or, add-one}
use Rattle.std.specs.List.{slice_get}
use Rattle.std.proofs.Math.Seq.{drop-cons}
use Rattle.std.proofs.lemmas.List.{drop-drop}

-- the element at i and those behind it
pub dropped : {X : Type 0} (list : List X) (i : ℕ) (x : X) → i < length list → x ≡ get_or list i x → drop i list ≡ x ∷ drop (i + 1) list
dropped list i x h e = drop-cons list i x h ∙ ap (λ y. y ∷ drop (suc i) list) (sym e) ∙ ap (λ n. x ∷ drop n list) (sym (add-one i))

pub slice_get_drop : {X : Type 0} (xs : List X) (i : ℕ) → slice_get (drop i xs) 0 ≡ slice_get xs i
slice_get_drop [] zero = refl
slice_get_drop [] (suc i) = refl
slice_get_drop (x ∷ xs) zero = refl
slice_get_drop (x ∷ xs) (suc i) = slice_get_drop xs i

pub drop-drop_one : {X : Type 0} (xs : List X) (i : ℕ) → drop 1 (drop i xs) ≡ drop (i + 1) xs
drop-drop_one xs i = drop-drop 1 i xs
