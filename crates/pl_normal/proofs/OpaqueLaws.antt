-- Equal forms.
use Rattle.std.proofs.Common.{◌≡◌, ◌≢◌, suc, true, false, ◌&&◌, nat_eq, cond, List, [], ◌∷◌, length, refl, ap}
use Rattle.std.specs.Ordering.{int_eq}
use Rattle.pl_forms.specs.declared.form.Part.{Part}
use Rattle.pl_normal.specs.Normal.{same_parts}

pub different_lengths : (xs ys : List Part) → length xs ≢ length ys → false ≡ same_parts xs ys
different_lengths [] [] h = absurd (h refl)
different_lengths [] (y ∷ ys) h = refl
different_lengths (x ∷ xs) [] h = refl
different_lengths (x ∷ xs) (y ∷ ys) h = elim (int_eq x.coeff y.coeff && nat_eq x.atom y.atom) as (λ b. false ≡ cond b (same_parts xs ys) false) [ true ↦ different_lengths xs ys (λ e. h (ap suc e)) | false ↦ refl ]
