-- How two lists of parts are merged.
use Rattle.std.proofs.Common.{◌≡◌, ◌<◌, ◌≤◌, ℕ, ℤ, ◌+ℤ◌, true, false, cond, List, [], ◌∷◌, ◌++◌, refl, ap, sym, length, drop, take, Ok, Err, Result, get_or, pos, suc, ◌+◌, ◌-◌, ◌⊎◌, inl, inr, rules, drop-cons, append_assoc, append-nil, add-one}
use Rattle.std.proofs.lemmas.List.{take_rest, drop_all}
use Rattle.std.specs.Prelude.{nat_lt}
use Rattle.pl_forms.specs.declared.form.Part.{Part}
use Rattle.pl_forms.specs.declared.form.Form.{Form}
use Rattle.pl_forms.specs.declared.form.TermError.{TermError}
use Rattle.pl_forms.specs.declared.form.TermError.TheVariants.{TooLarge, Memory}
use Rattle.pl_forms.specs.Forms.{merge, put_part, is_zero, Answers}

pub merge-nil : (xs : List Part) → merge xs [] ≡ xs
merge-nil [] = refl
merge-nil (a ∷ more) = ap (λ r. a ∷ r) (merge-nil more)

pub put-append : (n : ℕ) (c : ℤ) (rest : List Part) → put_part n c rest ≡ put_part n c [] ++ rest
put-append n c rest =
    elim (is_zero c) as (λ z. cond z rest (record { coeff = c; atom = n } ∷ rest) ≡ cond z [] (record { coeff = c; atom = n } ∷ []) ++ rest) [ true ↦ refl | false ↦ refl ]

pub merge_equal : (a b : Part) (more bs : List Part) → nat_lt a.atom b.atom ≡ false → nat_lt b.atom a.atom ≡ false → merge (a ∷ more) (b ∷ bs) ≡ put_part a.atom (a.coeff +ℤ b.coeff) [] ++ merge more bs
merge_equal a b more bs p q = rw (p, q) (put-append a.atom (a.coeff +ℤ b.coeff) (merge more bs))

pub answers_same : (r w : Result Form TermError) → r ≡ w → Answers r w
answers_same (Ok f) w h = sym h
answers_same (Err (TooLarge n)) w h = sym h
answers_same (Err Memory) w h = tt

abbrev pub blank : Part
blank = record { coeff = pos 0; atom = 0 }

abbrev pub at : List Part → ℕ → Part
at xs i = get_or xs i blank

pub step_equal : (xs ys out out' : List Part) (i j : ℕ) → i < length xs → j < length ys → (at ys j).atom ≤ (at xs i).atom → (at xs i).atom ≤ (at ys j).atom → out' ≡ out ++ put_part (at xs i).atom ((at xs i).coeff +ℤ (at ys j).coeff) [] → out ++ merge (drop i xs) (drop j ys) ≡ out' ++ merge (drop (i + 1) xs) (drop (j + 1) ys)
step_equal xs ys out out' i j hi hj p q e =
    let lo : nat_lt (at xs i).atom (at ys j).atom ≡ false = search rules in
    let hi' : nat_lt (at ys j).atom (at xs i).atom ≡ false = search rules in
    rw (drop-cons xs i blank hi, drop-cons ys j blank hj, merge_equal (at xs i) (at ys j) (drop (suc i) xs) (drop (suc j) ys) lo hi', e, append_assoc, add-one, add-one)

pub rest_after : (xs ys out : List Part) (i j : ℕ) → i ≤ length xs → j ≤ length ys → ((length xs ≤ i) ⊎ (length ys ≤ j)) → out ++ merge (drop i xs) (drop j ys) ≡ (out ++ take (length xs - i) (drop i xs)) ++ take (length ys - j) (drop j ys)
rest_after xs ys out i j hi hj (inl h) = rw (take_rest xs i, take_rest ys j, drop_all i xs h, append-nil)
rest_after xs ys out i j hi hj (inr h) = rw (take_rest xs i, take_rest ys j, drop_all j ys h, merge-nil, append-nil)
