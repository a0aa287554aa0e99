-- The sum of a form and a multiple of another, step by step, its value and its limits.
use Rattle.std.proofs.Common.{◌≡◌, ◌≢◌, ◌<◌, ◌≤◌, ◌^◌, ◌*◌, ℕ, zero, suc, ◌+◌, ◌-◌, ℤ, pos, negsuc, ◌+ℤ◌, ◌*ℤ◌, unsigned_abs, true, false, cond, List, [], ◌∷◌, ◌++◌, length, drop, take, map, Some, None, Result, Ok, Err, IfOk, ◌⊎◌, inl, inr, refl, ap, sym, subst, ◌∙◌, arith, rules, drop-cons, append_assoc, append-nil, add-one, nat_lt, mul-le-mul}
use Rattle.std.proofs.lemmas.Int.{ints, unsigned_abs-mul}
use Rattle.std.proofs.lemmas.Bool.Decides.{nat_tests}
use Rattle.std.proofs.lemmas.List.{take_rest, drop_all}
use Rattle.std.proofs.lemmas.List.Elements.{All-cons, All-nil}
use lib.IntN.{*ℤ-zero}
use Rattle.pl_forms.specs.declared.form.Part.{Part}
use Rattle.pl_forms.specs.declared.form.Form.{Form}
use Rattle.pl_forms.specs.declared.form.TermError.{TermError}
use Rattle.pl_forms.specs.declared.form.TermError.TheVariants.{TooLarge, Memory}
use Rattle.pl_forms.specs.Forms.{merge, put_part, is_zero, excess, limited_by, Answers, Ascends, Small, IsForm, value, parts_value}
use Rattle.pl_forms.specs.Steps.{times_part, plus, difference, Put, Merged}
use Rattle.pl_forms.proofs.Products.{mul-add, mul-assoc}
use Rattle.pl_forms.proofs.FormMerging.{at, blank, merge_equal, merge-nil, answers_same}
use Rattle.pl_forms.proofs.FormSums.{value-merge}
use Rattle.pl_forms.proofs.FormLimits.{ascends-merge, small_from, limited_ok}
use Rattle.pl_forms.proofs.FormMultiples.{product_nonzero}

-- parts within their limits change nothing of what is told of those behind them
pub excess-before : (xs ys : List Part) → excess xs ≡ None → excess (xs ++ ys) ≡ excess ys
excess-before [] ys h = refl
excess-before (p ∷ ps) ys h =
    (elim (nat_lt (2 ^ 40) (unsigned_abs p.coeff)) as (λ s. cond s (Some (unsigned_abs p.coeff)) (excess ps) ≡ None → cond s (Some (unsigned_abs p.coeff)) (excess (ps ++ ys)) ≡ excess ys) [ true ↦ λ e. absurd cc | false ↦ λ e. excess-before ps ys e ]) h

pub excess-here : (xs ys : List Part) (n : ℕ) → excess xs ≡ Some n → excess (xs ++ ys) ≡ Some n
excess-here [] ys n h = absurd cc
excess-here (p ∷ ps) ys n h =
    (elim (nat_lt (2 ^ 40) (unsigned_abs p.coeff)) as (λ s. cond s (Some (unsigned_abs p.coeff)) (excess ps) ≡ Some n → cond s (Some (unsigned_abs p.coeff)) (excess (ps ++ ys)) ≡ Some n) [ true ↦ λ e. e | false ↦ λ e. excess-here ps ys n e ]) h

pub small_none : (ps : List Part) → Small ps → excess ps ≡ None
small_none [] h = refl
small_none (p ∷ ps) h =
    let at_p : unsigned_abs p.coeff ≤ 2 ^ 40 = h 0 p (omega arith) in
    let e : nat_lt (2 ^ 40) (unsigned_abs p.coeff) ≡ false = grind (arith, nat_tests) in
    rw e (small_none ps (λ k z lt. h (suc k) z (omega arith)))

pub excess-drop : (i : ℕ) (xs : List Part) → excess xs ≡ None → excess (drop i xs) ≡ None
excess-drop zero xs h = h
excess-drop (suc i) [] h = refl
excess-drop (suc i) (p ∷ ps) h =
    excess-drop i ps ((elim (nat_lt (2 ^ 40) (unsigned_abs p.coeff)) as (λ s. cond s (Some (unsigned_abs p.coeff)) (excess ps) ≡ None → excess ps ≡ None) [ true ↦ λ e. absurd cc | false ↦ λ e. e ]) h)

-- of parts that were put and others that were refused
pub refused : (whole out ps rest : List Part) (n : ℕ) → whole ≡ (out ++ ps) ++ rest → excess out ≡ None → excess ps ≡ Some n → excess whole ≡ Some n
refused whole out ps rest n e h r = rw e (excess-here (out ++ ps) rest n (excess-before out ps h ∙ r))

pub both_within : (xs ys : List Part) → excess xs ≡ None → excess ys ≡ None → excess (xs ++ ys) ≡ None
both_within xs ys h k = excess-before xs ys h ∙ k

merge_first : (a b : Part) (more bs : List Part) → nat_lt a.atom b.atom ≡ true → merge (a ∷ more) (b ∷ bs) ≡ a ∷ merge more (b ∷ bs)
merge_first a b more bs p = rw p refl

merge_second : (a b : Part) (more bs : List Part) → nat_lt a.atom b.atom ≡ false → nat_lt b.atom a.atom ≡ true → merge (a ∷ more) (b ∷ bs) ≡ b ∷ merge (a ∷ more) bs
merge_second a b more bs p q = rw (p, q) refl

pub step_first : (k : ℤ) (xs ys out : List Part) (i j : ℕ) → i < length xs → j < length ys → (at xs i).atom < (at ys j).atom → out ++ merge (drop i xs) (map (times_part k) (drop j ys)) ≡ (out ++ at xs i ∷ []) ++ merge (drop (i + 1) xs) (map (times_part k) (drop j ys))
step_first k xs ys out i j hi hj lt =
    let lo : nat_lt (at xs i).atom (at ys j).atom ≡ true = search rules in
    rw (drop-cons xs i blank hi, drop-cons ys j blank hj, merge_first (at xs i) (times_part k (at ys j)) (drop (suc i) xs) (map (times_part k) (drop (suc j) ys)) lo, append_assoc, add-one) refl

pub step_second : (k : ℤ) (xs ys out : List Part) (i j : ℕ) → i < length xs → j < length ys → (at ys j).atom < (at xs i).atom → out ++ merge (drop i xs) (map (times_part k) (drop j ys)) ≡ (out ++ times_part k (at ys j) ∷ []) ++ merge (drop i xs) (map (times_part k) (drop (j + 1) ys))
step_second k xs ys out i j hi hj lt =
    let lo : nat_lt (at xs i).atom (at ys j).atom ≡ false = search rules in
    let hi' : nat_lt (at ys j).atom (at xs i).atom ≡ true = search rules in
    rw (drop-cons xs i blank hi, drop-cons ys j blank hj, merge_second (at xs i) (times_part k (at ys j)) (drop (suc i) xs) (map (times_part k) (drop (suc j) ys)) lo hi', append_assoc, add-one) refl

pub step_both : (k : ℤ) (xs ys out : List Part) (i j : ℕ) → i < length xs → j < length ys → (at ys j).atom ≤ (at xs i).atom → (at xs i).atom ≤ (at ys j).atom → out ++ merge (drop i xs) (map (times_part k) (drop j ys)) ≡ (out ++ put_part (at xs i).atom ((at xs i).coeff +ℤ (k *ℤ (at ys j).coeff)) []) ++ merge (drop (i + 1) xs) (map (times_part k) (drop (j + 1) ys))
step_both k xs ys out i j hi hj p q =
    let lo : nat_lt (at xs i).atom (at ys j).atom ≡ false = search rules in
    let hi' : nat_lt (at ys j).atom (at xs i).atom ≡ false = search rules in
    rw (drop-cons xs i blank hi, drop-cons ys j blank hj, merge_equal (at xs i) (times_part k (at ys j)) (drop (suc i) xs) (map (times_part k) (drop (suc j) ys)) lo hi', append_assoc, add-one, add-one) refl

-- where one of the lists is used up
pub rest_with : (k : ℤ) (xs ys out : List Part) (i j : ℕ) → ((length xs ≤ i) ⊎ (length ys ≤ j)) → out ++ merge (drop i xs) (map (times_part k) (drop j ys)) ≡ (out ++ drop i xs) ++ map (times_part k) (drop j ys)
rest_with k xs ys out i j (inl h) = rw (drop_all i xs h, append-nil) refl
rest_with k xs ys out i j (inr h) = rw (drop_all j ys h, merge-nil, append-nil) refl

pub times_value : (v : ℕ → ℤ) (k : ℤ) (ps : List Part) → parts_value v (map (times_part k) ps) ≡ k *ℤ parts_value v ps
times_value v k [] = sym (*ℤ-zero k)
times_value v k (p ∷ ps) = omega (arith, ints, times_value v k ps, mul-add k (p.coeff *ℤ v p.atom) (parts_value v ps), mul-assoc k p.coeff (v p.atom))

pub ascends_times : (k : ℤ) (low : ℕ) (ps : List Part) → is_zero k ≡ false → Ascends low ps → Ascends low (map (times_part k) ps)
ascends_times k low [] z a = tt
ascends_times k low (p ∷ ps) z a = (a.0, product_nonzero k p.coeff z a.1, ascends_times k (p.atom + 1) ps z a.2)

nonzero : (k : ℤ) → k ≢ pos 0 → is_zero k ≡ false
nonzero (pos zero) h = absurd (h refl)
nonzero (pos (suc n)) h = refl
nonzero (negsuc n) h = refl

pub plus_value : (f g : Form) (k : ℤ) (r : Result Form TermError) → Answers r (plus f k g) → IfOk r (λ s. (v : ℕ → ℤ) → value v s ≡ value v f +ℤ (k *ℤ value v g))
plus_value f g k (Err e) h = tt
plus_value f g k (Ok s) h = λ v.
    let o = limited_ok (excess (merge f.parts (map (times_part k) g.parts))) (merge f.parts (map (times_part k) g.parts)) (f.constant +ℤ (k *ℤ g.constant)) s h in
    rw (o.1, o.2) (omega (arith, ints, value-merge v f.parts (map (times_part k) g.parts), times_value v k g.parts, mul-add k (parts_value v g.parts) g.constant))

pub plus_form : (f g : Form) (k : ℤ) (r : Result Form TermError) → k ≢ pos 0 → IsForm f → IsForm g → Answers r (plus f k g) → IfOk r (λ s. IsForm s)
plus_form f g k (Err e) n p q h = tt
plus_form f g k (Ok s) n p q h =
    let o = limited_ok (excess (merge f.parts (map (times_part k) g.parts))) (merge f.parts (map (times_part k) g.parts)) (f.constant +ℤ (k *ℤ g.constant)) s h in
    record {
      ascends = rw o.1 (ascends-merge 0 f.parts (map (times_part k) g.parts) p.ascends (ascends_times k 0 g.parts (nonzero k n) q.ascends));
      small = rw o.1 (small_from _ o.0);
      bounded = rw o.2 o.3;
    }

pub difference_form : (f g : Form) (k : ℤ) (r : Result Form TermError) → IsForm f → IsForm g → Answers r (difference f g k) → IfOk r (λ s. IsForm s)
difference_form f g k (Err e) p q h = tt
difference_form f g k (Ok s) p q h =
    let o = limited_ok (excess (merge f.parts (map (times_part (negsuc 0)) g.parts))) (merge f.parts (map (times_part (negsuc 0)) g.parts)) ((f.constant +ℤ (negsuc 0 *ℤ g.constant)) +ℤ k) s h in
    record {
      ascends = rw o.1 (ascends-merge 0 f.parts (map (times_part (negsuc 0)) g.parts) p.ascends (ascends_times (negsuc 0) 0 g.parts refl q.ascends));
      small = rw o.1 (small_from _ o.0);
      bounded = rw o.2 o.3;
    }

pub product_size : (a b : ℤ) (m n : ℕ) → unsigned_abs a ≤ m → unsigned_abs b ≤ n → unsigned_abs (a *ℤ b) ≤ m * n
product_size a b m n h k = rw (unsigned_abs-mul a b) (mul-le-mul h k)

pub push_step : (k : ℤ) (ps out now : List Part) (i : ℕ) → i < length ps → now ≡ out ++ times_part k (at ps i) ∷ [] → out ++ map (times_part k) (drop i ps) ≡ now ++ map (times_part k) (drop (i + 1) ps)
push_step k ps out now i hi e = rw (drop-cons ps i blank hi, e, append_assoc, add-one) refl

pub push_within : (k : ℤ) (ps : List Part) (i : ℕ) → i < length ps → excess (times_part k (at ps i) ∷ []) ≡ None → excess (map (times_part k) (drop i ps)) ≡ excess (map (times_part k) (drop (i + 1) ps))
push_within k ps i hi e = rw (drop-cons ps i blank hi, add-one) (excess-before (times_part k (at ps i) ∷ []) (map (times_part k) (drop (suc i) ps)) e)

-- a refusal on the way is one of the whole
pub put_refused : (e : TermError) (whole out now ps rest : List Part) → whole ≡ (out ++ ps) ++ rest → excess out ≡ None → Put (Err e) out now ps → Merged (Err e) whole
put_refused (TooLarge n) whole out now ps rest q h p = refused whole out ps rest n q h p
put_refused Memory whole out now ps rest q h p = tt

pub all_refused : (e : TermError) (k : ℤ) (ps out now before after : List Part) (i : ℕ) → i < length ps → excess (map (times_part k) ps) ≡ excess (map (times_part k) (drop i ps)) → Put (Err e) out now (times_part k (at ps i) ∷ []) → Put (Err e) before after (map (times_part k) ps)
all_refused (TooLarge n) k ps out now before after i hi w p = w ∙ rw (drop-cons ps i blank hi) (excess-here (times_part k (at ps i) ∷ []) (map (times_part k) (drop (suc i) ps)) n p)
all_refused Memory k ps out now before after i hi w p = tt

-- the parts are put together with the constant
pub plus_made : (f g : Form) (k z : ℤ) (ps : List Part) (r : Result Form TermError) → excess (merge f.parts (map (times_part k) g.parts)) ≡ None → ps ≡ merge f.parts (map (times_part k) g.parts) → z ≡ f.constant +ℤ (k *ℤ g.constant) → r ≡ limited_by None ps z → Answers r (plus f k g)
plus_made f g k z ps r e p q h =
    answers_same r (plus f k g) (h ∙ ap (λ l. limited_by None l z) p ∙ ap (limited_by None (merge f.parts (map (times_part k) g.parts))) q ∙ ap (λ o. limited_by o (merge f.parts (map (times_part k) g.parts)) (f.constant +ℤ (k *ℤ g.constant))) (sym e))

pub difference_made : (f g : Form) (k z : ℤ) (ps : List Part) (r : Result Form TermError) → excess (merge f.parts (map (times_part (negsuc 0)) g.parts)) ≡ None → ps ≡ merge f.parts (map (times_part (negsuc 0)) g.parts) → z ≡ (f.constant +ℤ (negsuc 0 *ℤ g.constant)) +ℤ k → r ≡ limited_by None ps z → Answers r (difference f g k)
difference_made f g k z ps r e p q h =
    answers_same r (difference f g k) (h ∙ ap (λ l. limited_by None l z) p ∙ ap (limited_by None (merge f.parts (map (times_part (negsuc 0)) g.parts))) q ∙ ap (λ o. limited_by o (merge f.parts (map (times_part (negsuc 0)) g.parts)) ((f.constant +ℤ (negsuc 0 *ℤ g.constant)) +ℤ k)) (sym e))

pub plus_stops : (e : TermError) (f g : Form) (k : ℤ) → Merged (Err e) (merge f.parts (map (times_part k) g.parts)) → Answers (Err e) (plus f k g)
plus_stops (TooLarge n) f g k h = ap (λ o. limited_by o (merge f.parts (map (times_part k) g.parts)) (f.constant +ℤ (k *ℤ g.constant))) h
plus_stops Memory f g k h = tt

-- a part more is behind those before, and the rest is still to be merged
pub first_kept : (k : ℤ) (xs ys whole out now : List Part) (i j : ℕ) → i < length xs → j < length ys → (at xs i).atom < (at ys j).atom → Small xs → whole ≡ out ++ merge (drop i xs) (map (times_part k) (drop j ys)) → excess out ≡ None → now ≡ out ++ at xs i ∷ [] → (whole ≡ now ++ merge (drop (i + 1) xs) (map (times_part k) (drop j ys))) × (excess now ≡ None)
first_kept k xs ys whole out now i j hi hj lt s w e q =
    let one : Small (at xs i ∷ []) = All-cons (λ p. unsigned_abs p.coeff ≤ 2 ^ 40) (at xs i) [] (s i blank hi) (All-nil (λ p. unsigned_abs p.coeff ≤ 2 ^ 40)) in
    (w ∙ step_first k xs ys out i j hi hj lt ∙ ap (λ l. l ++ merge (drop (i + 1) xs) (map (times_part k) (drop j ys))) (sym q), rw q (both_within out (at xs i ∷ []) e (small_none (at xs i ∷ []) one)))

pub second_kept : (k : ℤ) (xs ys whole out now : List Part) (i j : ℕ) → i < length xs → j < length ys → (at ys j).atom < (at xs i).atom → whole ≡ out ++ merge (drop i xs) (map (times_part k) (drop j ys)) → excess out ≡ None → (excess (times_part k (at ys j) ∷ []) ≡ None) × (now ≡ out ++ times_part k (at ys j) ∷ []) → (whole ≡ now ++ merge (drop i xs) (map (times_part k) (drop (j + 1) ys))) × (excess now ≡ None)
second_kept k xs ys whole out now i j hi hj lt w e q =
    (w ∙ step_second k xs ys out i j hi hj lt ∙ ap (λ l. l ++ merge (drop i xs) (map (times_part k) (drop (j + 1) ys))) (sym q.1), rw q.1 (both_within out (times_part k (at ys j) ∷ []) e q.0))

pub both_kept : (k : ℤ) (xs ys whole out now : List Part) (i j : ℕ) → i < length xs → j < length ys → (at ys j).atom ≤ (at xs i).atom → (at xs i).atom ≤ (at ys j).atom → whole ≡ out ++ merge (drop i xs) (map (times_part k) (drop j ys)) → excess out ≡ None → (excess (put_part (at xs i).atom ((at xs i).coeff +ℤ (k *ℤ (at ys j).coeff)) []) ≡ None) × (now ≡ out ++ put_part (at xs i).atom ((at xs i).coeff +ℤ (k *ℤ (at ys j).coeff)) []) → (whole ≡ now ++ merge (drop (i + 1) xs) (map (times_part k) (drop (j + 1) ys))) × (excess now ≡ None)
both_kept k xs ys whole out now i j hi hj p r w e q =
    (w ∙ step_both k xs ys out i j hi hj p r ∙ ap (λ l. l ++ merge (drop (i + 1) xs) (map (times_part k) (drop (j + 1) ys))) (sym q.1), rw q.1 (both_within out (put_part (at xs i).atom ((at xs i).coeff +ℤ (k *ℤ (at ys j).coeff)) []) e q.0))

-- the ends of both lists were refused, or stand behind what was made before
pub end_refused : (e : TermError) (k : ℤ) (xs ys whole out more now : List Part) (i j : ℕ) → ((length xs ≤ i) ⊎ (length ys ≤ j)) → Small xs → whole ≡ out ++ merge (drop i xs) (map (times_part k) (drop j ys)) → excess out ≡ None → more ≡ out ++ take (length xs - i) (drop i xs) → Put (Err e) more now (map (times_part k) (take (length ys - j) (drop j ys))) → Merged (Err e) whole
end_refused e k xs ys whole out more now i j over s w n q p =
    let first : more ≡ out ++ drop i xs = q ∙ ap (λ l. out ++ l) (take_rest xs i) in
    let put : Put (Err e) more now (map (times_part k) (drop j ys)) = subst (λ l. Put (Err e) more now (map (times_part k) l)) (take_rest ys j) p in
    let kept : excess more ≡ None = ap excess first ∙ both_within out (drop i xs) n (excess-drop i xs (small_none xs s)) in
    put_refused e whole more now (map (times_part k) (drop j ys)) []
    (w ∙ rest_with k xs ys out i j over ∙ ap (λ l. l ++ map (times_part k) (drop j ys)) (sym first) ∙ sym (append-nil (more ++ map (times_part k) (drop j ys)))) kept put

pub end_kept : (k : ℤ) (xs ys whole out more now : List Part) (i j : ℕ) → ((length xs ≤ i) ⊎ (length ys ≤ j)) → Small xs → whole ≡ out ++ merge (drop i xs) (map (times_part k) (drop j ys)) → excess out ≡ None → more ≡ out ++ take (length xs - i) (drop i xs) → (excess (map (times_part k) (take (length ys - j) (drop j ys))) ≡ None) × (now ≡ more ++ map (times_part k) (take (length ys - j) (drop j ys))) → (excess whole ≡ None) × (now ≡ whole)
end_kept k xs ys whole out more now i j over s w n q p =
    let first : more ≡ out ++ drop i xs = q ∙ ap (λ l. out ++ l) (take_rest xs i) in
    let same : now ≡ more ++ map (times_part k) (drop j ys) = p.1 ∙ ap (λ l. more ++ map (times_part k) l) (take_rest ys j) in
    let all : whole ≡ more ++ map (times_part k) (drop j ys) = w ∙ rest_with k xs ys out i j over ∙ ap (λ l. l ++ map (times_part k) (drop j ys)) (sym first) in
    let kept : excess more ≡ None = ap excess first ∙ both_within out (drop i xs) n (excess-drop i xs (small_none xs s)) in
    let rest : excess (map (times_part k) (drop j ys)) ≡ None = ap (λ l. excess (map (times_part k) l)) (sym (take_rest ys j)) ∙ p.0 in
    (ap excess all ∙ both_within more (map (times_part k) (drop j ys)) kept rest, same ∙ sym all)
