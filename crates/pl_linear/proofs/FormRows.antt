-- The row of a reduced form is that of the form, to which the multiples of solved equations are added.
use Rattle.std.proofs.Common.{◌≡◌, ◌≢◌, ℕ, zero, suc, ◌<◌, ◌≤◌, ◌+◌, ◌*◌, ◌^◌, ℤ, pos, negsuc, ◌+ℤ◌, ◌*ℤ◌, unsigned_abs, int_eq, nat_eq, Bool, true, false, cond, List, [], ◌∷◌, ◌++◌, map, set, length, Some, Ok, refl, ap, sym, subst, ◌∙◌, arith, All, length-set, add-one, le_trans}
use Rattle.std.proofs.lemmas.Int.{ints}
use Rattle.std.proofs.lemmas.Bool.{eqb-true, eq-eqb}
use Rattle.std.proofs.lemmas.List.{ext_get_or, get_or-set_same, get_or-set_other}
use lib.IntN.{*ℤ-zero}
use Rattle.pl_forms.specs.declared.form.Part.{Part}
use Rattle.pl_forms.specs.declared.form.Form.{Form}
use Rattle.pl_forms.specs.declared.fact.EqTerm.{EqTerm}
use Rattle.pl_forms.specs.declared.equation.Solution.{Solution}
use Rattle.pl_forms.specs.Forms.{merge, excess, is_zero, Ascends, Small, IsForm}
use Rattle.pl_forms.specs.Steps.{times_part, plus}
use Rattle.pl_forms.specs.Equations.{AreSolutions, named, coeff_of, opposite, remove, reduced}
use Rattle.pl_forms.specs.Rows.{at, made, put_times, scatter, form_times}
use Rattle.pl_forms.specs.Places.{Within, AllSolvedWithin}
use Rattle.pl_forms.proofs.FormLimits.{limited_ok}
use Rattle.pl_forms.proofs.FormSteps.{product_size, ascends_times, plus_form}
use Rattle.pl_forms.proofs.Reducing.{coeff_small, opposite_small, opposite_some, then_is}
use Rattle.pl_forms.proofs.PlaceLaws.{plus_within}
use Rattle.pl_linear.specs.Certificates.{add_eqs}
use Rattle.pl_forms.specs.Terms.{then_terms, terms}
use Rattle.pl_linear.specs.FormRow.{multiples, row_of}
use Rattle.pl_linear.proofs.Multiples.{coeff_before, coeff-merge, coeff-times, length-multiples, at-multiples, multiples_small}

made_some : (z : ℤ) → unsigned_abs z ≤ 2 ^ 126 → made z ≡ Some z
made_some z h = grind arith

pub put_some : (k c : ℤ) (i : ℕ) (d : List ℤ) → unsigned_abs (k *ℤ c) ≤ 2 ^ 126 → unsigned_abs (at d i +ℤ (k *ℤ c)) ≤ 2 ^ 126 → put_times k c i d ≡ Some (set d i (at d i +ℤ (k *ℤ c)))
put_some k c i d p q = rw (made_some (k *ℤ c) p, made_some (at d i +ℤ (k *ℤ c)) q) refl

pub sum_size : (a b : ℤ) (m n : ℕ) → unsigned_abs a ≤ m → unsigned_abs b ≤ n → unsigned_abs (a +ℤ b) ≤ m + n
sum_size a b m n h k = grind (arith, ints)

-- k times the parts were added to a row, and no number passed its limit
pub record Spread (k : ℤ) (ps : List Part) (d e : List ℤ) : Type 0 where
  pub made_of : scatter k ps d ≡ Some e
  pub long : length e ≡ length d
  pub constant : at e 0 ≡ at d 0
  pub places : (a : ℕ) → at e (a + 1) ≡ at d (a + 1) +ℤ (k *ℤ coeff_of a ps)

spread_place : (k : ℤ) (p : Part) (ps : List Part) (d : List ℤ) (a : ℕ) → Ascends (p.atom + 1) ps → p.atom + 1 < length d → (b : Bool) → nat_eq p.atom a ≡ b → at (set d (p.atom + 1) (at d (p.atom + 1) +ℤ (k *ℤ p.coeff))) (a + 1) +ℤ (k *ℤ coeff_of a ps) ≡ at d (a + 1) +ℤ (k *ℤ cond b p.coeff (coeff_of a ps))
spread_place k p ps d a s w true e =
    let same : p.atom ≡ a = eqb-true p.atom a e in
    let none : coeff_of p.atom ps ≡ pos 0 = coeff_before p.atom (p.atom + 1) ps s (omega arith) in
    rw (← same) (omega (arith, ints, get_or-set_same d (p.atom + 1) (at d (p.atom + 1) +ℤ (k *ℤ p.coeff)) (pos 0) w, ap (λ z. k *ℤ z) none, *ℤ-zero k))
spread_place k p ps d a s w false e =
    let other : a + 1 ≢ p.atom + 1 = λ q. let t : nat_eq p.atom a ≡ true = eq-eqb p.atom a (omega arith) in absurd cc in
    ap (λ z. z +ℤ (k *ℤ coeff_of a ps)) (get_or-set_other d (p.atom + 1) (a + 1) (at d (p.atom + 1) +ℤ (k *ℤ p.coeff)) (pos 0) other)

pub spread_size : (d : List ℤ) (i j : ℕ) (x : ℤ) (l : ℕ) → i < j → unsigned_abs (at d j) ≤ l → unsigned_abs (at (set d i x) j) ≤ l
spread_size d i j x l h b = let other : j ≢ i = λ q. absurd (omega arith) in rw (get_or-set_other d i j x (pos 0) other) b

-- .. k of at most m, to numbers of at most l
pub spread : (k : ℤ) (low : ℕ) (ps : List Part) (d : List ℤ) (m l : ℕ) → unsigned_abs k ≤ m → l + m * 2 ^ 40 ≤ 2 ^ 126 → Ascends low ps → Small ps → All (λ p. p.atom + 1 < length d) ps → ((a : ℕ) → low ≤ a → unsigned_abs (at d (a + 1)) ≤ l) → (e : List ℤ) × Spread k ps d e
spread k low [] d m l hk fits s sm w b = (d, record { made_of = refl; long = refl; constant = refl; places = λ a. omega (arith, ints, *ℤ-zero k) })
spread k low (p ∷ ps) d m l hk fits s sm w b =
    let here : p.atom + 1 < length d = w 0 p (omega arith) in
    let x = at d (p.atom + 1) +ℤ (k *ℤ p.coeff) in
    let long : length (set d (p.atom + 1) x) ≡ length d = length-set d (p.atom + 1) x in
    let product : unsigned_abs (k *ℤ p.coeff) ≤ m * 2 ^ 40 = product_size k p.coeff m (2 ^ 40) hk (sm 0 p (omega arith)) in
    let whole : unsigned_abs (at d (p.atom + 1) +ℤ (k *ℤ p.coeff)) ≤ l + m * 2 ^ 40 = sum_size (at d (p.atom + 1)) (k *ℤ p.coeff) l (m * 2 ^ 40) (b p.atom s.0) product in
    let put = put_some k p.coeff (p.atom + 1) d (le_trans product (le_trans (le_more l (m * 2 ^ 40)) fits)) (le_trans whole fits) in
    let r = spread k (p.atom + 1) ps (set d (p.atom + 1) x) m l hk fits s.2 (λ j z lt. sm (suc j) z (omega arith)) (λ j z lt. rw long (w (suc j) z (omega arith))) (λ a h. spread_size d (p.atom + 1) (a + 1) x l (omega arith) (b a (omega (arith, s.0)))) in (
      r.0,
      record {
        made_of = rw put r.1.made_of;
        long = r.1.long ∙ long;
        constant = r.1.constant ∙ get_or-set_other d (p.atom + 1) 0 x (pos 0) (λ q. absurd (omega arith));
        places = λ a. r.1.places a ∙ spread_place k p ps d a s.2 here (nat_eq p.atom a) refl;
      },
    )
  where
    le_more : (l n : ℕ) → n ≤ l + n
    le_more l n = omega arith

pub at_place : (n a : ℕ) (ps : List Part) → a < n → at (multiples n 0 ps) a ≡ coeff_of a ps
at_place n a ps h = let e : 0 + a ≡ a = omega arith in at-multiples n 0 a ps h ∙ ap (λ (k : ℕ). coeff_of k ps) e

long_place : (n l a : ℕ) → l ≡ n → a < n + 1 → a < suc l
long_place n l a e h = omega arith

some_is : (k : ℤ) → k ≢ pos 0 → is_zero k ≡ false
some_is (pos zero) h = absurd (h refl)
some_is (pos (suc n)) h = refl
some_is (negsuc n) h = refl

pub coeff_sum : (a : ℕ) (k : ℤ) (f s : Form) → IsForm f → IsForm s → k ≢ pos 0 → coeff_of a (merge f.parts (map (times_part k) s.parts)) ≡ coeff_of a f.parts +ℤ (k *ℤ coeff_of a s.parts)
coeff_sum a k f s p q some =
    coeff-merge a 0 f.parts (map (times_part k) s.parts) p.ascends (ascends_times k 0 s.parts (some_is k some) q.ascends)
    ∙ ap (λ x. coeff_of a f.parts +ℤ x) (coeff-times a k s.parts)

-- place by place
same_row : (n : ℕ) (f s g : Form) (k z : ℤ) (e : List ℤ) → k ≢ pos 0 → length (multiples n 0 f.parts) ≡ n → IsForm f → IsForm s → g.parts ≡ merge f.parts (map (times_part k) s.parts) → g.constant ≡ z → Spread k s.parts (z ∷ multiples n 0 f.parts) e → e ≡ row_of n g
same_row n f s g k z e some long p q parts constant r =
    let longer = length-multiples n 0 g.parts in
    ext_get_or (pos 0) e (row_of n g) (r.long ∙ ap suc (long ∙ sym longer)) at_each
  where
    at_each : (i : ℕ) → i < length e → at e i ≡ at (row_of n g) i
    at_each zero h = r.constant ∙ sym constant
    at_each (suc a) h =
        let inside : a < n = omega (arith, r.long, long) in
        let here : at e (suc a) ≡ at (multiples n 0 f.parts) a +ℤ (k *ℤ coeff_of a s.parts) = rw add-one at (r.places a) in
        here
        ∙ ap (λ x. x +ℤ (k *ℤ coeff_of a s.parts)) (at_place n a f.parts inside)
        ∙ sym (at_place n a g.parts inside ∙ ap (coeff_of a) parts ∙ coeff_sum a k f s p q some)

-- the row of a sum is the row of the form with the multiple added
pub plus_row : (n : ℕ) (f s g : Form) (k : ℤ) → IsForm f → IsForm s → Within (n + 1) s → k ≢ pos 0 → unsigned_abs k ≤ 2 ^ 40 → plus f k s ≡ Ok g → form_times k s (row_of n f) ≡ Some (row_of n g)
plus_row n f s g k p q w some hk h =
    let z = f.constant +ℤ (k *ℤ s.constant) in
    let product : unsigned_abs (k *ℤ s.constant) ≤ 2 ^ 40 * 2 ^ 80 = product_size k s.constant (2 ^ 40) (2 ^ 80) hk q.bounded in
    let whole : unsigned_abs (f.constant +ℤ (k *ℤ s.constant)) ≤ 2 ^ 80 + 2 ^ 40 * 2 ^ 80 = sum_size f.constant (k *ℤ s.constant) (2 ^ 80) (2 ^ 40 * 2 ^ 80) p.bounded product in
    let put = put_some k s.constant 0 (row_of n f) (omega arith) (omega arith) in
    let long = length-multiples n 0 f.parts in
    let r = spread k 0 s.parts (z ∷ multiples n 0 f.parts) (2 ^ 40) (2 ^ 40) hk (omega arith) q.ascends q.small (λ j d lt. long_place n (length (multiples n 0 f.parts)) _ long (w j d lt)) (λ a le. rw (add-one) (multiples_small n 0 a f.parts p.small)) in
    let o = limited_ok (excess (merge f.parts (map (times_part k) s.parts))) (merge f.parts (map (times_part k) s.parts)) z g h in
    let same : r.0 ≡ row_of n g = same_row n f s g k z r.0 some long p q o.1 o.2 r.1 in
    rw put (r.1.made_of ∙ ap Some same)

other_than_none : (c : ℤ) → int_eq c (pos 0) ≡ false → c ≢ pos 0
other_than_none c h = grind (arith, ints)

removed_row : (n : ℕ) (eqs : List Solution) (s : Solution) (f h : Form) (rest : List EqTerm) (c : ℤ) (b : Bool) → named s.fact eqs ≡ Some s → IsForm f → IsForm s.form → Within (n + 1) f → Within (n + 1) s.form → unsigned_abs c ≤ 2 ^ 40 → int_eq c (pos 0) ≡ b → cond b (Ok f) (plus f (opposite s.minus c) s.form) ≡ Ok h → (IsForm h) × (Within (n + 1) h) × (add_eqs eqs (cond b [] (record { times = opposite s.minus c; fact = s.fact } ∷ []) ++ rest) (row_of n f) ≡ add_eqs eqs rest (row_of n h))
removed_row n eqs s f h rest c true m p q w x small e g = let same : f ≡ h = cc in (subst IsForm same p, subst (Within (n + 1)) same w, ap (λ (y : Form). add_eqs eqs rest (row_of n y)) same)
removed_row n eqs s f h rest c false m p q w x small e g =
    let k = opposite s.minus c in
    let some : opposite s.minus c ≢ pos 0 = opposite_some s.minus c (other_than_none c e) in
    let row = plus_row n f s.form h (opposite s.minus c) p q x some (opposite_small s.minus c (2 ^ 40) small) g in
    (plus_form f s.form (opposite s.minus c) (Ok h) some p q g, plus_within (n + 1) f s.form h (opposite s.minus c) w x g, rw (m, row) refl)

-- the multiples that are added as a form is reduced lead from its row to that of the reduced form
pub terms_row : (n : ℕ) (eqs ss : List Solution) (f g : Form) → All (λ s. named s.fact eqs ≡ Some s) ss → AreSolutions ss → AllSolvedWithin (n + 1) ss → IsForm f → Within (n + 1) f → reduced ss f ≡ Ok g → add_eqs eqs (terms ss f) (row_of n f) ≡ Some (row_of n g)
terms_row n eqs [] f g m a x p w h = let same : f ≡ g = cc in ap (λ (y : Form). Some (row_of n y)) same
terms_row n eqs (s ∷ ss) f g m a x p w h =
    let t = then_is (remove s f) (λ y. reduced ss y) g h in
    let r = removed_row n eqs s f t.0 (then_terms (remove s f) (λ y. terms ss y)) (coeff_of s.atom f.parts) (int_eq (coeff_of s.atom f.parts) (pos 0)) (m 0 s (omega arith)) p (a 0 s (omega arith)) w (x 0 s (omega arith)) (coeff_small s.atom f.parts p.small) refl t.1 in
    r.2 ∙ ap (λ o. add_eqs eqs (then_terms o (λ y. terms ss y)) (row_of n t.0)) t.1
    ∙ terms_row n eqs ss t.0 g (λ k z lt. m (suc k) z (omega arith)) (λ k z lt. a (suc k) z (omega arith)) (λ k z lt. x (suc k) z (omega arith)) r.0 r.1 t.2
