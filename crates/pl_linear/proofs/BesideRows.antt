-- The row of a form, to which the multiples are added that lead it to another form.
use Rattle.std.proofs.Common.{◌≡◌, ◌≢◌, ℕ, zero, suc, ◌<◌, ◌≤◌, ◌+◌, ◌*◌, ◌^◌, ℤ, pos, ◌+ℤ◌, ◌-ℤ◌, ◌*ℤ◌, unsigned_abs, int_eq, Bool, true, false, cond, List, [], ◌∷◌, ◌++◌, map, set, length, Some, Ok, refl, ap, subst, ◌∙◌, arith, All, length-set, le_trans, add-one}
use Rattle.std.proofs.lemmas.Int.{ints}
use Rattle.std.proofs.lemmas.List.{get_or-set_same, get_or-set_other}
use lib.IntN.{zero-*ℤ}
use Rattle.pl_forms.specs.declared.form.Form.{Form}
use Rattle.pl_forms.specs.declared.fact.EqTerm.{EqTerm}
use Rattle.pl_forms.specs.declared.equation.Solution.{Solution}
use Rattle.pl_forms.specs.Forms.{merge, excess, IsForm}
use Rattle.pl_forms.specs.Steps.{times_part, plus}
use Rattle.pl_forms.specs.Equations.{AreSolutions, named, coeff_of, opposite, remove, reduced}
use Rattle.pl_forms.specs.Rows.{at, form_times}
use Rattle.pl_forms.specs.Places.{Within, AllSolvedWithin}
use Rattle.pl_forms.specs.Terms.{then_terms, difference, between}
use Rattle.pl_forms.proofs.FormLimits.{limited_ok}
use Rattle.pl_forms.proofs.FormSteps.{product_size}
use Rattle.pl_forms.proofs.Products.{add-mul, sub-mul}
use Rattle.pl_forms.proofs.Reducing.{coeff_small, opposite_small, opposite_some, then_is, removed_form}
use Rattle.pl_linear.specs.Certificates.{add_eqs, all_zero}
use Rattle.pl_linear.proofs.FormRows.{Spread, put_some, sum_size, spread, spread_size, coeff_sum}

-- the number of a form at a place: its constant, and then the multiples of its atoms
abbrev pub place : Form → ℕ → ℤ
place f zero = f.constant
place f (suc a) = coeff_of a f.parts

-- k times the form was added to a row
pub record Adds (k : ℤ) (s : Form) (d e : List ℤ) : Type 0 where
  pub made_of : form_times k s d ≡ Some e
  pub long : length e ≡ length d
  pub places : (i : ℕ) → at e i ≡ at d i +ℤ (k *ℤ place s i)

pub form_adds : (k : ℤ) (s : Form) (d : List ℤ) (m l c : ℕ) → unsigned_abs k ≤ m → l + m * 2 ^ 40 ≤ 2 ^ 126 → c + m * 2 ^ 80 ≤ 2 ^ 126 → IsForm s → 0 < length d → Within (length d) s → unsigned_abs (at d 0) ≤ c → ((a : ℕ) → unsigned_abs (at d (suc a)) ≤ l) → (e : List ℤ) × Adds k s d e
form_adds k s d m l c hk parts whole p some w first rest =
    let x = at d 0 +ℤ (k *ℤ s.constant) in
    let product : unsigned_abs (k *ℤ s.constant) ≤ m * 2 ^ 80 = product_size k s.constant m (2 ^ 80) hk p.bounded in
    let total : unsigned_abs (at d 0 +ℤ (k *ℤ s.constant)) ≤ c + m * 2 ^ 80 = sum_size (at d 0) (k *ℤ s.constant) c (m * 2 ^ 80) first product in
    let put = put_some k s.constant 0 d (le_trans product (le_trans (le_more c (m * 2 ^ 80)) whole)) (le_trans total whole) in
    let long : length (set d 0 x) ≡ length d = length-set d 0 x in
    let r = spread k 0 s.parts (set d 0 x) m l hk parts p.ascends p.small (rw long w) (λ a le. spread_size d 0 (a + 1) x l (omega arith) (rw add-one (rest a))) in (
      r.0,
      record {
        made_of = rw put r.1.made_of;
        long = r.1.long ∙ long;
        places = at_each r.0 r.1;
      },
    )
  where
    le_more : (l n : ℕ) → n ≤ l + n
    le_more l n = omega arith

    at_each : (e : List ℤ) → Spread k s.parts (set d 0 (at d 0 +ℤ (k *ℤ s.constant))) e → (i : ℕ) → at e i ≡ at d i +ℤ (k *ℤ place s i)
    at_each e r zero = r.constant ∙ get_or-set_same d 0 (at d 0 +ℤ (k *ℤ s.constant)) (pos 0) some
    at_each e r (suc a) = rw add-one at (r.places a ∙ ap (λ z. z +ℤ (k *ℤ coeff_of a s.parts)) (get_or-set_other d 0 (a + 1) (at d 0 +ℤ (k *ℤ s.constant)) (pos 0) (λ q. absurd (omega arith))))

-- the numbers of a sum
pub plus_places : (f s g : Form) (k : ℤ) → IsForm f → IsForm s → k ≢ pos 0 → plus f k s ≡ Ok g → (i : ℕ) → place g i ≡ place f i +ℤ (k *ℤ place s i)
plus_places f s g k p q some h zero =
    let o = limited_ok (excess (merge f.parts (map (times_part k) s.parts))) (merge f.parts (map (times_part k) s.parts)) (f.constant +ℤ (k *ℤ s.constant)) g h in
    o.2
plus_places f s g k p q some h (suc a) =
    let o = limited_ok (excess (merge f.parts (map (times_part k) s.parts))) (merge f.parts (map (times_part k) s.parts)) (f.constant +ℤ (k *ℤ s.constant)) g h in
    ap (coeff_of a) o.1 ∙ coeff_sum a k f s p q some

pub place_zero : (f : Form) → IsForm f → unsigned_abs (place f 0) ≤ 2 ^ 80
place_zero f p = p.bounded

pub place_more : (f : Form) (a : ℕ) → IsForm f → unsigned_abs (place f (suc a)) ≤ 2 ^ 40
place_more f a p = coeff_small a f.parts p.small

opposite_none : (b : Bool) (c : ℤ) → c ≡ pos 0 → opposite b c ≡ pos 0
opposite_none true c h = h
opposite_none false c h = rw h refl

is_none : (c : ℤ) → int_eq c (pos 0) ≡ true → c ≡ pos 0
is_none c h = grind (arith, ints)

other_than_none : (c : ℤ) → int_eq c (pos 0) ≡ false → c ≢ pos 0
other_than_none c h = grind (arith, ints)

-- the numbers of a form from which an atom was removed
removed_places : (s : Solution) (f g : Form) → IsForm s.form → IsForm f → remove s f ≡ Ok g → (i : ℕ) → place g i ≡ place f i +ℤ (opposite s.minus (coeff_of s.atom f.parts) *ℤ place s.form i)
removed_places s f g p q h i =
    (elim (int_eq (coeff_of s.atom f.parts) (pos 0)) as (λ b. int_eq (coeff_of s.atom f.parts) (pos 0) ≡ b → cond b (Ok f) (plus f (opposite s.minus (coeff_of s.atom f.parts)) s.form) ≡ Ok g → place g i ≡ place f i +ℤ (opposite s.minus (coeff_of s.atom f.parts) *ℤ place s.form i)) [
      | true ↦ λ n e.
          let same : f ≡ g = cc in
          let none = opposite_none s.minus (coeff_of s.atom f.parts) (is_none (coeff_of s.atom f.parts) n) in
          omega (arith, ints, ap (λ x. place x i) same, ap (λ z. z *ℤ place s.form i) none, zero-*ℤ (place s.form i))
      | false ↦ λ n e. plus_places f s.form g (opposite s.minus (coeff_of s.atom f.parts)) q p (opposite_some s.minus (coeff_of s.atom f.parts) (other_than_none (coeff_of s.atom f.parts) n)) e i
    ]) refl h

-- a number less another, or with it, and the opposite of a third so
abbrev pub mixed : Bool → ℤ → ℤ → ℤ → ℤ
mixed true x y z = (x -ℤ y) +ℤ z
mixed false x y z = (x +ℤ y) -ℤ z

-- the row of what one form became, less what the other became, and with the other as it was; or all these signs turned
pub record Beside (n : ℕ) (same : Bool) (t f whole : Form) (d : List ℤ) : Type 0 where
  pub long : length d ≡ n + 1
  pub places : (i : ℕ) → at d i ≡ mixed same (place t i) (place f i) (place whole i)

mixed_size : (same : Bool) (x y z : ℤ) (n : ℕ) → unsigned_abs x ≤ n → unsigned_abs y ≤ n → unsigned_abs z ≤ n → unsigned_abs (mixed same x y z) ≤ n + n + n
mixed_size true x y z n h k l = grind (arith, ints)
mixed_size false x y z n h k l = grind (arith, ints)

both_size : (same : Bool) (a b : ℤ) (n : ℕ) → unsigned_abs a ≤ n → unsigned_abs b ≤ n → unsigned_abs (difference same a b) ≤ n + n
both_size true a b n h k = grind (arith, ints)
both_size false a b n h k = grind (arith, ints)

-- one step of both
mixed_step : (same : Bool) (x y z a b s : ℤ) → mixed same (x +ℤ (a *ℤ s)) (y +ℤ (b *ℤ s)) z ≡ mixed same x y z +ℤ (difference same a b *ℤ s)
mixed_step true x y z a b s = omega (arith, ints, sub-mul a b s)
mixed_step false x y z a b s = omega (arith, ints, add-mul a b s)

step_mixed : (same : Bool) (x y z x1 y1 k l : ℤ) → x1 ≡ k → y1 ≡ l → mixed same x1 y1 z ≡ mixed same k l z
step_mixed same x y z x1 y1 k l e f = rw (e, f) refl

record Stepped (eqs : List Solution) (n : ℕ) (same : Bool) (t f whole : Form) (terms rest : List EqTerm) (d : List ℤ) : Type 0 where
  row : List ℤ
  adds : add_eqs eqs (terms ++ rest) d ≡ add_eqs eqs rest row
  beside : Beside n same t f whole row

step_by : (eqs : List Solution) (s : Solution) (n : ℕ) (same : Bool) (t f t1 f1 whole : Form) (rest : List EqTerm) (d : List ℤ) (a b k : ℤ) (none : Bool) → named s.fact eqs ≡ Some s → IsForm s.form → Within (n + 1) s.form → IsForm t → IsForm f → IsForm whole → unsigned_abs a ≤ 2 ^ 40 → unsigned_abs b ≤ 2 ^ 40 → k ≡ difference same a b → int_eq k (pos 0) ≡ none → Beside n same t f whole d → ((i : ℕ) → place t1 i ≡ place t i +ℤ (a *ℤ place s.form i)) → ((i : ℕ) → place f1 i ≡ place f i +ℤ (b *ℤ place s.form i)) → Stepped eqs n same t1 f1 whole (cond none [] (record { times = k; fact = s.fact } ∷ [])) rest d
step_by eqs s n same t f t1 f1 whole rest d a b k true m p w pt pf pw ha hb e none r ht hf = record {
  row = d;
  adds = refl;
  beside = record {
    long = r.long;
    places = λ i.
        let nothing : k *ℤ place s.form i ≡ pos 0 = ap (λ z. z *ℤ place s.form i) (is_none k none) ∙ zero-*ℤ (place s.form i) in
        let step = mixed_step same (place t i) (place f i) (place whole i) a b (place s.form i) in
        let made = step_mixed same (place t i) (place f i) (place whole i) (place t1 i) (place f1 i) (place t i +ℤ (a *ℤ place s.form i)) (place f i +ℤ (b *ℤ place s.form i)) (ht i) (hf i) in
        omega (arith, ints, r.places i, nothing, step, made, ap (λ z. z *ℤ place s.form i) e);
  };
}
step_by eqs s n same t f t1 f1 whole rest d a b k false m p w pt pf pw ha hb e none r ht hf =
    let size : unsigned_abs k ≤ 2 ^ 40 + 2 ^ 40 = rw e (both_size same a b (2 ^ 40) ha hb) in
    let first : unsigned_abs (at d 0) ≤ 2 ^ 80 + 2 ^ 80 + 2 ^ 80 = rw (r.places 0) (mixed_size same (place t 0) (place f 0) (place whole 0) (2 ^ 80) (place_zero t pt) (place_zero f pf) (place_zero whole pw)) in
    let more : (a : ℕ) → unsigned_abs (at d (suc a)) ≤ 2 ^ 40 + 2 ^ 40 + 2 ^ 40 = λ a. rw (r.places (suc a)) (mixed_size same (place t (suc a)) (place f (suc a)) (place whole (suc a)) (2 ^ 40) (place_more t a pt) (place_more f a pf) (place_more whole a pw)) in
    let q = form_adds k s.form d (2 ^ 40 + 2 ^ 40) (2 ^ 40 + 2 ^ 40 + 2 ^ 40) (2 ^ 80 + 2 ^ 80 + 2 ^ 80) size (omega arith) (omega arith) p (omega (arith, r.long)) (rw r.long w) first more in record {
      row = q.0;
      adds = rw (m, q.1.made_of) refl;
      beside = record {
        long = q.1.long ∙ r.long;
        places = λ i.
            let step = mixed_step same (place t i) (place f i) (place whole i) a b (place s.form i) in
            let made = step_mixed same (place t i) (place f i) (place whole i) (place t1 i) (place f1 i) (place t i +ℤ (a *ℤ place s.form i)) (place f i +ℤ (b *ℤ place s.form i)) (ht i) (hf i) in
            omega (arith, ints, r.places i, q.1.places i, step, made, ap (λ z. z *ℤ place s.form i) e);
      };
    }

-- the multiples that lead one form to another lead from the row of the one to what both became
pub between_row : (n : ℕ) (eqs ss : List Solution) (same : Bool) (t f whole g h : Form) (d : List ℤ) → All (λ s. named s.fact eqs ≡ Some s) ss → AreSolutions ss → AllSolvedWithin (n + 1) ss → IsForm t → IsForm f → IsForm whole → Beside n same t f whole d → reduced ss t ≡ Ok g → reduced ss f ≡ Ok h → (e : List ℤ) × (add_eqs eqs (between ss same t f) d ≡ Some e) × Beside n same g h whole e
between_row n eqs [] same t f whole g h d m a w pt pf pw r ht hf =
    let one : t ≡ g = cc in
    let other : f ≡ h = cc in
    (d, refl, subst (λ x. Beside n same x h whole d) one (subst (λ x. Beside n same t x whole d) other r))
between_row n eqs (s ∷ ss) same t f whole g h d m a w pt pf pw r ht hf =
    let p = a 0 s (omega arith) in
    let x = then_is (remove s t) (λ y. reduced ss y) g ht in
    let y = then_is (remove s f) (λ y. reduced ss y) h hf in
    let i = opposite s.minus (coeff_of s.atom t.parts) in
    let j = opposite s.minus (coeff_of s.atom f.parts) in
    let q = step_by eqs s n same t f x.0 y.0 whole (then_terms (remove s t) (λ u. then_terms (remove s f) (λ v. between ss same u v))) d i j (difference same i j) (int_eq (difference same i j) (pos 0)) (m 0 s (omega arith)) p (w 0 s (omega arith)) pt pf pw (opposite_small s.minus (coeff_of s.atom t.parts) (2 ^ 40) (coeff_small s.atom t.parts pt.small)) (opposite_small s.minus (coeff_of s.atom f.parts) (2 ^ 40) (coeff_small s.atom f.parts pf.small)) refl refl r (removed_places s t x.0 p pt x.1) (removed_places s f y.0 p pf y.1) in
    let z = between_row n eqs ss same x.0 y.0 whole g h q.row (λ k v lt. m (suc k) v (omega arith)) (λ k v lt. a (suc k) v (omega arith)) (λ k v lt. w (suc k) v (omega arith)) (removed_form s t x.0 p pt x.1) (removed_form s f y.0 p pf y.1) pw q.beside x.2 y.2 in
    (z.0, q.adds ∙ ap (λ o. add_eqs eqs (then_terms o (λ u. then_terms (remove s f) (λ v. between ss same u v))) q.row) x.1 ∙ ap (λ o. add_eqs eqs (then_terms o (λ v. between ss same x.0 v)) q.row) y.1 ∙ z.1, z.2)

-- a row of noughts
pub zero_by : (d : List ℤ) → ((i : ℕ) → at d i ≡ pos 0) → all_zero d ≡ true
zero_by [] h = refl
zero_by (c ∷ cs) h = let e : c ≡ pos 0 = h 0 in rw e (zero_by cs (λ i. h (suc i)))
