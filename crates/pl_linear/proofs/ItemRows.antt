-- The row of an item is that of the reduced form, tightened.
use Rattle.std.proofs.Common.{◌≡◌, ℕ, zero, suc, ◌≤◌, ◌+◌, ◌^◌, ℤ, pos, negsuc, neg_ℤ, ◌+ℤ◌, ◌*ℤ◌, unsigned_abs, nat_lt, true, false, cond, List, [], ◌∷◌, map, set, replicate, slice_get, Some, None, Ok, refl, ap, sym, ◌∙◌, arith, get_or, add-one}
use Rattle.std.proofs.lemmas.Int.{ints}
use Rattle.std.proofs.lemmas.Bool.Decides.{nat_tests}
use Rattle.std.proofs.lemmas.List.Elements.{All-map, All-nil}
use lib.IntN.{*ℤ_comm, pred_ℤ-*ℤ, zero-*ℤ}
use Rattle.pl_forms.specs.declared.form.Part.{Part}
use Rattle.pl_forms.specs.declared.form.Form.{Form}
use Rattle.pl_forms.specs.declared.fact.Fact.{Fact}
use Rattle.pl_forms.specs.declared.fact.CertItem.{CertItem}
use Rattle.pl_forms.specs.declared.equation.Solution.{Solution}
use Rattle.pl_forms.specs.Forms.{Small, IsForm, limited_by, excess}
use Rattle.pl_forms.specs.Steps.{times_part, plus}
use Rattle.pl_forms.specs.Equations.{AreSolutions, AreNamed, reduced}
use Rattle.pl_forms.specs.Rows.{at, then_more, form_times, tight}
use Rattle.pl_forms.specs.Places.{Within, AllSolvedWithin}
use Rattle.pl_forms.proofs.FormSteps.{small_none}
use Rattle.pl_forms.proofs.Reducing.{reduced_form}
use Rattle.pl_forms.proofs.RowValues.{one_times}
use Rattle.pl_linear.specs.Certificates.{is_counted, add_shape, small, tightened, finished, item_row, start_row}
use Rattle.pl_linear.specs.Ends.{minus}
use Rattle.pl_forms.specs.Terms.{terms}
use Rattle.pl_linear.specs.FormRow.{multiples, row_of}
use Rattle.pl_linear.specs.Duty.{zero_form, one_form, opposite_form}
use Rattle.pl_linear.proofs.Multiples.{multiples_small}
use Rattle.pl_linear.proofs.FormRows.{plus_row, terms_row}

pub no_multiples : (n a : ℕ) → multiples n a [] ≡ replicate n (pos 0)
no_multiples zero a = refl
no_multiples (suc n) a = ap (λ (l : List ℤ). pos 0 ∷ l) (no_multiples n (a + 1))

-- what a row begins with
pub zero_row : (n : ℕ) → replicate (n + 1) (pos 0) ≡ row_of n zero_form
zero_row n = rw add-one (ap (λ (l : List ℤ). pos 0 ∷ l) (sym (no_multiples n 0)))

pub one_row : (n : ℕ) → set (replicate (n + 1) (pos 0)) 0 (pos 1) ≡ row_of n one_form
one_row n = rw add-one (ap (λ (l : List ℤ). pos 1 ∷ l) (sym (no_multiples n 0)))

one_time : (z : ℤ) → pos 1 *ℤ z ≡ z
one_time z = *ℤ_comm (pos 1) z ∙ one_times z

minus_time : (z : ℤ) → negsuc 0 *ℤ z ≡ neg_ℤ z
minus_time z = omega (arith, ints, pred_ℤ-*ℤ (pos 0) z, zero-*ℤ z)

once : (ps : List Part) → map (times_part (pos 1)) ps ≡ ps
once [] = refl
once (p ∷ ps) = ap (λ (z : ℤ). record { coeff = z; atom = p.atom } ∷ map (times_part (pos 1)) ps) (one_time p.coeff) ∙ ap (λ (l : List Part). p ∷ l) (once ps)

minus_once : (ps : List Part) → map (times_part (negsuc 0)) ps ≡ map minus ps
minus_once [] = refl
minus_once (p ∷ ps) = ap (λ (z : ℤ). record { coeff = z; atom = p.atom } ∷ map (times_part (negsuc 0)) ps) (minus_time p.coeff) ∙ ap (λ (l : List Part). minus p ∷ l) (minus_once ps)

-- a form within its limits
kept : (ps : List Part) (c : ℤ) → excess ps ≡ None → unsigned_abs c ≤ 2 ^ 80 → limited_by (excess ps) ps c ≡ Ok (record { parts = ps; constant = c })
kept ps c e h =
    let low : nat_lt (2 ^ 80) (unsigned_abs c) ≡ false = grind (arith, nat_tests) in
    rw (e, low) refl

pub negated_size : (c : ℤ) (n : ℕ) → unsigned_abs c ≤ n → unsigned_abs (neg_ℤ c) ≤ n
negated_size c n h = grind (arith, ints)

pub minus_small : (ps : List Part) → Small ps → Small (map minus ps)
minus_small ps s = All-map (λ p. unsigned_abs p.coeff ≤ 2 ^ 40) minus ps (λ k d lt. negated_size (get_or ps k d).coeff (2 ^ 40) (s k d lt))

pub plus_zero : (f : Form) → IsForm f → plus zero_form (pos 1) f ≡ Ok f
plus_zero f p =
    let constant : pos 0 +ℤ (pos 1 *ℤ f.constant) ≡ f.constant = omega (arith, ints, one_time f.constant) in
    rw (once f.parts, constant) (kept f.parts f.constant (small_none f.parts p.small) p.bounded)

pub plus_opposite : (f : Form) → IsForm f → plus zero_form (negsuc 0) f ≡ Ok (opposite_form f)
plus_opposite f p =
    let constant : pos 0 +ℤ (negsuc 0 *ℤ f.constant) ≡ neg_ℤ f.constant = omega (arith, ints, minus_time f.constant) in
    rw (minus_once f.parts, constant) (kept (map minus f.parts) (neg_ℤ f.constant) (small_none (map minus f.parts) (minus_small f.parts p.small)) (negated_size f.constant (2 ^ 80) p.bounded))

pub zero_is : IsForm zero_form
zero_is = record { ascends = tt; small = All-nil (λ p. unsigned_abs p.coeff ≤ 2 ^ 40); bounded = omega arith }

pub one_is : IsForm one_form
one_is = record { ascends = tt; small = All-nil (λ p. unsigned_abs p.coeff ≤ 2 ^ 40); bounded = omega arith }

pub small_from : (d : List ℤ) → ((k : ℕ) → unsigned_abs (at d k) ≤ 2 ^ 126) → small d ≡ true
small_from [] h = refl
small_from (c ∷ cs) h =
    let first : unsigned_abs c ≤ 2 ^ 126 = h 0 in
    let low : nat_lt (2 ^ 126) (unsigned_abs c) ≡ false = grind (arith, nat_tests) in
    rw low (small_from cs (λ k. h (suc k)))

pub row_small : (n : ℕ) (g : Form) → IsForm g → (k : ℕ) → unsigned_abs (at (row_of n g) k) ≤ 2 ^ 126
row_small n g p zero = let h = p.bounded in omega arith
row_small n g p (suc k) = let h = multiples_small n 0 k g.parts p.small in omega arith

-- what is added as a form is reduced leads to the row of the reduced form, tightened
pub finished_row : (n : ℕ) (eqs : List Solution) (f g : Form) → AreNamed eqs → AreSolutions eqs → AllSolvedWithin (n + 1) eqs → IsForm f → Within (n + 1) f → reduced eqs f ≡ Ok g → finished eqs (terms eqs f) (row_of n f) ≡ Some (tight (row_of n g))
finished_row n eqs f g m a x p w h =
    let fits : small (row_of n g) ≡ true = small_from (row_of n g) (row_small n g (reduced_form eqs f g a p h)) in
    ap (λ o. then_more o tightened) (terms_row n eqs eqs f g m a x p w h) ∙ ap (λ b. cond b (Some (tight (row_of n g))) None) fits

-- a fact that counts, the reverse of an equation that counts, and the negated goal
pub fact_item : (n : ℕ) (eqs : List Solution) (facts : List Fact) (goal : Form) (i : ℕ) (f : Fact) (g : Form) (it : CertItem) → AreNamed eqs → AreSolutions eqs → AllSolvedWithin (n + 1) eqs → IsForm f.form → Within (n + 1) f.form → slice_get facts i ≡ Some f → is_counted eqs f ≡ true → add_shape f.shape it.back f.form (row_of n zero_form) ≡ form_times (pos 1) f.form (row_of n zero_form) → it.fact ≡ Some i → it.eqs ≡ terms eqs f.form → reduced eqs f.form ≡ Ok g → item_row eqs facts goal it (start_row it.fact (n + 1)) ≡ Some (tight (row_of n g))
fact_item n eqs facts goal i f g it m a x p w at_i counts shape place added h =
    let base : form_times (pos 1) f.form (row_of n zero_form) ≡ Some (row_of n f.form) = plus_row n zero_form f.form f.form (pos 1) zero_is p w (λ q. absurd cc) (omega arith) (plus_zero f.form p) in
    rw (place, zero_row n, at_i, counts, shape, base, added) (finished_row n eqs f.form g m a x p w h)
