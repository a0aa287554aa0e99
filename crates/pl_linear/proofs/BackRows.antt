-- With all signs turned, the same multiples lead from the opposite row to the opposite of what they led to.
use Rattle.std.proofs.Common.{◌≡◌, ℕ, zero, suc, ◌≤◌, ◌+◌, ◌^◌, ℤ, pos, negsuc, neg_ℤ, ◌+ℤ◌, ◌*ℤ◌, unsigned_abs, nat_eq, true, false, cond, List, [], ◌∷◌, map, set, Option, Some, None, refl, ap, sym, ◌∙◌, arith}
use Rattle.std.proofs.lemmas.Int.{ints}
use Rattle.std.proofs.lemmas.List.{map-set}
use Rattle.std.proofs.Math.ListN.{get_or-map}
use Rattle.pl_forms.specs.declared.form.Part.{Part}
use Rattle.pl_forms.specs.declared.form.Form.{Form}
use Rattle.pl_forms.specs.declared.fact.EqTerm.{EqTerm}
use Rattle.pl_forms.specs.declared.equation.Solution.{Solution}
use Rattle.pl_forms.specs.Forms.{IsForm, Ascends, is_zero}
use Rattle.pl_forms.specs.Equations.{coeff_of, named}
use Rattle.pl_forms.specs.Rows.{at, made, then_row, put_times, scatter, form_times}
use Rattle.pl_forms.proofs.RowValues.{more_is}
use Rattle.pl_linear.specs.Certificates.{add_eqs, eq_times}
use Rattle.pl_linear.specs.Ends.{minus}
use Rattle.pl_linear.specs.FormRow.{multiples, row_of}
use Rattle.pl_linear.specs.Duty.{opposite_form}
use Rattle.pl_linear.specs.Bounds.{minus_term}
use Rattle.pl_linear.proofs.FormRows.{put_some}
use Rattle.pl_linear.proofs.Splitting.{neg_mul}
use Rattle.pl_linear.proofs.ItemRows.{minus_small, negated_size}

neg_product : (k c : ℤ) → neg_ℤ k *ℤ c ≡ neg_ℤ (k *ℤ c)
neg_product k c = omega (arith, ints, neg_mul k c)

neg_sum : (a b : ℤ) → neg_ℤ a +ℤ neg_ℤ b ≡ neg_ℤ (a +ℤ b)
neg_sum a b = omega (arith, ints)

record Put (k c : ℤ) (i : ℕ) (d e : List ℤ) : Type 0 where
  is : e ≡ set d i (at d i +ℤ (k *ℤ c))
  product : unsigned_abs (k *ℤ c) ≤ 2 ^ 126
  total : unsigned_abs (at d i +ℤ (k *ℤ c)) ≤ 2 ^ 126

made_is : (z s : ℤ) → made z ≡ Some s → (s ≡ z) × (unsigned_abs z ≤ 2 ^ 126)
made_is z s h = grind arith

row_is : (o : Option ℤ) (f : ℤ → Option (List ℤ)) (e : List ℤ) → then_row o f ≡ Some e → (z : ℤ) × (o ≡ Some z) × (f z ≡ Some e)
row_is None f e h = absurd cc
row_is (Some z) f e h = (z, refl, h)

put_parts : (k c : ℤ) (i : ℕ) (d e : List ℤ) → put_times k c i d ≡ Some e → Put k c i d e
put_parts k c i d e h =
    let p = row_is (made (k *ℤ c)) (λ p. then_row (made (at d i +ℤ p)) (λ s. Some (set d i s))) e h in
    let m = made_is (k *ℤ c) p.0 p.1 in
    let q = row_is (made (at d i +ℤ p.0)) (λ s. Some (set d i s)) e p.2 in
    let n = made_is (at d i +ℤ p.0) q.0 q.1 in
    let last : set d i q.0 ≡ e = cc in
    let whole : q.0 ≡ at d i +ℤ (k *ℤ c) = n.0 ∙ ap (λ z. at d i +ℤ z) m.0 in
    record { is = sym last ∙ ap (set d i) whole; product = m.1; total = rw (← m.0) n.1 }

put_neg : (k c : ℤ) (i : ℕ) (d e : List ℤ) → put_times k c i d ≡ Some e → put_times (neg_ℤ k) c i (map neg_ℤ d) ≡ Some (map neg_ℤ e)
put_neg k c i d e h =
    let p = put_parts k c i d e h in
    let product = neg_product k c in
    let here : at (map neg_ℤ d) i ≡ neg_ℤ (at d i) = get_or-map neg_ℤ d i (pos 0) in
    let whole : at (map neg_ℤ d) i +ℤ (neg_ℤ k *ℤ c) ≡ neg_ℤ (at d i +ℤ (k *ℤ c)) = ap (λ z. z +ℤ (neg_ℤ k *ℤ c)) here ∙ ap (λ z. neg_ℤ (at d i) +ℤ z) product ∙ neg_sum (at d i) (k *ℤ c) in
    put_some (neg_ℤ k) c i (map neg_ℤ d) (rw product (negated_size (k *ℤ c) (2 ^ 126) p.product)) (rw whole (negated_size (at d i +ℤ (k *ℤ c)) (2 ^ 126) p.total))
    ∙ ap (λ z. Some (set (map neg_ℤ d) i z)) whole
    ∙ ap Some (sym (map-set neg_ℤ d i (at d i +ℤ (k *ℤ c))) ∙ ap (map neg_ℤ) (sym p.is))

scatter_neg : (k : ℤ) (ps : List Part) (d e : List ℤ) → scatter k ps d ≡ Some e → scatter (neg_ℤ k) ps (map neg_ℤ d) ≡ Some (map neg_ℤ e)
scatter_neg k [] d e h = let s : d ≡ e = cc in ap (λ (l : List ℤ). Some (map neg_ℤ l)) s
scatter_neg k (p ∷ ps) d e h =
    let m = more_is (put_times k p.coeff (p.atom + 1) d) (λ x. scatter k ps x) e h in
    rw (put_neg k p.coeff (p.atom + 1) d m.0 m.1) (scatter_neg k ps m.0 e m.2)

form_neg : (k : ℤ) (f : Form) (d e : List ℤ) → form_times k f d ≡ Some e → form_times (neg_ℤ k) f (map neg_ℤ d) ≡ Some (map neg_ℤ e)
form_neg k f d e h =
    let m = more_is (put_times k f.constant 0 d) (λ x. scatter k f.parts x) e h in
    rw (put_neg k f.constant 0 d m.0 m.1) (scatter_neg k f.parts m.0 e m.2)

eq_neg : (o : Option Solution) (k : ℤ) (d e : List ℤ) → eq_times o k d ≡ Some e → eq_times o (neg_ℤ k) (map neg_ℤ d) ≡ Some (map neg_ℤ e)
eq_neg None k d e h = absurd cc
eq_neg (Some s) k d e h = form_neg k s.form d e h

pub eqs_neg : (eqs : List Solution) (ts : List EqTerm) (d e : List ℤ) → add_eqs eqs ts d ≡ Some e → add_eqs eqs (map minus_term ts) (map neg_ℤ d) ≡ Some (map neg_ℤ e)
eqs_neg eqs [] d e h = let s : d ≡ e = cc in ap (λ (l : List ℤ). Some (map neg_ℤ l)) s
eqs_neg eqs (t ∷ ts) d e h =
    let m = more_is (eq_times (named t.fact eqs) t.times d) (λ x. add_eqs eqs ts x) e h in
    rw (eq_neg (named t.fact eqs) t.times d m.0 m.1) (eqs_neg eqs ts m.0 e m.2)

pub coeff_minus : (a : ℕ) (ps : List Part) → coeff_of a (map minus ps) ≡ neg_ℤ (coeff_of a ps)
coeff_minus a [] = refl
coeff_minus a (p ∷ ps) = elim (nat_eq p.atom a) as (λ b. cond b (neg_ℤ p.coeff) (coeff_of a (map minus ps)) ≡ neg_ℤ (cond b p.coeff (coeff_of a ps))) [ true ↦ refl | false ↦ coeff_minus a ps ]

multiples_minus : (n a : ℕ) (ps : List Part) → map neg_ℤ (multiples n a ps) ≡ multiples n a (map minus ps)
multiples_minus zero a ps = refl
multiples_minus (suc n) a ps =
    ap (λ (z : ℤ). z ∷ map neg_ℤ (multiples n (a + 1) ps)) (sym (coeff_minus a ps))
    ∙ ap (λ (l : List ℤ). coeff_of a (map minus ps) ∷ l) (multiples_minus n (a + 1) ps)

pub row_minus : (n : ℕ) (f : Form) → map neg_ℤ (row_of n f) ≡ row_of n (opposite_form f)
row_minus n f = ap (λ (l : List ℤ). neg_ℤ f.constant ∷ l) (multiples_minus n 0 f.parts)

some_minus : (c : ℤ) → is_zero c ≡ false → is_zero (neg_ℤ c) ≡ false
some_minus (pos zero) h = absurd cc
some_minus (pos (suc n)) h = refl
some_minus (negsuc n) h = refl

pub ascends_minus : (low : ℕ) (ps : List Part) → Ascends low ps → Ascends low (map minus ps)
ascends_minus low [] s = tt
ascends_minus low (p ∷ ps) s = (s.0, some_minus p.coeff s.1, ascends_minus (p.atom + 1) ps s.2)

pub opposite_is : (f : Form) → IsForm f → IsForm (opposite_form f)
opposite_is f p = record { ascends = ascends_minus 0 f.parts p.ascends; small = minus_small f.parts p.small; bounded = negated_size f.constant (2 ^ 80) p.bounded }
