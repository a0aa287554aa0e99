-- The row of a tightened form is the tightened row.
use Rattle.std.proofs.Common.{◌≡◌, ℕ, zero, suc, ◌<◌, ◌≤◌, ◌+◌, ◌%◌, ℤ, pos, unsigned_abs, int_div, nat_eq, nat_lt, true, false, cond, List, [], ◌∷◌, map, refl, ap, sym, ◌∙◌, arith, All, set}
use Rattle.std.proofs.Math.Nat.{zero-div, zero-mod}
use Rattle.std.proofs.lemmas.Bool.{eqb-true, eq-eqb}
use Rattle.std.proofs.lemmas.List.Elements.{All-map}
use Rattle.pl_forms.specs.declared.form.Part.{Part}
use Rattle.pl_forms.specs.declared.form.Form.{Form}
use Rattle.pl_forms.specs.Forms.{IsForm, Ascends}
use Rattle.pl_forms.specs.Equations.{coeff_of}
use Rattle.pl_forms.specs.Places.{Within}
use Rattle.pl_forms.specs.Rows.{gcd, gcd_from, ceil_div, tight, tight_by}
use Rattle.pl_forms.specs.Tightening.{common, divided, tight_form}
use Rattle.pl_forms.proofs.Divisors.{gcd_step, gcd_zero}
use Rattle.pl_linear.specs.FormRow.{multiples, row_of}
use Rattle.pl_linear.proofs.Multiples.{coeff_before}

gcd_nought : (g : ℕ) → gcd 0 g ≡ g
gcd_nought zero = gcd_zero 0 0 refl
gcd_nought (suc g) = gcd_step 0 (suc g) (λ e. absurd (omega arith)) ∙ gcd_zero (suc g) (0 % suc g) (zero-mod (suc g))

-- a part before atom a changes no multiple from there on
multiples_rest : (n a : ℕ) (p : Part) (ps : List Part) → p.atom < a → multiples n a (p ∷ ps) ≡ multiples n a ps
multiples_rest zero a p ps h = refl
multiples_rest (suc n) a p ps h =
    (elim (nat_eq p.atom a) as (λ b. nat_eq p.atom a ≡ b → cond b p.coeff (coeff_of a ps) ∷ multiples n (a + 1) (p ∷ ps) ≡ coeff_of a ps ∷ multiples n (a + 1) ps) [
      | true ↦ λ e. let same : p.atom ≡ a = eqb-true p.atom a e in absurd (omega arith)
      | false ↦ λ e. ap (λ (l : List ℤ). coeff_of a ps ∷ l) (multiples_rest n (a + 1) p ps (omega arith))
    ]) refl

common_none : (n a g : ℕ) → gcd_from g (multiples n a []) ≡ g
common_none zero a g = refl
common_none (suc n) a g = ap (λ (k : ℕ). gcd_from k (multiples n (a + 1) [])) (gcd_nought g) ∙ common_none n (a + 1) g

other_atom : (p : Part) (a : ℕ) → a ≤ p.atom → nat_eq p.atom a ≡ false → a + 1 ≤ p.atom
other_atom p a h e = let no : p.atom ≡ a → ⊥ = λ q. let t : nat_eq p.atom a ≡ true = eq-eqb p.atom a q in absurd cc in grind arith

common_multiples : (n a g : ℕ) (ps : List Part) → Ascends a ps → All (λ p. p.atom < a + n) ps → gcd_from g (multiples n a ps) ≡ common g ps
common_multiples n a g [] s w = common_none n a g
common_multiples zero a g (p ∷ ps) s w = let here : p.atom < a + zero = w 0 p (omega arith) in let first : a ≤ p.atom = s.0 in absurd (omega arith)
common_multiples (suc n) a g (p ∷ ps) s w =
    let first : a ≤ p.atom = s.0 in
    (elim (nat_eq p.atom a) as (λ b. nat_eq p.atom a ≡ b → gcd_from (gcd (unsigned_abs (cond b p.coeff (coeff_of a ps))) g) (multiples n (a + 1) (p ∷ ps)) ≡ common (gcd (unsigned_abs p.coeff) g) ps) [
      | true ↦ λ e.
          let same : p.atom ≡ a = eqb-true p.atom a e in
          let behind : Ascends (a + 1) ps = rw (← same) s.2 in
          ap (gcd_from (gcd (unsigned_abs p.coeff) g)) (multiples_rest n (a + 1) p ps (omega arith))
          ∙ common_multiples n (a + 1) (gcd (unsigned_abs p.coeff) g) ps behind (λ k d lt. let h : _ < a + suc n = w (suc k) d (omega arith) in omega arith)
      | false ↦ λ e.
          let later : a + 1 ≤ p.atom = other_atom p a first e in
          let none : coeff_of a ps ≡ pos 0 = coeff_before a (p.atom + 1) ps s.2 (omega arith) in
          ap (λ (z : ℤ). gcd_from (gcd (unsigned_abs z) g) (multiples n (a + 1) (p ∷ ps))) none
          ∙ ap (λ (k : ℕ). gcd_from k (multiples n (a + 1) (p ∷ ps))) (gcd_nought g)
          ∙ common_multiples n (a + 1) g (p ∷ ps) (later, s.1, s.2) (λ k d lt. let h : _ < a + suc n = w k d lt in omega arith)
    ]) refl

pub coeff_divided : (g a : ℕ) (ps : List Part) → coeff_of a (map (divided g) ps) ≡ int_div (coeff_of a ps) (pos g)
coeff_divided g a [] = ap pos (sym (zero-div g))
coeff_divided g a (p ∷ ps) = elim (nat_eq p.atom a) as (λ b. cond b (int_div p.coeff (pos g)) (coeff_of a (map (divided g) ps)) ≡ int_div (cond b p.coeff (coeff_of a ps)) (pos g)) [ true ↦ refl | false ↦ coeff_divided g a ps ]

multiples_divided : (g n a : ℕ) (ps : List Part) → map (λ c. int_div c (pos g)) (multiples n a ps) ≡ multiples n a (map (divided g) ps)
multiples_divided g zero a ps = refl
multiples_divided g (suc n) a ps =
    ap (λ (z : ℤ). z ∷ map (λ c. int_div c (pos g)) (multiples n (a + 1) ps)) (sym (coeff_divided g a ps))
    ∙ ap (λ (l : List ℤ). coeff_of a (map (divided g) ps) ∷ l) (multiples_divided g n (a + 1) ps)

tight_divided : (n g : ℕ) (f : Form) → tight_by g (row_of n f) ≡ row_of n (cond (nat_lt 1 g) (record { parts = map (divided g) f.parts; constant = ceil_div f.constant g }) f)
tight_divided n g f = elim (nat_lt 1 g) as (λ b. cond b (set (map (λ c. int_div c (pos g)) (row_of n f)) 0 (ceil_div f.constant g)) (row_of n f) ≡ row_of n (cond b (record { parts = map (divided g) f.parts; constant = ceil_div f.constant g }) f)) [
  | true ↦ ap (λ (l : List ℤ). ceil_div f.constant g ∷ l) (multiples_divided g n 0 f.parts)
  | false ↦ refl
]

pub tight_row : (n : ℕ) (f : Form) → IsForm f → Within (n + 1) f → tight (row_of n f) ≡ row_of n (tight_form f)
tight_row n f p w =
    let same : gcd_from 0 (multiples n 0 f.parts) ≡ common 0 f.parts = common_multiples n 0 0 f.parts p.ascends (λ k d lt. let h : _ + 1 < n + 1 = w k d lt in omega arith) in
    ap (λ (g : ℕ). tight_by g (row_of n f)) same ∙ tight_divided n (common 0 f.parts) f

-- a tightened form has the atoms of the form
pub tight_within : (n : ℕ) (f : Form) → Within n f → Within n (tight_form f)
tight_within n f w = elim (nat_lt 1 (common 0 f.parts)) as (λ b. Within n (cond b (record { parts = map (divided (common 0 f.parts)) f.parts; constant = ceil_div f.constant (common 0 f.parts) }) f)) [ true ↦ All-map (λ p. p.atom + 1 < n) (divided (common 0 f.parts)) f.parts w | false ↦ w ]
