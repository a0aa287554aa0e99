-- The multiples that are added stand in the order of solving, each equation at most once and never 0 times.
use Rattle.std.proofs.Common.{◌≡◌, suc, ◌≢◌, ℤ, pos, neg_ℤ, nat_eq, int_eq, Bool, true, false, cond, List, [], ◌∷◌, ◌++◌, map, Result, Ok, Err, refl, ap, ◌∙◌, arith, All}
use Rattle.std.proofs.lemmas.Int.{ints}
use Rattle.std.proofs.lemmas.Bool.{eq-eqb}
use Rattle.pl_forms.specs.declared.form.Form.{Form}
use Rattle.pl_forms.specs.declared.form.TermError.{TermError}
use Rattle.pl_forms.specs.declared.fact.EqTerm.{EqTerm}
use Rattle.pl_forms.specs.declared.fact.CertItem.{CertItem}
use Rattle.pl_forms.specs.declared.equation.Solution.{Solution}
use Rattle.pl_forms.specs.Equations.{coeff_of, opposite, remove}
use Rattle.pl_forms.specs.Terms.{then_terms, terms, difference, between}
use Rattle.pl_forms.proofs.Reducing.{opposite_some}
use Rattle.pl_linear.specs.Bounds.{minus_term}
use Rattle.pl_linear.specs.Witnesses.{is_strict, all_strict}

-- what stands behind the first multiple
record Behind (ss : List Solution) (t : EqTerm) (ts : List EqTerm) : Type 0 where
  some : int_eq t.times (pos 0) ≡ false
  rest : is_strict ss ts ≡ true

if_not : (a b : Bool) → cond a false b ≡ true → (a ≡ false) × (b ≡ true)
if_not true b h = absurd cc
if_not false b h = (refl, h)

front_by : (s : Solution) (ss : List Solution) (ts : List EqTerm) → ((t : EqTerm) (us : List EqTerm) → is_strict ss (t ∷ us) ≡ true → Behind ss t us) → is_strict ss ts ≡ true → is_strict (s ∷ ss) ts ≡ true
front_by s ss [] more h = refl
front_by s ss (t ∷ us) more h =
    let b = more t us h in
    elim (nat_eq s.fact t.fact) as (λ x. cond x (cond (int_eq t.times (pos 0)) false (is_strict ss us)) (is_strict ss (t ∷ us)) ≡ true) [ true ↦ rw b.some b.rest | false ↦ h ]

more_behind : (ss : List Solution) (t : EqTerm) (ts : List EqTerm) → is_strict ss (t ∷ ts) ≡ true → Behind ss t ts
more_behind [] t ts h = absurd cc
more_behind (s ∷ ss) t ts h =
    (elim (nat_eq s.fact t.fact) as (λ x. cond x (cond (int_eq t.times (pos 0)) false (is_strict ss ts)) (is_strict ss (t ∷ ts)) ≡ true → Behind (s ∷ ss) t ts) [
      | true ↦ λ q. let n = if_not (int_eq t.times (pos 0)) (is_strict ss ts) q in record { some = n.0; rest = front_by s ss ts (λ u us k. more_behind ss u us k) n.1 }
      | false ↦ λ q. let b = more_behind ss t ts q in record { some = b.some; rest = front_by s ss ts (λ u us k. more_behind ss u us k) b.rest }
    ]) h

-- one more equation in front
front : (s : Solution) (ss : List Solution) (ts : List EqTerm) → is_strict ss ts ≡ true → is_strict (s ∷ ss) ts ≡ true
front s ss ts h = front_by s ss ts (λ t us k. more_behind ss t us k) h

none_strict : (ss : List Solution) → is_strict ss [] ≡ true
none_strict [] = refl
none_strict (s ∷ ss) = refl

here : (s : Solution) (ss : List Solution) (k : ℤ) (ts : List EqTerm) → int_eq k (pos 0) ≡ false → is_strict ss ts ≡ true → is_strict (s ∷ ss) (record { times = k; fact = s.fact } ∷ ts) ≡ true
here s ss k ts n h = rw (eq-eqb s.fact s.fact refl, n) h

-- .. with a multiple of it, or with none
step_strict : (s : Solution) (ss : List Solution) (b : Bool) (k : ℤ) (rest : List EqTerm) → (b ≡ false → int_eq k (pos 0) ≡ false) → is_strict ss rest ≡ true → is_strict (s ∷ ss) (cond b [] (record { times = k; fact = s.fact } ∷ []) ++ rest) ≡ true
step_strict s ss true k rest n h = front s ss rest h
step_strict s ss false k rest n h = here s ss k rest (n refl) h

other_than_none : (c : ℤ) → int_eq c (pos 0) ≡ false → c ≢ pos 0
other_than_none c h = grind (arith, ints)

not_none : (c : ℤ) → c ≢ pos 0 → int_eq c (pos 0) ≡ false
not_none c h = grind (arith, ints)

removes_some : (minus : Bool) (c : ℤ) → int_eq c (pos 0) ≡ false → int_eq (opposite minus c) (pos 0) ≡ false
removes_some minus c h = not_none (opposite minus c) (opposite_some minus c (other_than_none c h))

then_strict : (ss : List Solution) (r : Result Form TermError) (f : Form → List EqTerm) → ((g : Form) → is_strict ss (f g) ≡ true) → is_strict ss (then_terms r f) ≡ true
then_strict ss (Err e) f h = none_strict ss
then_strict ss (Ok g) f h = h g

-- what is added as a form is reduced
pub terms_strict : (ss : List Solution) (f : Form) → is_strict ss (terms ss f) ≡ true
terms_strict [] f = refl
terms_strict (s ∷ ss) f =
    let c = coeff_of s.atom f.parts in
    step_strict s ss (int_eq (coeff_of s.atom f.parts) (pos 0)) (opposite s.minus (coeff_of s.atom f.parts)) (then_terms (remove s f) (λ g. terms ss g)) (λ e. removes_some s.minus (coeff_of s.atom f.parts) e) (then_strict ss (remove s f) (λ g. terms ss g) (λ g. terms_strict ss g))

-- .. and what leads one form to another
pub between_strict : (ss : List Solution) (same : Bool) (f g : Form) → is_strict ss (between ss same f g) ≡ true
between_strict [] same f g = refl
between_strict (s ∷ ss) same f g =
    let k = difference same (opposite s.minus (coeff_of s.atom f.parts)) (opposite s.minus (coeff_of s.atom g.parts)) in
    step_strict s ss (int_eq k (pos 0)) k (then_terms (remove s f) (λ h. then_terms (remove s g) (λ k. between ss same h k))) (λ e. e) (then_strict ss (remove s f) (λ h. then_terms (remove s g) (λ k. between ss same h k)) (λ h. then_strict ss (remove s g) (λ k. between ss same h k) (λ k. between_strict ss same h k)))

minus_other : (c : ℤ) → c ≢ pos 0 → neg_ℤ c ≢ pos 0
minus_other c h = λ e. h (omega (arith, ints, e))

minus_none : (c : ℤ) → int_eq (neg_ℤ c) (pos 0) ≡ int_eq c (pos 0)
minus_none c =
    (elim (int_eq c (pos 0)) as (λ b. int_eq c (pos 0) ≡ b → int_eq (neg_ℤ c) (pos 0) ≡ b) [
      | true ↦ λ e. none_minus c e
      | false ↦ λ e. not_none (neg_ℤ c) (minus_other c (other_than_none c e))
    ]) refl
  where
    none_minus : (c : ℤ) → int_eq c (pos 0) ≡ true → int_eq (neg_ℤ c) (pos 0) ≡ true
    none_minus c h = grind (arith, ints)

-- .. with all signs turned
pub minus_strict : (ss : List Solution) (ts : List EqTerm) → is_strict ss (map minus_term ts) ≡ is_strict ss ts
minus_strict [] [] = refl
minus_strict [] (t ∷ ts) = refl
minus_strict (s ∷ ss) [] = refl
minus_strict (s ∷ ss) (t ∷ ts) =
    ap (λ x. cond (nat_eq s.fact t.fact) (cond x false (is_strict ss (map minus_term ts))) (is_strict ss (map minus_term (t ∷ ts)))) (minus_none t.times)
    ∙ ap (λ x. cond (nat_eq s.fact t.fact) (cond (int_eq t.times (pos 0)) false x) (is_strict ss (map minus_term (t ∷ ts)))) (minus_strict ss ts)
    ∙ ap (λ x. cond (nat_eq s.fact t.fact) (cond (int_eq t.times (pos 0)) false (is_strict ss ts)) x) (minus_strict ss (t ∷ ts))

pub items_strict : (eqs : List Solution) (its : List CertItem) → All (λ it. is_strict eqs it.eqs ≡ true) its → all_strict eqs its ≡ true
items_strict eqs [] h = refl
items_strict eqs (it ∷ its) h = rw (h 0 it (omega arith)) (items_strict eqs its (λ k d lt. h (suc k) d (omega arith)))
