-- Reducing keeps the value where the solved equations are met, and a form stays a form.
use Rattle.std.proofs.Common.{◌≡◌, ◌≢◌, ℕ, suc, ◌≤◌, ◌^◌, ℤ, pos, neg_ℤ, ◌+ℤ◌, ◌*ℤ◌, unsigned_abs, int_eq, nat_eq, ◌&&◌, length, Bool, true, false, cond, List, [], ◌∷◌, Option, Some, None, Result, Ok, Err, IfOk, refl, ap, sym, ◌∙◌, arith}
use Rattle.std.proofs.lemmas.Int.{ints}
use Rattle.std.proofs.lemmas.Bool.{eqb-true}
use lib.IntN.{*ℤ-zero}
use Rattle.pl_forms.specs.declared.form.Part.{Part}
use Rattle.pl_forms.specs.declared.form.Form.{Form}
use Rattle.pl_forms.specs.declared.form.TermError.{TermError}
use Rattle.pl_forms.specs.declared.equation.Solution.{Solution}
use Rattle.pl_forms.specs.Forms.{Answers, IsForm, Small, value, parts_value}
use Rattle.pl_forms.specs.Steps.{plus}
use Rattle.pl_forms.specs.Facts.{MeetsGuard}
use Rattle.pl_forms.specs.Equations.{AreSolutions, MeetsSolved, coeff_of, opposite, then_form, remove, reduced, is_one, one_of, counted}
use Rattle.pl_forms.proofs.FormSteps.{plus_value, plus_form}

pub coeff_small : (a : ℕ) (ps : List Part) → Small ps → unsigned_abs (coeff_of a ps) ≤ 2 ^ 40
coeff_small a [] h = omega arith
coeff_small a (p ∷ ps) h =
    elim (nat_eq p.atom a) as (λ b. unsigned_abs (cond b p.coeff (coeff_of a ps)) ≤ 2 ^ 40) [ true ↦ h 0 p (omega arith) | false ↦ coeff_small a ps (λ k z lt. h (suc k) z (omega arith)) ]

negated_small : (c : ℤ) (n : ℕ) → unsigned_abs c ≤ n → unsigned_abs (neg_ℤ c) ≤ n
negated_small c n h = grind (arith, ints)

negated_none : (c : ℤ) → neg_ℤ c ≡ pos 0 → c ≡ pos 0
negated_none c h = omega (arith, ints)

pub opposite_small : (b : Bool) (c : ℤ) (n : ℕ) → unsigned_abs c ≤ n → unsigned_abs (opposite b c) ≤ n
opposite_small true c n h = h
opposite_small false c n h = negated_small c n h

pub opposite_some : (b : Bool) (c : ℤ) → c ≢ pos 0 → opposite b c ≢ pos 0
opposite_some true c h = h
opposite_some false c h = λ e. h (negated_none c e)

pub then_is : (r : Result Form TermError) (f : Form → Result Form TermError) (g : Form) → then_form r f ≡ Ok g → (h : Form) × (r ≡ Ok h) × (f h ≡ Ok g)
then_is (Err e) f g q = absurd cc
then_is (Ok h) f g q = (h, refl, q)

removed_value : (v : ℕ → ℤ) (s f g : Form) (k : ℤ) (b : Bool) → value v s ≡ pos 0 → cond b (Ok f) (plus f k s) ≡ Ok g → value v g ≡ value v f
removed_value v s f g k true m q = let e : f ≡ g = cc in ap (value v) (sym e)
removed_value v s f g k false m q =
    let e = plus_value f s k (Ok g) q v in
    omega (arith, ints, e, ap (λ z. k *ℤ z) m, *ℤ-zero k)

pub reduced_value : (v : ℕ → ℤ) (ss : List Solution) (f g : Form) → MeetsSolved v ss → reduced ss f ≡ Ok g → value v g ≡ value v f
reduced_value v [] f g m q = let e : f ≡ g = cc in ap (value v) (sym e)
reduced_value v (s ∷ ss) f g m q =
    let t = then_is (remove s f) (λ h. reduced ss h) g q in
    reduced_value v ss t.0 g (λ k z lt. m (suc k) z (omega arith)) t.2
    ∙ removed_value v s.form f t.0 (opposite s.minus (coeff_of s.atom f.parts)) (int_eq (coeff_of s.atom f.parts) (pos 0)) (m 0 s (omega arith)) t.1

pub reduce_value : (ss : List Solution) (f : Form) (r : Result Form TermError) → Answers r (reduced ss f) → IfOk r (λ g. (v : ℕ → ℤ) → MeetsSolved v ss → value v g ≡ value v f)
reduce_value ss f (Err e) h = tt
reduce_value ss f (Ok g) h = λ v m. reduced_value v ss f g m h

other_than_none : (c : ℤ) → int_eq c (pos 0) ≡ false → c ≢ pos 0
other_than_none c h = grind (arith, ints)

pub removed_form : (s : Solution) (f g : Form) → IsForm s.form → IsForm f → remove s f ≡ Ok g → IsForm g
removed_form s f g p q h =
    (elim (int_eq (coeff_of s.atom f.parts) (pos 0)) as (λ b. int_eq (coeff_of s.atom f.parts) (pos 0) ≡ b → cond b (Ok f) (plus f (opposite s.minus (coeff_of s.atom f.parts)) s.form) ≡ Ok g → IsForm g) [
      | true ↦ λ n e. let same : f ≡ g = cc in rw (← same) q
      | false ↦ λ n e. plus_form f s.form (opposite s.minus (coeff_of s.atom f.parts)) (Ok g) (opposite_some s.minus (coeff_of s.atom f.parts) (other_than_none (coeff_of s.atom f.parts) n)) q p e
    ]) refl h

pub reduced_form : (ss : List Solution) (f g : Form) → AreSolutions ss → IsForm f → reduced ss f ≡ Ok g → IsForm g
reduced_form [] f g a p q = let same : f ≡ g = cc in rw (← same) p
reduced_form (s ∷ ss) f g a p q =
    let t = then_is (remove s f) (λ h. reduced ss h) g q in
    reduced_form ss t.0 g (λ k z lt. a (suc k) z (omega arith)) (removed_form s f t.0 (a 0 s (omega arith)) p t.1) t.2

pub reduce_form : (ss : List Solution) (f : Form) (r : Result Form TermError) → AreSolutions ss → IsForm f → Answers r (reduced ss f) → IfOk r (λ g. IsForm g)
reduce_form ss f (Err e) a p h = tt
reduce_form ss f (Ok g) a p h = reduced_form ss f g a p h

pub remove_form : (s : Solution) (f : Form) (r : Result Form TermError) → IsForm s.form → IsForm f → Answers r (remove s f) → IfOk r (λ g. IsForm g)
remove_form s f (Err e) a p h = tt
remove_form s f (Ok g) a p h = removed_form s f g a p h

and_parts : (a b : Bool) → a && b ≡ true → (a ≡ true) × (b ≡ true)
and_parts true b h = (refl, h)
and_parts false b h = absurd cc

is_of : (c d : ℤ) → int_eq c d ≡ true → c ≡ d
is_of c d h = grind (arith, ints)

one_value : (v : ℕ → ℤ) (ps : List Part) (c : ℤ) → nat_eq (length ps) 0 ≡ true → c ≡ pos 1 → parts_value v ps +ℤ c ≡ pos 1
one_value v [] c h e = rw e refl
one_value v (p ∷ ps) c h e = let none : suc (length ps) ≡ 0 = eqb-true (suc (length ps)) 0 h in absurd (omega arith)

one_is : (r : Result Form TermError) → one_of r ≡ Ok true → (g : Form) × (r ≡ Ok g) × (is_one g ≡ true)
one_is (Err e) h = absurd cc
one_is (Ok g) h = (g, refl, cc)

-- a guard by which a fact counts is met where the solved equations are
pub counted_meets : (v : ℕ → ℤ) (ss : List Solution) (o : Option Form) → MeetsSolved v ss → counted ss o ≡ Ok true → MeetsGuard v o
counted_meets v ss None m h = tt
counted_meets v ss (Some g) m h =
    let t = one_is (reduced ss g) h in
    let p = and_parts (nat_eq (length t.0.parts) 0) (int_eq t.0.constant (pos 1)) t.2 in
    sym (reduced_value v ss g t.0 m t.1) ∙ one_value v t.0.parts t.0.constant p.0 (is_of t.0.constant (pos 1) p.1)
