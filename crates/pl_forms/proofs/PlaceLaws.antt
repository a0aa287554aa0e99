-- Sums and reduced forms have no atoms but those of what they were made of.
use Rattle.std.proofs.Common.{◌≡◌, ℕ, suc, ◌<◌, ◌+◌, ℤ, pos, ◌+ℤ◌, ◌*ℤ◌, int_eq, nat_lt, Bool, true, false, cond, List, [], ◌∷◌, map, Result, Ok, Err, IfOk, arith, All}
use Rattle.std.proofs.lemmas.List.Elements.{All-cons, All-map}
use Rattle.pl_forms.specs.declared.form.Part.{Part}
use Rattle.pl_forms.specs.declared.form.Form.{Form}
use Rattle.pl_forms.specs.declared.form.TermError.{TermError}
use Rattle.pl_forms.specs.declared.equation.Solution.{Solution}
use Rattle.pl_forms.specs.Forms.{merge, merge_into, put_part, is_zero, excess, Answers}
use Rattle.pl_forms.specs.Steps.{times_part, plus}
use Rattle.pl_forms.specs.Equations.{coeff_of, opposite, remove, reduced}
use Rattle.pl_forms.specs.Places.{Within, AllSolvedWithin}
use Rattle.pl_forms.proofs.FormLimits.{limited_ok}
use Rattle.pl_forms.proofs.Reducing.{then_is}

abbrev pub Below : ℕ → List Part → Type 0
Below n ps = All (λ p. p.atom + 1 < n) ps

below_put : (n a : ℕ) (c : ℤ) (rest : List Part) → a + 1 < n → Below n rest → Below n (put_part a c rest)
below_put n a c rest h r = elim (is_zero c) as (λ z. Below n (cond z rest (record { coeff = c; atom = a } ∷ rest))) [ true ↦ r | false ↦ All-cons (λ p. p.atom + 1 < n) (record { coeff = c; atom = a }) rest h r ]

below_chosen : (n : ℕ) (a b : Bool) (less same more : List Part) → Below n less → Below n same → Below n more → Below n (cond a less (cond b more same))
below_chosen n true b less same more p q r = p
below_chosen n false true less same more p q r = r
below_chosen n false false less same more p q r = q

below_into : (n : ℕ) (a : Part) (more : List Part) → ((ys : List Part) → Below n ys → Below n (merge more ys)) → (ys : List Part) → a.atom + 1 < n → Below n ys → Below n (merge_into a (λ rest. merge more rest) ys)
below_into n a more ih [] h t = All-cons (λ p. p.atom + 1 < n) a (merge more []) h (ih [] t)
below_into n a more ih (b ∷ bs) h t =
    let rest : Below n bs = λ k z lt. t (suc k) z (omega arith) in
    below_chosen n (nat_lt a.atom b.atom) (nat_lt b.atom a.atom) (a ∷ merge more (b ∷ bs)) (put_part a.atom (a.coeff +ℤ b.coeff) (merge more bs)) (b ∷ merge_into a (λ rest. merge more rest) bs)
    (All-cons (λ p. p.atom + 1 < n) a (merge more (b ∷ bs)) h (ih (b ∷ bs) t))
    (below_put n a.atom (a.coeff +ℤ b.coeff) (merge more bs) h (ih bs rest))
    (All-cons (λ p. p.atom + 1 < n) b (merge_into a (λ rest. merge more rest) bs) (t 0 b (omega arith)) (below_into n a more ih bs h rest))

pub below_merge : (n : ℕ) (xs ys : List Part) → Below n xs → Below n ys → Below n (merge xs ys)
below_merge n [] ys s t = t
below_merge n (a ∷ more) ys s t = below_into n a more (λ zs q. below_merge n more zs (λ k z lt. s (suc k) z (omega arith)) q) ys (s 0 a (omega arith)) t

pub plus_within : (n : ℕ) (f g s : Form) (k : ℤ) → Within n f → Within n g → plus f k g ≡ Ok s → Within n s
plus_within n f g s k p q h =
    let o = limited_ok (excess (merge f.parts (map (times_part k) g.parts))) (merge f.parts (map (times_part k) g.parts)) (f.constant +ℤ (k *ℤ g.constant)) s h in
    rw o.1 (below_merge n f.parts (map (times_part k) g.parts) p (All-map (λ p. p.atom + 1 < n) (times_part k) g.parts q))

removed_within : (n : ℕ) (s f g : Form) (k : ℤ) (b : Bool) → Within n s → Within n f → cond b (Ok f) (plus f k s) ≡ Ok g → Within n g
removed_within n s f g k true p q h = let same : f ≡ g = cc in rw (← same) q
removed_within n s f g k false p q h = plus_within n f s g k q p h

pub reduced_within : (n : ℕ) (ss : List Solution) (f g : Form) → AllSolvedWithin n ss → Within n f → reduced ss f ≡ Ok g → Within n g
reduced_within n [] f g a p q = let same : f ≡ g = cc in rw (← same) p
reduced_within n (s ∷ ss) f g a p q =
    let t = then_is (remove s f) (λ h. reduced ss h) g q in
    reduced_within n ss t.0 g (λ k z lt. a (suc k) z (omega arith)) (removed_within n s.form f t.0 (opposite s.minus (coeff_of s.atom f.parts)) (int_eq (coeff_of s.atom f.parts) (pos 0)) (a 0 s (omega arith)) p t.1) t.2

pub reduce_within : (ss : List Solution) (f : Form) (r : Result Form TermError) → Answers r (reduced ss f) → IfOk r (λ g. (n : ℕ) → AllSolvedWithin n ss → Within n f → Within n g)
reduce_within ss f (Err e) h = tt
reduce_within ss f (Ok g) h = λ n a p. reduced_within n ss f g a p h
