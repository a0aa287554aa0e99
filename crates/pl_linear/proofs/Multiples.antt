-- The multiple of each atom in sums, and in rows.
use Rattle.std.proofs.Common.{◌≡◌, ℕ, zero, suc, ◌<◌, ◌≤◌, ◌+◌, ◌^◌, ℤ, pos, negsuc, ◌+ℤ◌, ◌*ℤ◌, unsigned_abs, nat_eq, nat_lt, Bool, true, false, cond, List, [], ◌∷◌, map, length, refl, ap, sym, ◌∙◌, arith}
use Rattle.std.proofs.lemmas.Int.{ints}
use Rattle.std.proofs.lemmas.Bool.{eqb-true}
use Rattle.std.proofs.lemmas.Bool.Decides.{nat_tests}
use lib.IntN.{*ℤ-zero}
use Rattle.pl_forms.specs.declared.form.Part.{Part}
use Rattle.pl_forms.specs.Forms.{merge, merge_into, put_part, is_zero, Ascends, Small}
use Rattle.pl_forms.specs.Steps.{times_part}
use Rattle.pl_forms.specs.Equations.{coeff_of}
use Rattle.pl_forms.specs.Rows.{at}
use Rattle.pl_forms.proofs.FormLimits.{ascends-merge}
use Rattle.pl_forms.proofs.Reducing.{coeff_small}
use Rattle.pl_linear.specs.FormRow.{multiples}

-- an atom before the first has no multiple
pub coeff_before : (a low : ℕ) (ps : List Part) → Ascends low ps → a < low → coeff_of a ps ≡ pos 0
coeff_before a low [] s h = refl
coeff_before a low (p ∷ ps) s h =
    let first : low ≤ p.atom = s.0 in
    (elim (nat_eq p.atom a) as (λ b. nat_eq p.atom a ≡ b → cond b p.coeff (coeff_of a ps) ≡ pos 0) [
      | true ↦ λ e. let same : p.atom ≡ a = eqb-true p.atom a e in absurd (omega arith)
      | false ↦ λ e. coeff_before a (p.atom + 1) ps s.2 (omega arith)
    ]) refl

zero_is : (z : ℤ) → is_zero z ≡ true → z ≡ pos 0
zero_is (pos zero) h = refl
zero_is (pos (suc n)) h = absurd cc
zero_is (negsuc n) h = absurd cc

nought_left : (a m : ℕ) (c : ℤ) (rest : List Part) (b : Bool) → c ≡ pos 0 → Ascends (m + 1) rest → nat_eq m a ≡ b → coeff_of a rest ≡ cond b c (coeff_of a rest)
nought_left a m c rest true z s e = let same : m ≡ a = eqb-true m a e in coeff_before a (m + 1) rest s (omega arith) ∙ sym z
nought_left a m c rest false z s e = refl

coeff-put : (a m : ℕ) (c : ℤ) (rest : List Part) → Ascends (m + 1) rest → coeff_of a (put_part m c rest) ≡ cond (nat_eq m a) c (coeff_of a rest)
coeff-put a m c rest s =
    (elim (is_zero c) as (λ z. is_zero c ≡ z → coeff_of a (cond z rest (record { coeff = c; atom = m } ∷ rest)) ≡ cond (nat_eq m a) c (coeff_of a rest)) [
      | true ↦ λ z. nought_left a m c rest (nat_eq m a) (zero_is c z) s refl
      | false ↦ λ z. refl
    ]) refl

coeff_chosen : (a m n : ℕ) (r : ℤ) (less same more : List Part) → (m < n → coeff_of a less ≡ r) → (n < m → coeff_of a more ≡ r) → (m ≡ n → coeff_of a same ≡ r) → coeff_of a (cond (nat_lt m n) less (cond (nat_lt n m) more same)) ≡ r
coeff_chosen a m n r less same more p q e =
    (elim (nat_lt m n) as (λ s. nat_lt m n ≡ s → coeff_of a (cond s less (cond (nat_lt n m) more same)) ≡ r) [
      | true ↦ λ lo. p (grind (arith, nat_tests))
      | false ↦ λ lo. (elim (nat_lt n m) as (λ t. nat_lt n m ≡ t → coeff_of a (cond t more same) ≡ r) [ true ↦ λ hi. q (grind (arith, nat_tests)) | false ↦ λ hi. e (grind (arith, nat_tests)) ]) refl
    ])
    refl

-- a part that stands before all others
coeff_first : (a : ℕ) (x : Part) (rest more zs : List Part) → coeff_of a rest ≡ coeff_of a more +ℤ coeff_of a zs → (x.atom ≡ a → coeff_of a zs ≡ pos 0) → coeff_of a (x ∷ rest) ≡ coeff_of a (x ∷ more) +ℤ coeff_of a zs
coeff_first a x rest more zs h n =
    (elim (nat_eq x.atom a) as (λ b. nat_eq x.atom a ≡ b → cond b x.coeff (coeff_of a rest) ≡ cond b x.coeff (coeff_of a more) +ℤ coeff_of a zs) [
      | true ↦ λ e. let none = n (eqb-true x.atom a e) in omega (arith, ints, none)
      | false ↦ λ e. h
    ]) refl

coeff_both : (a m : ℕ) (c d : ℤ) (rest more zs : List Part) → Ascends (m + 1) rest → coeff_of a rest ≡ coeff_of a more +ℤ coeff_of a zs → coeff_of a (put_part m (c +ℤ d) rest) ≡ cond (nat_eq m a) c (coeff_of a more) +ℤ cond (nat_eq m a) d (coeff_of a zs)
coeff_both a m c d rest more zs s h =
    coeff-put a m (c +ℤ d) rest s
    ∙ elim (nat_eq m a) as (λ b. cond b (c +ℤ d) (coeff_of a rest) ≡ cond b c (coeff_of a more) +ℤ cond b d (coeff_of a zs)) [ true ↦ refl | false ↦ h ]

swapped : (x y : ℤ) → x +ℤ y ≡ y +ℤ x
swapped x y = omega (arith, ints)

coeff-into : (a low : ℕ) (x : Part) (more : List Part) → ((l : ℕ) (ys : List Part) → Ascends l more → Ascends l ys → coeff_of a (merge more ys) ≡ coeff_of a more +ℤ coeff_of a ys) → ((l : ℕ) (ys : List Part) → Ascends l more → Ascends l ys → Ascends l (merge more ys)) → (ys : List Part) → Ascends low (x ∷ more) → Ascends low ys → coeff_of a (merge_into x (λ rest. merge more rest) ys) ≡ coeff_of a (x ∷ more) +ℤ coeff_of a ys
coeff-into a low x more ih up [] s t = coeff_first a x (merge more []) more [] (ih (x.atom + 1) [] s.2 tt) (λ e. refl)
coeff-into a low x more ih up (y ∷ ys) s t =
    coeff_chosen a x.atom y.atom (coeff_of a (x ∷ more) +ℤ coeff_of a (y ∷ ys)) (x ∷ merge more (y ∷ ys)) (put_part x.atom (x.coeff +ℤ y.coeff) (merge more ys)) (y ∷ merge_into x (λ rest. merge more rest) ys)
    (λ lt.
    let behind : Ascends (x.atom + 1) (y ∷ ys) = (omega arith, t.1, t.2) in
    coeff_first a x (merge more (y ∷ ys)) more (y ∷ ys) (ih (x.atom + 1) (y ∷ ys) s.2 behind) (λ e. coeff_before a (x.atom + 1) (y ∷ ys) behind (omega arith)))
    (λ lt.
    let behind : Ascends (y.atom + 1) (x ∷ more) = (omega arith, s.1, s.2) in
    let rest = coeff-into a (y.atom + 1) x more ih up ys behind t.2 in
    let first = coeff_first a y (merge_into x (λ rest. merge more rest) ys) ys (x ∷ more) (rest ∙ swapped (coeff_of a (x ∷ more)) (coeff_of a ys)) (λ e. coeff_before a (y.atom + 1) (x ∷ more) behind (omega arith)) in
    first ∙ swapped (coeff_of a (y ∷ ys)) (coeff_of a (x ∷ more)))
    (λ e.
    let behind : Ascends (x.atom + 1) ys = rw e t.2 in
    rw (← e) (coeff_both a x.atom x.coeff y.coeff (merge more ys) more ys (up (x.atom + 1) ys s.2 behind) (ih (x.atom + 1) ys s.2 behind)))

pub coeff-merge : (a low : ℕ) (xs ys : List Part) → Ascends low xs → Ascends low ys → coeff_of a (merge xs ys) ≡ coeff_of a xs +ℤ coeff_of a ys
coeff-merge a low [] ys s t = omega (arith, ints)
coeff-merge a low (x ∷ more) ys s t = coeff-into a low x more (λ l zs p q. coeff-merge a l more zs p q) (λ l zs p q. ascends-merge l more zs p q) ys s t

pub coeff-times : (a : ℕ) (k : ℤ) (ps : List Part) → coeff_of a (map (times_part k) ps) ≡ k *ℤ coeff_of a ps
coeff-times a k [] = sym (*ℤ-zero k)
coeff-times a k (p ∷ ps) = elim (nat_eq p.atom a) as (λ b. cond b (k *ℤ p.coeff) (coeff_of a (map (times_part k) ps)) ≡ k *ℤ cond b p.coeff (coeff_of a ps)) [ true ↦ refl | false ↦ coeff-times a k ps ]

pub length-multiples : (n a : ℕ) (ps : List Part) → length (multiples n a ps) ≡ n
length-multiples zero a ps = refl
length-multiples (suc n) a ps = ap suc (length-multiples n (a + 1) ps)

pub at-multiples : (n a i : ℕ) (ps : List Part) → i < n → at (multiples n a ps) i ≡ coeff_of (a + i) ps
at-multiples zero a i ps h = absurd (omega arith)
at-multiples (suc n) a zero ps h = let e : a ≡ a + 0 = omega arith in ap (λ (k : ℕ). coeff_of k ps) e
at-multiples (suc n) a (suc i) ps h = let e : a + 1 + i ≡ a + suc i = omega arith in at-multiples n (a + 1) i ps (omega arith) ∙ ap (λ (k : ℕ). coeff_of k ps) e

-- also past the end
pub multiples_small : (n a i : ℕ) (ps : List Part) → Small ps → unsigned_abs (at (multiples n a ps) i) ≤ 2 ^ 40
multiples_small zero a i ps s = omega arith
multiples_small (suc n) a zero ps s = coeff_small a ps s
multiples_small (suc n) a (suc i) ps s = multiples_small n (a + 1) i ps s
