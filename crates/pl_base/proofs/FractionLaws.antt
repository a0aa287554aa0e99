-- Fractions in lowest terms.
use Rattle.std.proofs.Common.{◌≡◌, ℕ, ◌+◌, ◌*◌, ◌/◌, ◌%◌, ◌<◌, ◌≤◌, zero, suc, refl, sym, subst, ap, ◌∙◌, subst₂, ap₂, ◌↔◌, arith}
use Rattle.std.specs.Prelude.{Ok, Err, Result, IfOk, MatchResult}
use Rattle.std.specs.Ordering.{MatchOrdering, nat_cmp}
use Rattle.std.specs.declared.cmp.Ordering.{Ordering}
use Rattle.std.specs.declared.cmp.Ordering.TheVariants.{Less, Equal, Greater}
use Rattle.std.proofs.lemmas.Cmp.{ranked, tied_itself, nat_cmp_total}
use Prim.Native.Nat.{◌∣◌}
use native.Mathlib.Nat.{one-dvd, mul-dvd-mul_right, dvd_of_mul-dvd-mul_right, div-mul_cancel, pos_of_dvd_of_pos, dvd-mul_right, dvd-mul_left, dvd_antisymm, le-div_iff_mul-le, div-le_self, mod-lt}
use Rattle.std.proofs.Math.Nat.{eq-zero_of_zero-dvd, eq_of_mul-eq-mul_right}
use Rattle.std.proofs.lemmas.Nat.Gcd.{dvd-zero, IsGcd-from_zero, IsGcd-from_mod}
use Rattle.std.specs.Int.{IsGcd}
use Rattle.pl_base.specs.declared.perm.TooFine.{TooFine}
use Rattle.pl_base.specs.Fraction.{IsFraction, IsPart, IsReduced, IsHalf, IsSum, IsTooFine, finest, permission_of}
use Rattle.pl_base.specs.Permission.{PermissionAdds}

pub some_common : (a b g : ℕ) → 0 < a → IsGcd a b g → 0 < g
some_common a b g h i = pos_of_dvd_of_pos i.0 h

pub lowest : (a b g : ℕ) → 0 < g → IsGcd a b g → IsGcd (a / g) (b / g) 1
lowest a b g some i = (
  one-dvd (a / g),
  one-dvd (b / g),
  λ d p q.
      let ad : d * g ∣ a = let P : ℕ → Type 0 = λ n. d * g ∣ n in subst P (div-mul_cancel g i.0) (mul-dvd-mul_right d p g) in
      let bd : d * g ∣ b = let P : ℕ → Type 0 = λ n. d * g ∣ n in subst P (div-mul_cancel g i.1) (mul-dvd-mul_right d q g) in
      let all : d * g ∣ 1 * g = let P : ℕ → Type 0 = λ n. d * g ∣ n in subst P (omega arith) (i.2 (d * g) ad bd) in
      dvd_of_mul-dvd-mul_right d some all,
)

swapped : (x y g : ℕ) → x * (y * g) ≡ (x * g) * y
swapped x y g = omega arith

-- the quotients by a common divisor are the same fraction
pub same : (a b g : ℕ) → IsGcd a b g → a / g * b ≡ a * (b / g)
same a b g i =
    ap (λ n. a / g * n) (sym (div-mul_cancel g i.1)) ∙ swapped (a / g) (b / g) g ∙ ap (λ n. n * (b / g)) (div-mul_cancel g i.0)

some_quotient : (a g : ℕ) → 0 < a → g ∣ a → 0 < a / g
some_quotient a g h d =
    let P : ℕ → Type 0 = λ n. a / g ∣ n in
    pos_of_dvd_of_pos (subst P (div-mul_cancel g d) (dvd-mul_right (a / g) g)) h

-- the quotients by the greatest common divisor are in lowest terms
pub is_reduced : (a b g : ℕ) → 0 < a → IsGcd a b g → IsReduced a b (a / g, b / g)
is_reduced a b g some i = record { same = same a b g i; lowest = lowest a b g (some_common a b g some i) i }

pub quotients : (a b g : ℕ) → 0 < a → a ≤ b → IsGcd a b g → (0 < a / g) × (a / g ≤ b / g) × (b / g ≤ b)
quotients a b g h le i =
    let some = some_common a b g h i in
    let up : a / g * g ≤ b = rw (div-mul_cancel g i.0) le in
    (some_quotient a g h i.0, (le-div_iff_mul-le some).1 up, div-le_self b g)

pub made : (a b g : ℕ) → 0 < a → a ≤ b → IsGcd a b g → b / g ≤ finest → IsFraction (a / g) (b / g)
made a b g some le i coarse =
    let q = quotients a b g some le i in
    record { part = record { some = q.0; within = q.1; coarse = coarse }; lowest = (is_reduced a b g some i).lowest }

-- each two numbers have a greatest common divisor
gcd_below : (n a b : ℕ) → b < n → (g : ℕ) × IsGcd a b g
gcd_below zero a b h = absurd (omega arith)
gcd_below (suc n) a zero h = (a, IsGcd-from_zero a 0 refl)
gcd_below (suc n) a (suc b) h =
    let less : a % suc b < suc b = mod-lt a (omega arith) in
    let r = gcd_below n (suc b) (a % suc b) (omega arith) in
    (r.0, IsGcd-from_mod a (suc b) r.0 r.1)

times : (a b d g : ℕ) → 0 < d → IsGcd a b 1 → IsGcd (a * d) (b * d) g → g ≡ d
times a b d g some i j =
    let under : d ∣ g = j.2 d (dvd-mul_left d a) (dvd-mul_left d b) in
    let is : g / d * d ≡ g = div-mul_cancel d under in
    let P : ℕ → ℕ → Type 0 = λ m n. n ∣ m * d in
    let qa : g / d ∣ a = dvd_of_mul-dvd-mul_right (g / d) some (subst (P a) (sym is) j.0) in
    let qb : g / d ∣ b = dvd_of_mul-dvd-mul_right (g / d) some (subst (P b) (sym is) j.1) in
    let one : g / d ∣ 1 = i.2 (g / d) qa qb in
    let over : g / d * d ∣ 1 * d = mul-dvd-mul_right (g / d) one d in
    let back : g ∣ d = subst₂ (λ m n. m ∣ n) is (omega arith) over in
    dvd_antisymm back under

-- what divides a product of one of two numbers without a common divisor and divides the like product of the other
pub both_products : (a b d m : ℕ) → 0 < d → IsGcd a b 1 → m ∣ a * d → m ∣ b * d → m ∣ d
both_products a b d m some i p q =
    let r = gcd_below (suc (b * d)) (a * d) (b * d) (omega arith) in
    subst (λ n. m ∣ n) (times a b d r.0 some i r.1) (r.1.2 m p q)

den_under : (a b c d : ℕ) → 0 < d → IsGcd a b 1 → a * d ≡ c * b → b ∣ d
den_under a b c d some i e = both_products a b d b some i (subst (λ n. b ∣ n) (sym e) (dvd-mul_left b c)) (dvd-mul_right b d)

-- two fractions in lowest terms that are alike are the same
pub lowest_same : (a b c d : ℕ) → 0 < b → 0 < d → IsGcd a b 1 → IsGcd c d 1 → a * d ≡ c * b → (a ≡ c) × (b ≡ d)
lowest_same a b c d pb pd i j e =
    let dens : b ≡ d = dvd_antisymm (den_under a b c d pd i e) (den_under c d a b pb j (sym e)) in
    (eq_of_mul-eq-mul_right d pd a c (e ∙ ap (λ n. c * n) dens), dens)

den_above : (n d : ℕ) → IsFraction n d → 0 < d
den_above n d f = omega (arith, f.part.some, f.part.within)

one_some : (u : ℕ) → u ≡ 1 → u ≡ 0 → ⊥
one_some u e h = omega arith

den_zero : (n d m b : ℕ) → 0 < d → m * d ≡ n * b → IsGcd m b 1 → b ≡ 0 → ⊥
den_zero n d m b some h i e =
    let none : n * 0 ≡ 0 * d = omega arith in
    let m0 : m ≡ 0 = eq_of_mul-eq-mul_right d some m 0 (h ∙ ap (λ v. n * v) e ∙ none) in
    let zero_one : 0 ∣ 1 = i.2 0 (subst (λ v. 0 ∣ v) (sym m0) (dvd-zero 0)) (subst (λ v. 0 ∣ v) (sym e) (dvd-zero 0)) in
    one_some 1 refl (eq-zero_of_zero-dvd zero_one)

above_zero : (b : ℕ) → (b ≡ 0 → ⊥) → 0 < b
above_zero b h = grind arith

-- a denominator in lowest terms is above 0
pub reduced_den : (n d : ℕ) (p : ℕ × ℕ) → 0 < d → IsReduced n d p → 0 < p.1
reduced_den n d p some r = above_zero p.1 (den_zero n d p.0 p.1 some r.same r.lowest)

num_cross : (n d a b c e : ℕ) → 0 < d → a * d ≡ n * b → c * d ≡ n * e → a * e ≡ c * b
num_cross n d a b c e some h k =
    let h' : (a * d) * e ≡ (n * b) * e = ap (λ (v : ℕ). v * e) h in
    let k' : (c * d) * b ≡ (n * e) * b = ap (λ (v : ℕ). v * b) k in
    eq_of_mul-eq-mul_right d some _ _ (omega arith)

-- a fraction has one form in lowest terms
pub reduced_same : (n d : ℕ) (p q : ℕ × ℕ) → 0 < d → IsReduced n d p → IsReduced n d q → p ≡ q
reduced_same n d p q some r s =
    let cross = num_cross n d p.0 p.1 q.0 q.1 some r.same s.same in
    let two = lowest_same p.0 p.1 q.0 q.1 (reduced_den n d p some r) (reduced_den n d q some s) r.lowest s.lowest cross in
    ap₂ (λ u v. (u, v)) two.0 two.1

-- the two of one order are the same, in lowest terms
tie : (x y : ℕ) (r : Ordering) → MatchOrdering r (x < y) (x ≡ y) (y < x) → r ≡ Equal → x ≡ y
tie x y Less h e = cc
tie x y Equal h e = h
tie x y Greater h e = cc

pub compared : (p q : ℕ × ℕ) (r : Ordering) → IsFraction p.0 p.1 → IsFraction q.0 q.1 → r ≡ nat_cmp (p.0 * q.1) (q.0 * p.1) → (r ≡ Equal) ↔ (p ≡ q)
compared p q r f g is = (
  λ e.
      let cross : p.0 * q.1 ≡ q.0 * p.1 = tie (p.0 * q.1) (q.0 * p.1) r (ranked (p.0 * q.1) (q.0 * p.1) r is) e in
      let two = lowest_same p.0 p.1 q.0 q.1 (den_above p.0 p.1 f) (den_above q.0 q.1 g) f.lowest g.lowest cross in
      ap₂ (λ m n. (m, n)) two.0 two.1,
  λ e. is ∙ ap (λ (v : ℕ × ℕ). nat_cmp (p.0 * v.1) (v.0 * p.1)) (sym e) ∙ tied_itself nat_cmp_total (p.0 * p.1),
)

num_half : (n d m e : ℕ) → 0 < d → m * (2 * d) ≡ n * e → (m * e + m * e) * d ≡ n * (e * e)
num_half n d m e some h =
    let k : (m * (2 * d)) * e ≡ (n * e) * e = ap (λ (v : ℕ). v * e) h in
    omega arith

-- a half in lowest terms is a half
pub half_adds : (p r : ℕ × ℕ) → IsHalf p r → (whole : IsPart p.0 p.1) (part : IsPart r.0 r.1) → PermissionAdds (permission_of r part) (permission_of r part) (permission_of p whole)
half_adds p r h whole part = record { cross = num_half p.0 p.1 r.0 r.1 (omega (arith, whole.some, whole.within)) h.same }

-- a sum in lowest terms is a sum
pub sum_adds : (p q r : ℕ × ℕ) → IsSum p q r → (one : IsPart p.0 p.1) (two : IsPart q.0 q.1) (both : IsPart r.0 r.1) → PermissionAdds (permission_of p one) (permission_of q two) (permission_of r both)
sum_adds p q r h one two both = record { cross = sym h.same }

-- two of what `half` answers make p
pub halves : (p : ℕ × ℕ) (result : Result (ℕ × ℕ) TooFine) → MatchResult result (IsHalf p) (λ e. IsTooFine p.0 (2 * p.1) e.den)
    → IfOk result (λ r. (whole : IsPart p.0 p.1) → (part : IsPart r.0 r.1) → PermissionAdds (permission_of r part) (permission_of r part) (permission_of p whole))
halves p (Ok r) h = λ whole part. half_adds p r h whole part
halves p (Err e) h = tt

pub is_fraction : {n d : ℕ} {p : ℕ × ℕ} → (n, d) ≡ p → IsFraction n d → IsFraction p.0 p.1
is_fraction e f = subst (λ (v : ℕ × ℕ). IsFraction v.0 v.1) e f
