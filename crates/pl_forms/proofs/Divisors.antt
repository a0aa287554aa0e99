-- Euclid's algorithm, and what its result divides.
use Rattle.std.proofs.Common.{◌≡◌, ◌≢◌, ℕ, zero, suc, ◌<◌, ◌≤◌, ◌%◌, ℤ, pos, unsigned_abs, int_div, List, [], ◌∷◌, refl, ap, sym, ◌∙◌, arith, mod-lt, All, length, take, drop, set, map, ◌++◌, le_trans, nat_lt}
use Rattle.std.proofs.lemmas.Bool.{cond-true, lt-ltb}
use Prim.Native.Nat.{◌∣◌}
use native.Mathlib.Nat.{dvd_trans, dvd_refl}
use Rattle.std.specs.Int.{IsGcd}
use Rattle.std.proofs.lemmas.Nat.Gcd.{IsGcd-from_zero, IsGcd-from_mod}
use Rattle.pl_forms.specs.Rows.{gcd, gcd_by, gcd_from, at, tight, tight_by, ceil_div}

bound : (a b f : ℕ) → suc b ≤ suc f → a % suc b ≤ f
bound a b f h = let m : a % suc b < suc b = mod-lt a (omega arith) in omega arith

-- more steps than are needed change nothing
enough : (f g a b : ℕ) → b ≤ f → b ≤ g → gcd_by f a b ≡ gcd_by g a b
enough zero zero a b h k = refl
enough zero (suc g) a zero h k = refl
enough zero (suc g) a (suc b) h k = absurd (omega arith)
enough (suc f) zero a zero h k = refl
enough (suc f) zero a (suc b) h k = absurd (omega arith)
enough (suc f) (suc g) a zero h k = refl
enough (suc f) (suc g) a (suc b) h k = enough f g (suc b) (a % suc b) (bound a b f h) (bound a b g k)

pub gcd_step : (a b : ℕ) → b ≢ 0 → gcd a b ≡ gcd b (a % b)
unfolding gcd
gcd_step a zero h = absurd (h refl)
gcd_step a (suc b) h = enough b (a % suc b) (suc b) (a % suc b) (bound a b b (omega arith)) (omega arith)

pub gcd_zero : (a b : ℕ) → b ≡ 0 → gcd a b ≡ a
unfolding gcd
gcd_zero a zero h = refl
gcd_zero a (suc b) h = absurd (omega arith)

is_gcd : (f a b : ℕ) → b ≤ f → IsGcd a b (gcd_by f a b)
is_gcd zero a b h = IsGcd-from_zero a b (omega arith)
is_gcd (suc f) a zero h = IsGcd-from_zero a 0 refl
is_gcd (suc f) a (suc b) h = IsGcd-from_mod a (suc b) (gcd_by f (suc b) (a % suc b)) (is_gcd f (suc b) (a % suc b) (bound a b f h))

pub gcd_is : (a b : ℕ) → IsGcd a b (gcd a b)
unfolding gcd
gcd_is a b = is_gcd b a b (omega arith)

-- it divides what it begins with
pub from_divides : (g : ℕ) (cs : List ℤ) → gcd_from g cs ∣ g
from_divides g [] = dvd_refl g
from_divides g (c ∷ cs) = dvd_trans _ (from_divides (gcd (unsigned_abs c) g) cs) (gcd_is (unsigned_abs c) g).1

-- .. and each number
pub data Each (g : ℕ) : List ℤ → Type 0 where
  none : Each g []
  more : {c : ℤ} {cs : List ℤ} → g ∣ unsigned_abs c → Each g cs → Each g (c ∷ cs)

pub all_divided : (g : ℕ) (cs : List ℤ) → Each (gcd_from g cs) cs
all_divided g [] = none
all_divided g (c ∷ cs) = more (dvd_trans _ (from_divides (gcd (unsigned_abs c) g) cs) (gcd_is (unsigned_abs c) g).0) (all_divided (gcd (unsigned_abs c) g) cs)

-- it is no greater than the greatest
gcd_le : (f a b m : ℕ) → a ≤ m → b ≤ m → gcd_by f a b ≤ m
gcd_le zero a b m h k = h
gcd_le (suc f) a zero m h k = h
gcd_le (suc f) a (suc b) m h k = gcd_le f (suc b) (a % suc b) m k (le_trans (bound a b b (omega arith)) (omega arith))

pub one_le : (a b m : ℕ) → a ≤ m → b ≤ m → gcd a b ≤ m
unfolding gcd
one_le a b m h k = gcd_le b a b m h k

pub from_le : (g : ℕ) (cs : List ℤ) (m : ℕ) → g ≤ m → All (λ c. unsigned_abs c ≤ m) cs → gcd_from g cs ≤ m
from_le g [] m h a = h
from_le g (c ∷ cs) m h a = from_le (gcd (unsigned_abs c) g) cs m (one_le (unsigned_abs c) g m (a 0 (pos 0) (omega arith)) h) (λ k d lt. a (suc k) d (omega arith))

pub rest_le : (d : List ℤ) (m : ℕ) → All (λ c. unsigned_abs c ≤ m) d → gcd_from 0 (drop 1 d) ≤ m
rest_le [] m a = omega arith
rest_le (k ∷ cs) m a = from_le 0 cs m (omega arith) (λ i d lt. a (suc i) d (omega arith))

pub divide_step : (f : ℤ → ℤ) (d : List ℤ) (i : ℕ) → i < length d → take i d ++ map f (drop i d) ≡ take (suc i) (set d i (f (at d i))) ++ map f (drop (suc i) (set d i (f (at d i))))
divide_step f [] i h = absurd (omega arith)
divide_step f (x ∷ xs) zero h = refl
divide_step f (x ∷ xs) (suc i) h = ap (λ r. x ∷ r) (divide_step f xs i (omega arith))

pub tight_is : (d : List ℤ) (g : ℕ) (k : ℤ) (r : List ℤ) → g ≡ gcd_from 0 (drop 1 d) → 1 < g → r ≡ map (λ c. int_div c (pos g)) d → k ≡ ceil_div (at d 0) g → set r 0 k ≡ tight d
tight_is d g k r e h p q = rw (p, q) (sym (cond-true (nat_lt 1 g) (set (map (λ c. int_div c (pos g)) d) 0 (ceil_div (at d 0) g)) d (lt-ltb 1 g h)) ∙ ap (λ n. tight_by n d) e)
