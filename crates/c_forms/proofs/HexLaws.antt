-- Hexadecimal digits of characters.
use Rattle.std.proofs.Common.{◌≡◌, ℕ, zero, suc, ◌+◌, ◌-◌, ◌*◌, ◌^◌, ◌<◌, ◌≤◌, Bool, false, refl, ap, ◌∙◌, arith}
use native.Mathlib.Numerals.{unary_clauses}
use Rattle.c_forms.specs.Names.{fits, some_fits}

-- what doesn't fit is passed by
pub pass_by : (b : Bool) (c n : ℕ) → 0 < n → false ≡ fits b c → some_fits b (c + 1) (n - 1) ≡ some_fits b c n
unfolding some_fits
pass_by b c zero lt e = absurd (omega arith)
pass_by b c (suc n) lt e = let m : suc n - 1 ≡ n = omega arith in rw (← e, m) refl

pub above_zero : (k : ℕ) → 0 < 16 ^ k
above_zero zero = omega arith
above_zero (suc k) = omega (arith, above_zero k)

-- digits with room for one more
pub value_small : (v k : ℕ) → (v + 1) * 16 ^ (k + 1) ≤ 0x100_0000 → v < 0x10_0000
value_small v k h = small v (16 ^ k) (above_zero k) (power v k h)
  where
    power : (v k : ℕ) → (v + 1) * 16 ^ (k + 1) ≤ 0x100_0000 → suc v * (16 ^ k * 16) ≤ 0x100_0000
    power v k h = simp unary_clauses at h

    small : (v u : ℕ) → 0 < u → suc v * (u * 16) ≤ 0x100_0000 → v < 0x10_0000
    small v zero lt h = absurd (omega arith)
    small v (suc u) lt h = omega arith

-- and there is room behind it
pub value_next : (v d k : ℕ) → d < 16 → (v + 1) * 16 ^ (k + 1) ≤ 0x100_0000 → (v * 16 + d + 1) * 16 ^ k ≤ 0x100_0000
value_next v d k lt h = below v d (16 ^ k) lt (power v k h)
  where
    power : (v k : ℕ) → (v + 1) * 16 ^ (k + 1) ≤ 0x100_0000 → suc v * (16 ^ k * 16) ≤ 0x100_0000
    power v k h = simp unary_clauses at h

    grow : (e u : ℕ) → (15 - e) * u + e * u ≡ (15 - e + e) * u
    grow e u = omega arith

    below : (v d u : ℕ) → d < 16 → suc v * (u * 16) ≤ 0x100_0000 → (v * 16 + d + 1) * u ≤ 0x100_0000
    below v d u lt h =
        let rest : 15 - d + d ≡ 15 = omega arith in
        let parts : (15 - d) * u + d * u ≡ 15 * u = grow d u ∙ ap (λ (n : ℕ). n * u) rest in
        omega (arith, parts)
