-- The laws of permissions.
use Rattle.std.proofs.Common.{◌≡◌, ℕ, zero, suc, ◌+◌, ◌*◌, ◌≤◌, ◌<◌, true, ◌⊎◌, ◌≢◌, ◌∙◌, inl, inr, true≢false, arith, refl, sym, ap, mul-pos, le_of_mul-le-mul_right, mul-le-mul_right}
use Rattle.std.proofs.lemmas.Bool.{cases_Bool}
use Rattle.std.proofs.Math.Nat.{eq_of_mul-eq-mul_right}
use Rattle.pl_base.specs.Permission.{Permission, IsLike, PermissionAdds, half, same_number}

pub permission_comm : {p q r : Permission} → PermissionAdds p q r → PermissionAdds q p r
permission_comm {p} {q} {r} h = record { cross = omega (arith, h.cross) }

-- over plain numbers
num_assoc : (a b c d e f s t x y : ℕ) → 0 < t → (a * d + b * c) * t ≡ s * (c * d) → (s * f + e * t) * y ≡ x * (t * f) → (a * (d * f) + (b * f + e * d) * c) * y ≡ x * (c * (d * f))
num_assoc a b c d e f s t x y h h1 h2 =
    let k1 : ((a * d + b * c) * t) * (f * y) ≡ (s * (c * d)) * (f * y) = ap (λ (n : ℕ). n * (f * y)) h1 in
    let k2 : ((s * f + e * t) * y) * (c * d) ≡ (x * (t * f)) * (c * d) = ap (λ (n : ℕ). n * (c * d)) h2 in
    eq_of_mul-eq-mul_right t h _ _ (omega arith)

-- the part of a sum that is at most 1 is at most 1
num_within : (a c g h x y : ℕ) → 0 < y → 0 < c → x ≤ y → (a * h + g * c) * y ≡ x * (c * h) → g ≤ h
num_within a c g h x y py pc le e =
    let k : x * (c * h) ≤ y * (c * h) = mul-le-mul_right (c * h) le in
    let m : (g * c) * y ≤ (h * c) * y = omega arith in
    le_of_mul-le-mul_right {k = c} (le_of_mul-le-mul_right {k = y} m py) pc

pub pos_den : (p : Permission) → 0 < p.den
pos_den p = omega (arith, p.above, p.within)

-- sums may be taken in either order
pub permission_assoc : (p q r s t : Permission) → PermissionAdds p q s → PermissionAdds s r t → (u : Permission) × PermissionAdds q r u × PermissionAdds p u t
permission_assoc p q r s t h k =
    let n : ℕ = q.num * r.den + r.num * q.den in
    let d : ℕ = q.den * r.den in
    let dq = pos_den q in
    let dr = pos_den r in
    let a : 0 < q.num * r.den = mul-pos q.above dr in
    let cross = num_assoc p.num q.num p.den q.den r.num r.den s.num s.den t.num t.den (pos_den s) h.cross k.cross in (
      record { num = n; den = d; above = omega arith; within = num_within p.num p.den n d t.num t.den (pos_den t) (pos_den p) t.within cross },
      record { cross = refl },
      record { cross = cross },
    )

num_full : (a b c d x y : ℕ) → a ≡ c → 0 < b → 0 < c → 0 < y → x ≤ y → (a * d + b * c) * y ≡ x * (c * d) → ⊥
num_full a b c d x y e pb pc py le h =
    let k : x * (c * d) ≤ y * (c * d) = mul-le-mul_right (c * d) le in
    let m : 0 < (b * c) * y = mul-pos (mul-pos pb pc) py in
    let e' : (a * d) * y ≡ (c * d) * y = ap (λ (n : ℕ). (n * d) * y) e in
    omega arith

-- nothing can be added to a whole
pub permission_full : (p q r : Permission) → p.num ≡ p.den → PermissionAdds p q r → ⊥
permission_full p q r e h = num_full p.num q.num p.den q.den r.num r.den e q.above (pos_den p) (pos_den r) r.within h.cross

pub like_refl : (p : Permission) → IsLike p p
like_refl p = record { cross = refl }

pub like_sym : {p q : Permission} → IsLike p q → IsLike q p
like_sym h = record { cross = sym h.cross }

num_like : (a b c d e f : ℕ) → 0 < d → a * d ≡ c * b → c * f ≡ e * d → a * f ≡ e * b
num_like a b c d e f pd h k =
    let h' : (a * d) * f ≡ (c * b) * f = ap (λ (n : ℕ). n * f) h in
    let k' : (c * f) * b ≡ (e * d) * b = ap (λ (n : ℕ). n * b) k in
    eq_of_mul-eq-mul_right d pd _ _ (omega arith)

pub like_trans : {p q r : Permission} → IsLike p q → IsLike q r → IsLike p r
like_trans {p} {q} {r} h k = record { cross = num_like p.num p.den q.num q.den r.num r.den (pos_den q) h.cross k.cross }

num_total : (a b c d s t x y : ℕ) → 0 < b → 0 < d → (a * d + c * b) * t ≡ s * (b * d) → (a * d + c * b) * y ≡ x * (b * d) → s * y ≡ x * t
num_total a b c d s t x y pb pd h k =
    let h' : ((a * d + c * b) * t) * y ≡ (s * (b * d)) * y = ap (λ (n : ℕ). n * y) h in
    let k' : ((a * d + c * b) * y) * t ≡ (x * (b * d)) * t = ap (λ (n : ℕ). n * t) k in
    eq_of_mul-eq-mul_right (b * d) (mul-pos pb pd) _ _ (omega arith)

-- two sums of the same parts are alike
pub permission_total : (p q r s : Permission) → PermissionAdds p q r → PermissionAdds p q s → IsLike r s
permission_total p q r s h k = record { cross = num_total p.num p.den q.num q.den r.num r.den s.num s.den (pos_den p) (pos_den q) h.cross k.cross }

num_like_sum : (a b c d s t x y : ℕ) → 0 < t → (a * d + c * b) * t ≡ s * (b * d) → s * y ≡ x * t → (a * d + c * b) * y ≡ x * (b * d)
num_like_sum a b c d s t x y pt h k =
    let h' : ((a * d + c * b) * t) * y ≡ (s * (b * d)) * y = ap (λ (n : ℕ). n * y) h in
    let k' : (s * y) * (b * d) ≡ (x * t) * (b * d) = ap (λ (n : ℕ). n * (b * d)) k in
    eq_of_mul-eq-mul_right t pt _ _ (omega arith)

-- what is like a sum is a sum
pub permission_like_sum : (p q r s : Permission) → PermissionAdds p q r → IsLike r s → PermissionAdds p q s
permission_like_sum p q r s h k = record { cross = num_like_sum p.num p.den q.num q.den r.num r.den s.num s.den (pos_den r) h.cross k.cross }

num_like_part : (a b c d s t x y : ℕ) → 0 < b → (a * d + c * b) * t ≡ s * (b * d) → a * y ≡ x * b → (x * d + c * y) * t ≡ s * (y * d)
num_like_part a b c d s t x y pb h k =
    let h' : ((a * d + c * b) * t) * y ≡ (s * (b * d)) * y = ap (λ (n : ℕ). n * y) h in
    let k' : (a * y) * (d * t) ≡ (x * b) * (d * t) = ap (λ (n : ℕ). n * (d * t)) k in
    eq_of_mul-eq-mul_right b pb _ _ (omega arith)

-- a part may be taken for one that is like it
pub permission_like_part : (p p' q r : Permission) → PermissionAdds p q r → IsLike p p' → PermissionAdds p' q r
permission_like_part p p' q r h k = record { cross = num_like_part p.num p.den q.num q.den r.num r.den p'.num p'.den (pos_den p) h.cross k.cross }

num_halves : (n d : ℕ) → (n * (d + d) + n * (d + d)) * d ≡ n * ((d + d) * (d + d))
num_halves n d = omega arith

-- two halves make the whole of it
pub permission_halves : (p : Permission) → PermissionAdds (half p) (half p) p
permission_halves p = record { cross = num_halves p.num p.den }

pub number_sound : (a b : ℕ) → same_number a b ≡ true → a ≡ b
number_sound zero zero h = refl
number_sound zero (suc b) h = cc
number_sound (suc a) zero h = cc
number_sound (suc a) (suc b) h = ap suc (number_sound a b h)

pub number_refl : (a : ℕ) → same_number a a ≡ true
number_refl zero = refl
number_refl (suc a) = number_refl a

pub number_cases : (a b : ℕ) → (a ≡ b) ⊎ (a ≢ b)
number_cases a b = elim (cases_Bool (same_number a b)) [ inl e ↦ inl (number_sound a b e) | inr e ↦ inr (λ k. true≢false (sym (number_refl a) ∙ ap (same_number a) k ∙ e)) ]
