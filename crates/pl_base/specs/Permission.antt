-- Permissions: fractions above 0 and at most 1. Two are alike where the cross products are equal.
use Rattle.std.specs.Prelude.{◌≡◌, ℕ, zero, suc, ◌+◌, ◌*◌, ◌≤◌, ◌<◌, Bool, true, false}
use Rattle.std.proofs.Math.Nat.{le_refl, le_trans, le-add_right, lt-suc_self}

pub record Permission : Type 0 where
  pub num : ℕ
  pub den : ℕ
  pub above : 0 < num
  pub within : num ≤ den

-- the same fraction
pub record IsLike (p q : Permission) : Type 0 where
  pub cross : p.num * q.den ≡ q.num * p.den

-- p and q together are r. There is no such r where the sum is above 1
pub record PermissionAdds (p q r : Permission) : Type 0 where
  pub cross : (p.num * q.den + q.num * p.den) * r.den ≡ r.num * (p.den * q.den)

-- all of it
abbrev pub whole : Permission
whole = record { num = 1; den = 1; above = lt-suc_self 0; within = le_refl 1 }

-- half of p
abbrev pub half : Permission → Permission
half p = record { num = p.num; den = p.den + p.den; above = p.above; within = le_trans p.within (le-add_right p.den p.den) }

-- whether two numbers are the same, by cases
abbrev pub same_number : ℕ → ℕ → Bool
same_number zero zero = true
same_number zero (suc n) = false
same_number (suc m) zero = false
same_number (suc m) (suc n) = same_number m n
