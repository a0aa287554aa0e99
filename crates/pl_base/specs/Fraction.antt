-- Fractions in lowest terms, and those that a program computes with.
use Rattle.std.specs.Prelude.{◌≡◌, ℕ, ◌+◌, ◌*◌, ◌<◌, ◌≤◌, Ok, Err}
use Rattle.std.specs.Int.{IsGcd}
use Rattle.std.specs.declared.result.Result.{Result}
use Rattle.pl_base.specs.declared.perm.SumError.{SumError}
use Rattle.pl_base.specs.declared.perm.SumError.TheVariants.{Over, TooFine}
use Rattle.pl_base.specs.Permission.{Permission}

-- the greatest denominator
abbrev pub finest : ℕ
finest = 1048576

-- a fraction above 0 and at most 1, of at most so many parts
pub record IsPart (num den : ℕ) : Type 0 where
  pub some : 0 < num
  pub within : num ≤ den
  pub coarse : den ≤ finest

-- a part in lowest terms
pub record IsFraction (num den : ℕ) : Type 0 where
  pub part : IsPart num den
  pub lowest : IsGcd num den 1

-- n / d in lowest terms is p.0 / p.1
pub record IsReduced (n d : ℕ) (p : ℕ × ℕ) : Type 0 where
  pub same : p.0 * d ≡ n * p.1
  pub lowest : IsGcd p.0 p.1 1

-- n / d in lowest terms has this denominator, which passes the greatest
abbrev pub IsTooFine : ℕ → ℕ → ℕ → Type 0
IsTooFine n d den = (k : ℕ) × IsReduced n d (k, den) × (finest < den)

-- half of p in lowest terms is r.0 / r.1
abbrev pub IsHalf : ℕ × ℕ → ℕ × ℕ → Type 0
IsHalf p r = IsReduced p.0 (2 * p.1) r

-- p and q together in lowest terms are r.0 / r.1
abbrev pub IsSum : ℕ × ℕ → ℕ × ℕ → ℕ × ℕ → Type 0
IsSum p q r = IsReduced (p.0 * q.1 + q.0 * p.1) (p.1 * q.1) r

-- the permission that a part is
abbrev pub permission_of : (p : ℕ × ℕ) → IsPart p.0 p.1 → Permission
permission_of p i = record { num = p.0; den = p.1; above = i.some; within = i.within }

-- what the sum of p and q answers
abbrev pub IsSumAnswer : ℕ × ℕ → ℕ × ℕ → Result (ℕ × ℕ) SumError → Type 0
IsSumAnswer p q (Ok r) = IsSum p q r
IsSumAnswer p q (Err Over) = p.1 * q.1 < p.0 * q.1 + q.0 * p.1
IsSumAnswer p q (Err (TooFine den)) =
    (p.0 * q.1 + q.0 * p.1 ≤ p.1 * q.1) × IsTooFine (p.0 * q.1 + q.0 * p.1) (p.1 * q.1) den
