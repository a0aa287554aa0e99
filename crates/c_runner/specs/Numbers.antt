-- The numbers that pass a test.
use Rattle.std.specs.Prelude.{◌≡◌, ℕ, suc, ◌<◌, ◌≤◌, ◌%◌, ◌==◌, ◌&&◌, ◌⊎◌, Bool, true, false, List, [], ◌∷◌, ◌++◌, Option, Some, None, filter, not, nat_le, if◌then◌else◌}

-- the least number from that one on that passes
pub record IsLeast (test : ℕ → Bool) (from t : ℕ) : Type 0 where
  pub above : from ≤ t
  pub passes : test t ≡ true
  pub least : (k : ℕ) → from ≤ k → k < t → test k ≡ false

-- the least number from that one on that passes, or else the least that passes
abbrev pub IsNext : (ℕ → Bool) → ℕ → ℕ → Type 0
IsNext test from t = IsLeast test from t ⊎ (((k : ℕ) → from ≤ k → test k ≡ false) × IsLeast test 0 t)

-- these are the numbers from k on that pass, in order
abbrev pub Are : (ℕ → Bool) → ℕ → List ℕ → Type 0
Are test k [] = (t : ℕ) → k ≤ t → test t ≡ false
Are test k (x ∷ xs) = (k ≤ x) × ((t : ℕ) → k ≤ t → t < x → test t ≡ false) × (test x ≡ true) × Are test (suc x) xs

-- the number is the worker's, and passes
abbrev pub mine : ℕ → ℕ → (ℕ → Bool) → ℕ → Bool
mine worker workers test t = (t % workers == worker) && test t

-- the first of these from that one on that is the worker's
abbrev pub first_among : List ℕ → ℕ → ℕ → ℕ → Option ℕ
first_among [] from worker workers = None
first_among (x ∷ xs) from worker workers = if nat_le from x && (x % workers == worker) then Some x else first_among xs from worker workers

abbrev pub or_else : Option ℕ → Option ℕ → Option ℕ
or_else (Some t) rest = Some t
or_else None rest = rest

-- the first of these from that one on that is the worker's, else the first of all that is
abbrev pub next_among : List ℕ → ℕ → ℕ → ℕ → Option ℕ
next_among xs from worker workers = or_else (first_among xs from worker workers) (first_among xs 0 worker workers)

-- without that number
abbrev pub without : ℕ → List ℕ → List ℕ
without t xs = filter (λ x. not (x == t)) xs

-- without t where it has ended, and with n where it was made
abbrev pub followed : Bool → ℕ → Bool → ℕ → List ℕ → List ℕ
followed ended t made n xs = if ended then without t (if made then xs ++ n ∷ [] else xs) else if made then xs ++ n ∷ [] else xs
