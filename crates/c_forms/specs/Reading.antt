-- Words for readers of C text.
use Rattle.std.specs.Prelude.{ℕ, zero, suc, ◌==◌, Bool, if◌then◌else◌, List, length, Ok}
use Rattle.std.specs.List.{list_any}
use Rattle.pl_readers.specs.Bytes.{word}
use Rattle.pl_readers.specs.Reader.{Reader, ◌>>=◌, next, mapped, refuse}

-- one of these bytes
abbrev pub among : List ℕ → ℕ → Bool
among bytes c = list_any (λ k. c == k) bytes

-- what P reads behind a word
abbrev pub after : {A : Type 0} → List ℕ → Reader ℕ A → Reader ℕ A
after s P = next (word s) (λ _. P)

-- what P reads in front of a word
abbrev pub ended_by : {A : Type 0} → Reader ℕ A → List ℕ → Reader ℕ A
ended_by P s = next P (λ a. mapped (λ _. a) (word s))

-- what P reads, and what Q reads behind it
abbrev pub both : {A B : Type 0} → Reader ℕ A → Reader ℕ B → Reader ℕ (A × B)
both P Q = next P (λ a. mapped (λ b. (a, b)) Q)

-- the same where the second depends on what the first read
abbrev pub both_by : {A B : Type 0} → Reader ℕ A → (A → Reader ℕ B) → Reader ℕ (A × B)
both_by P Q = next P (λ a. mapped (λ b. (a, b)) (Q a))

-- a word, for this value
abbrev pub just : {A : Type 0} → A → List ℕ → Reader ℕ A
just a s = mapped (λ _. a) (word s)

-- what P reads, where the test does not refuse it
abbrev pub unless : {A : Type 0} → (A → Bool) → Reader ℕ A → Reader ℕ A
unless test P xs = P xs >>= λ p. if test p.0 then refuse p.1 else Ok p

-- a step leads on to a state, or it is the last one
pub data Step (S B : Type 0) : Type 0 where
  on : S → Step S B
  done : B → Step S B

-- steps from a state, each made by P, until one is the last; at most n
unfoldable pub steps : {S B : Type 0} → ℕ → (S → Reader ℕ (Step S B)) → S → Reader ℕ B
steps zero P s xs = refuse xs
steps (suc n) P s xs = P s xs >>= λ p. elim p.0 [ on t ↦ steps n P t p.1 | done b ↦ Ok (b, p.1) ]

-- steps from a state until one is the last
abbrev pub until : {S B : Type 0} → (S → Reader ℕ (Step S B)) → S → Reader ℕ B
until P s xs = steps (suc (length xs)) P s xs
