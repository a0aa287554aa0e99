-- Lines of bytes, and which line of a text is the first that no history has.
use Rattle.std.specs.Prelude.{◌≡◌, ℕ, zero, suc, ◌+◌, ◌-◌, ◌≤◌, ◌==◌, if◌then◌else◌, List, [], ◌∷◌, ◌++◌, Result, Ok, Err}
use Rattle.pl_readers.specs.declared.error.ReadError.{ReadError}
use Rattle.pl_readers.specs.declared.error.ReadError.TheVariants as read
use Rattle.c_meaning.specs.declared.action.History.{History}
use Rattle.c_history.specs.declared.error.HistoryError.{HistoryError}
use Rattle.c_history.specs.declared.error.HistoryError.TheVariants as error
use Rattle.c_history.specs.Text.{history_text}
use Rattle.c_history.specs.Bounds.{IsWithin}

-- how many lines are ended by LF
abbrev pub line_ends : List ℕ → ℕ
line_ends [] = 0
line_ends (c ∷ cs) = if c == 10 then line_ends cs + 1 else line_ends cs

-- the first n lines, each with its LF
abbrev pub first_lines : ℕ → List ℕ → List ℕ
first_lines n [] = []
first_lines zero (c ∷ cs) = []
first_lines (suc n) (c ∷ cs) = if c == 10 then c ∷ first_lines n cs else c ∷ first_lines (suc n) cs

-- the text of a history within the bounds
pub record IsTextOf (h : History) (bytes : List ℕ) : Type 0 where
  pub within : IsWithin h
  pub text : bytes ≡ history_text h

-- some history's text begins with these bytes
abbrev pub BeginsHistory : List ℕ → Type 0
BeginsHistory bytes = (h : History) × (more : List ℕ) × IsTextOf h (bytes ++ more)

-- Line n, from 1, is the first that no history has: some history's text begins with the lines before it, and none with
-- these and this one. Where line n isn't ended by LF, also where it is missing, the bytes are no history's text.
pub record IsRefusedLine (bytes : List ℕ) (n : ℕ) : Type 0 where
  pub from_one : 1 ≤ n
  pub there : n ≤ line_ends bytes + 1
  pub right : BeginsHistory (first_lines (n - 1) bytes)
  pub wrong : n ≤ line_ends bytes → BeginsHistory (first_lines n bytes) → ⊥
  pub missing : n ≡ line_ends bytes + 1 → (h : History) → IsTextOf h bytes → ⊥

-- what the error says of a line
abbrev pub IfBadHistory : HistoryError → (ℕ → Type 0) → Type 0
IfBadHistory (error.BadHistory n) P = P n
IfBadHistory error.Memory P = Unit {0}

-- a reader's error at a line
abbrev pub error_at : ReadError → ℕ → HistoryError
error_at (read.Stop s) n = error.BadHistory n
error_at read.Memory n = error.Memory

-- the answer is this history, but for want of memory
abbrev pub IsReadAs : Result History HistoryError → History → Type 0
IsReadAs (Ok read) h = read ≡ h
IsReadAs (Err (error.BadHistory n)) h = ⊥
IsReadAs (Err error.Memory) h = Unit {0}
