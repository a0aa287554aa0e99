-- Which texts are of the forms, and where others leave them.
use Rattle.std.specs.Prelude.{◌≡◌, ℕ, ◌+◌, ◌-◌, ◌≤◌, ◌<◌, List, ◌++◌, length, take, Result, Ok, Err}
use Rattle.pl_readers.specs.declared.error.Stop.{Stop}
use Rattle.c_forms.specs.declared.source.Source as written
use Rattle.c_forms.specs.declared.error.FormsError.{FormsError}
use Rattle.c_forms.specs.declared.error.FormsError.TheVariants as error
use Rattle.c_forms.specs.Plain.{plain_source}
use Rattle.c_forms.specs.Tree.{Source}
use Rattle.c_forms.specs.Forms.{IsFormText}

-- some text of the forms begins with these bytes
abbrev pub BeginsForms : List ℕ → Type 0
BeginsForms bytes = (s : Source) × (more : List ℕ) × IsFormText s (bytes ++ more)

-- The first n bytes are the longest front of these that begins a text of the forms. Where that is all of them, they are
-- no such text.
pub record IsRefusedAt (bytes : List ℕ) (n : ℕ) : Type 0 where
  pub inside : n ≤ length bytes
  pub right : BeginsForms (take n bytes)
  pub wrong : n < length bytes → BeginsForms (take (n + 1) bytes) → ⊥
  pub short : n ≡ length bytes → (s : Source) → IsFormText s bytes → ⊥

-- what the error says of a place
abbrev pub IfNotForms : FormsError → (ℕ → Type 0) → Type 0
IfNotForms (error.NotForms n) P = P n
IfNotForms error.Memory P = Unit {0}

-- the answer is what s is, but for want of memory
abbrev pub IsReadAs : Result written.Source FormsError → Source → Type 0
IsReadAs (Ok read) s = plain_source read ≡ s
IsReadAs (Err (error.NotForms n)) s = ⊥
IsReadAs (Err error.Memory) s = Unit {0}

-- the answer is what was read of n bytes, or the place where the reader stopped, but for want of memory
abbrev pub Tells : Result written.Source FormsError → Result Source Stop → ℕ → Type 0
Tells (Ok s) read n = read ≡ Ok (plain_source s)
Tells (Err (error.NotForms k)) read n = (s : Stop) × (read ≡ Err s) × (k ≡ n - s.left)
Tells (Err error.Memory) read n = Unit {0}
