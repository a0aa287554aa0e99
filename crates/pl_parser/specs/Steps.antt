-- What the parts of parsing answer on the way to a refusal.
use Rattle.std.specs.Prelude.{◌≡◌, ℕ, ◌+◌, ◌≤◌, ◌==◌, ◌&&◌, ◌||◌, if◌then◌else◌, Bool, true, false, List, length, Option, Some, None, Result, Ok, Err}
use Rattle.pl_lexer.specs.declared.tokens.Token.{Token}
use Rattle.pl_readers.specs.declared.error.Stop.{Stop}
use Rattle.pl_grammar.specs.Refusals.{IsTooMany, NotFull}

-- where it stopped, if it did
abbrev pub StopsAt : {A : Type 0} → Result A Stop → Option Stop → Type 0
StopsAt {A} r None = (a : A) × (r ≡ Ok a)
StopsAt r (Some s) = r ≡ Err s

-- whether it is so
abbrev pub Tells : Bool → Type 0 → Type 0
Tells true P = P
Tells false P = P → ⊥

-- the last token was taken, with more levels at the most
abbrev pub takes_last : Option Stop → Bool
takes_last None = true
takes_last (Some s) = s.left == 0 || s.is_deep

-- the last token needs a level more
abbrev pub wants_level : Option Stop → Bool
wants_level None = false
wants_level (Some s) = s.is_deep && s.left == 1

-- after a code comes the next one
abbrev pub following : ℕ → ℕ
following n = if n == 100 then 253 else n + 1

-- where a 4,097th declaration begins, if one does
abbrev pub AnotherAt : List Token → Option ℕ → Type 0
AnotherAt xs None = NotFull xs
AnotherAt xs (Some k) = IsTooMany xs k × (k ≤ length xs)

-- so many, where there is another
abbrev pub if_any : Bool → ℕ → Option ℕ
if_any true n = Some n
if_any false n = None
