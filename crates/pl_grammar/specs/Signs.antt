-- What one token may be: sets of tokens by their kinds, and the values that single tokens have.
use Rattle.std.specs.Prelude.{ℕ, ℤ, ◌||◌, ◌==◌, Bool, true, false, if◌then◌else◌, List, [], ◌∷◌, ◌++◌, map, Option, Some, None}
use Rattle.pl_base.specs.declared.pos.Pos.{Pos}
use Rattle.pl_lexer.specs.declared.tokens.Kind.{Kind}
use Rattle.pl_lexer.specs.declared.tokens.Kind.TheVariants as k
use Rattle.pl_lexer.specs.declared.tokens.Token.{Token}

-- a set of tokens: some signs by their numbers, and whether names and numbers are in it
pub record Set : Type 0 where
  pub signs : List ℕ
  pub names : Bool
  pub numbers : Bool

-- whether a number is in a list
abbrev pub is_in : List ℕ → ℕ → Bool
is_in [] j = false
is_in (n ∷ ns) j = (j == n) || is_in ns j

-- whether a kind is in a set
abbrev pub kind_in : Set → Kind → Bool
kind_in s (k.Word x) = s.names
kind_in s (k.Number n) = s.numbers
kind_in s (k.Sign j) = is_in s.signs j
kind_in s k.End = false

-- whether a token is in a set
abbrev pub token_in : Set → Token → Bool
token_in s t = kind_in s t.kind

-- these signs
abbrev pub signs : List ℕ → Set
signs ns = record { signs = ns; names = false; numbers = false }

-- this sign
abbrev pub sign : ℕ → Set
sign n = signs (n ∷ [])

-- a name
abbrev pub name : Set
name = record { signs = []; names = true; numbers = false }

-- a number
abbrev pub number : Set
number = record { signs = []; names = false; numbers = true }

-- the tokens of both
abbrev pub both : Set → Set → Set
both s t = record { signs = s.signs ++ t.signs; names = s.names || t.names; numbers = s.numbers || t.numbers }

-- ---- values of tokens

-- the place of this sign
abbrev pub place_of : ℕ → Token → Option Pos
place_of n t = if token_in (sign n) t then Some t.pos else None

abbrev pub name_kind : Pos → Kind → Option (Pos × List ℕ)
name_kind p (k.Word x) = Some (p, x)
name_kind p _ = None

-- a name and its place
abbrev pub name_of : Token → Option (Pos × List ℕ)
name_of t = name_kind t.pos t.kind

abbrev pub number_kind : Pos → Kind → Option (Pos × ℤ)
number_kind p (k.Number n) = Some (p, n)
number_kind p _ = None

-- a number and its place
abbrev pub number_of : Token → Option (Pos × ℤ)
number_of t = number_kind t.pos t.kind

-- ---- tables of signs

-- the value of a sign in a table
abbrev pub look_up : {A : Type 0} → List (ℕ × A) → ℕ → Option A
look_up [] j = None
look_up ((n, a) ∷ rest) j = if j == n then Some a else look_up rest j

-- the signs of a table
abbrev pub signs_of : {A : Type 0} → List (ℕ × A) → Set
signs_of table = signs (map (λ e. e.0) table)

abbrev pub entry_kind : {A : Type 0} → List (ℕ × A) → Kind → Option A
entry_kind table (k.Sign j) = look_up table j
entry_kind table _ = None

-- the value of a token in a table
abbrev pub entry_of : {A : Type 0} → List (ℕ × A) → Token → Option A
entry_of table t = entry_kind table t.kind
