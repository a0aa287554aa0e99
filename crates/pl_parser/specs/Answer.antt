-- What parsing answers, in the words of the grammar, and of the reader of files where levels run out.
use Rattle.std.specs.Prelude.{◌≡◌, ℕ, ◌+◌, ◌-◌, ◌≤◌, ◌<◌, ◌⊎◌, Bool, true, false, List, [], ◌∷◌, ◌++◌, length, take, drop, Result, Ok, Err}
use Rattle.pl_base.specs.declared.pos.Pos.{Pos}
use Rattle.pl_lexer.specs.declared.tokens.Token.{Token}
use Rattle.pl_readers.specs.Language.{IsViable}
use Rattle.pl_readers.specs.Reader.{begins, whole}
use Rattle.pl_syntax.specs.declared.program.Program as code
use Rattle.pl_syntax.specs.Plain.{plain_program}
use Rattle.pl_syntax.specs.Tree.{Program}
use Rattle.pl_grammar.specs.Signs.{sign, number, token_in}
use Rattle.pl_grammar.specs.FileGrammar.{File}
use Rattle.pl_grammar.specs.FileReaders.{file}
use Rattle.pl_grammar.specs.Refusals.{IsFirstRefused, NeedsMore, IsCode, IsLeastCode, IsLastMinus, IsTooMany, HasFew, place_at, token_of_code}
use Rattle.pl_parser.specs.declared.error.ParseError.{ParseError}
use Rattle.pl_parser.specs.declared.error.ParseError.TheVariants as e

-- ---- where reading stops

-- the reader of files of 64 levels stops behind the first k tokens, at the next one or at their end; and whether it stops there
-- for want of a level
pub record StopsBehind (tokens : List Token) (k : ℕ) (is_deep : Bool) : Type 0 where
  pub inside : k ≤ length tokens
  pub read : whole (file 64) tokens ≡ Err (record { is_deep = is_deep; left = length tokens - k })

-- the token behind the first k is a minus right before no number, and it opens the 65th level: a name behind it would be refused
-- for want of a level
pub record IsDeepMinus (tokens : List Token) (k : ℕ) : Type 0 where
  pub minus : begins (token_in (sign 16)) (drop k tokens) ≡ true
  pub apart : begins (token_in number) (drop (k + 1) tokens) ≡ false
  pub name : StopsBehind (take (k + 1) tokens ++ token_of_code 255 ∷ []) (k + 1) true

-- the last of the first k tokens is such a minus
abbrev pub EndsInDeepMinus : List Token → ℕ → Type 0
EndsInDeepMinus tokens k = (0 < k) × IsDeepMinus tokens (k - 1)

-- the token behind the first k opens the 65th level: reading stops at it for want of a level, and right before it no minus opens
-- that level; or it is such a minus, and reading stops right behind it
abbrev pub OpensTooMany : List Token → ℕ → Type 0
OpensTooMany tokens k =
    (StopsBehind tokens k true × (EndsInDeepMinus tokens k → ⊥)) ⊎ ((b : Bool) × StopsBehind tokens (k + 1) b × IsDeepMinus tokens k)

-- reading stops behind the first k tokens, not for want of a level, and the last of them is no minus that opens the 65th
abbrev pub IsUnexpected : List Token → ℕ → Type 0
IsUnexpected tokens k = StopsBehind tokens k false × (EndsInDeepMinus tokens k → ⊥)

-- ---- what parsing answers

-- with two levels more some file goes on with the first k tokens
abbrev pub IsNear : List Token → ℕ → Type 0
IsNear tokens k = IsViable (File 66) (take k tokens)

-- the first k tokens begin a file, and no file goes on with the next one, whose place is p, or ends there; n is the least code with
-- which one goes on
pub record IsSyntax (tokens : List Token) (p : Pos) (n : ℕ) : Type 0 where
  pub k : ℕ
  pub place : p ≡ place_at tokens k
  pub first : IsFirstRefused tokens k
  pub stops : IsUnexpected tokens k
  pub code : IsCode n × (n ≤ 255)
  pub least : IsLeastCode (take k tokens) n
  pub near : IsNear tokens k
  pub few : HasFew tokens

-- the token behind the first k, whose place is p, opens the 65th level, and with more levels some file goes on
pub record IsDeep (tokens : List Token) (p : Pos) : Type 0 where
  pub k : ℕ
  pub place : p ≡ place_at tokens k
  pub opens : OpensTooMany tokens k
  pub more : NeedsMore tokens k ⊎ IsLastMinus tokens k
  pub near : IsNear tokens k
  pub few : HasFew tokens

-- why the tokens are no program
abbrev pub IsRefusal : List Token → ParseError → Type 0
IsRefusal tokens (e.Syntax p n) = IsSyntax tokens p n
IsRefusal tokens (e.Deep p) = IsDeep tokens p
IsRefusal tokens (e.TooMany p) = (k : ℕ) × (p ≡ place_at tokens k) × IsTooMany tokens k
IsRefusal tokens e.Memory = Unit {0}

-- the program of the tokens, within the limits
abbrev pub IsParsed : List Token → code.Program → Type 0
IsParsed tokens p = File 64 (plain_program p) tokens × (length p.decls ≤ 4096)

-- the answer is this program, but for want of memory
abbrev pub IsButForMemory : Program → Result code.Program ParseError → Type 0
IsButForMemory p (Ok x) = plain_program x ≡ p
IsButForMemory p (Err e.Memory) = Unit {0}
IsButForMemory p (Err _) = ⊥
