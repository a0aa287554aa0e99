-- Why tokens are refused, in the words of the grammar alone.
use Rattle.std.specs.Prelude.{◌≡◌, ℕ, ◌+◌, ◌≤◌, ◌<◌, ◌==◌, ◌⊎◌, pos, true, false, if◌then◌else◌, List, [], ◌∷◌, ◌++◌, length, take, drop, Ok}
use Rattle.pl_base.specs.declared.pos.Pos.{Pos}
use Rattle.pl_lexer.specs.declared.tokens.Kind.{Kind}
use Rattle.pl_lexer.specs.declared.tokens.Kind.TheVariants as k
use Rattle.pl_lexer.specs.declared.tokens.Token.{Token}
use Rattle.pl_readers.specs.Language.{Language, Many, IsViable}
use Rattle.pl_readers.specs.Reader.{begins, many}
use Rattle.pl_syntax.specs.Tree.{Decl, Program}
use Rattle.pl_grammar.specs.Signs.{token_in, sign, number}
use Rattle.pl_grammar.specs.FileGrammar.{File, DeclarationOf}
use Rattle.pl_grammar.specs.FileReaders.{declaration, declaration_firsts}

-- the grammar derives p of the tokens, with some number of levels
abbrev pub Derives : Language Token Program
Derives p tokens = (n : ℕ) × File n p tokens

-- some file goes on with the first k tokens; and with the next one none does
pub record IsFirstRefused (tokens : List Token) (k : ℕ) : Type 0 where
  pub inside : k ≤ length tokens
  pub viable : IsViable Derives (take k tokens)
  pub none : k < length tokens → IsViable Derives (take (k + 1) tokens) → ⊥
  pub short : k ≡ length tokens → (p : Program) → Derives p tokens → ⊥

-- with 64 levels no file goes on with the next token, with more some does
pub record NeedsMore (tokens : List Token) (k : ℕ) : Type 0 where
  pub inside : k < length tokens
  pub more : IsViable Derives (take (k + 1) tokens)
  pub none : IsViable (File 64) (take (k + 1) tokens) → ⊥

-- the place of the token behind the first k, or the start where there is none
abbrev pub place_of_first : List Token → Pos
place_of_first [] = record { line = 1; col = 1; byte = 0 }
place_of_first (t ∷ ts) = t.pos

abbrev pub place_at : List Token → ℕ → Pos
place_at tokens k = place_of_first (drop k tokens)

-- ---- what was expected

-- what a code stands for: a sign by its number, 253 for the end, 254 for a number and 255 for a name. Of the numbers
-- 1,048,576 stands for all, since each place that takes some number takes this one.
abbrev pub kind_of_code : ℕ → Kind
kind_of_code n =
    if n == 255 then k.Word (120 ∷ []) else if n == 254 then k.Number (pos 1048576) else if n == 253 then k.End else k.Sign n

abbrev pub token_of_code : ℕ → Token
token_of_code n = record { pos = record { line = 1; col = 1; byte = 0 }; kind = kind_of_code n }

-- some file goes on with these tokens and then this one
abbrev pub GoesOnWith : List Token → ℕ → Type 0
GoesOnWith before n = IsViable Derives (before ++ token_of_code n ∷ [])

-- the codes: 101 signs, the end, a number, a name
abbrev pub IsCode : ℕ → Type 0
IsCode n = (n ≤ 100) ⊎ (253 ≤ n)

-- the least code with which some file goes on, or 255 where none below it is one
pub record IsLeastCode (before : List Token) (n : ℕ) : Type 0 where
  pub goes_on : n < 255 → GoesOnWith before n
  pub least : (m : ℕ) → m < n → IsCode m → GoesOnWith before m → ⊥

-- ---- limits

-- a minus that stands right before no number, and that opens a level too many: an operand behind it needs more levels
pub record IsLastMinus (tokens : List Token) (k : ℕ) : Type 0 where
  pub minus : begins (token_in (sign 16)) (drop k tokens) ≡ true
  pub apart : begins (token_in number) (drop (k + 1) tokens) ≡ false
  pub more : NeedsMore (take (k + 1) tokens ++ token_of_code 255 ∷ []) (k + 1)

-- the first k tokens are 4,096 declarations, and another one begins
pub record IsTooMany (tokens : List Token) (k : ℕ) : Type 0 where
  pub declarations : List Decl
  pub are : Many (DeclarationOf 64) declarations (take k tokens)
  pub count : length declarations ≡ 4096
  pub another : begins (token_in declaration_firsts) (drop k tokens) ≡ true

-- nowhere does a 4,097th declaration begin
abbrev pub HasFew : List Token → Type 0
HasFew tokens = (k : ℕ) → IsTooMany tokens k → ⊥

-- where reading 4,096 declarations ends no other begins
abbrev pub NotFull : List Token → Type 0
NotFull xs = (x : List Decl × List Token) → many 4096 (token_in declaration_firsts) (declaration 64) xs ≡ Ok x → begins (token_in declaration_firsts) x.1 ≡ false
