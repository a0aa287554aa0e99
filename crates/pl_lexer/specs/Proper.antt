-- What the tokens of a file are like.
use Rattle.std.specs.Prelude.{◌≡◌, ℕ, ◌^◌, ◌≤◌, ◌<◌, pos, ⊤, List, [], ◌∷◌, length, None}
use Rattle.std.specs.Str.{chars, IsUtf8}
use Rattle.pl_lexer.specs.declared.tokens.Kind.{Kind}
use Rattle.pl_lexer.specs.declared.tokens.Kind.TheVariants as k
use Rattle.pl_lexer.specs.declared.tokens.Token.{Token}
use Rattle.pl_lexer.specs.Lexemes.{IsIdentifier}
use Rattle.pl_lexer.specs.Tokens.{sign_number, mangled_len}

-- the bytes of a name: an identifier that is no word, within both limits
pub record IsName (bytes : List ℕ) : Type 0 where
  pub utf8 : IsUtf8 bytes
  pub identifier : IsIdentifier (chars bytes)
  pub no_word : sign_number bytes ≡ None
  pub characters : length (chars bytes) ≤ 40
  pub mangled : mangled_len (chars bytes) ≤ 50

-- a name, a number below 2^127, or the number of a sign
abbrev pub IsProper : Kind → Type 0
IsProper (k.Word name) = IsName name
IsProper (k.Number z) = (n : ℕ) × (z ≡ pos n) × (n < 2 ^ 127)
IsProper (k.Sign n) = n < 101
IsProper k.End = ⊤

-- the same of each token
abbrev pub AreProper : List Token → Type 0
AreProper [] = ⊤
AreProper (t ∷ ts) = IsProper t.kind × AreProper ts
