-- What a printer needs: lexemes one behind the other that lexing finds again.
use Rattle.std.specs.Prelude.{◌≡◌, ℕ, ◌^◌, ◌<◌, ◌⊎◌, ◌||◌, ◌==◌, not, ⊤, Bool, true, false, if◌then◌else◌, List, [], ◌∷◌, Contains}
use Rattle.std.specs.Char.{is_ascii_digit}
use Rattle.std.specs.List.{filter_map}
use Rattle.std.specs.Str.{chars}
use Rattle.pl_readers.specs.Bytes.{value_from}
use Rattle.pl_readers.specs.Reader.{begins}
use Rattle.pl_lexer.specs.declared.tokens.Kind.{Kind}
use Rattle.pl_lexer.specs.Lexemes.{is_blank, is_start, is_more, signs, IsBlank, IsNumber}
use Rattle.pl_lexer.specs.Proper.{IsName}
use Rattle.pl_lexer.specs.Tokens.{kind_of}

-- the text of a blank, of a sign, of a name or of a number within the limits
abbrev pub IsPiece : List ℕ → Type 0
IsPiece l =
    IsBlank l ⊎ Contains signs l ⊎ ((bytes : List ℕ) × IsName bytes × (l ≡ chars bytes)) ⊎ (IsNumber l × (value_from 0 l < 2 ^ 127))

-- whether a symbol may go on with the character, or it may make a comment of it
abbrev pub is_joining : ℕ → Bool
is_joining c = (c == 61) || (c == 62) || (c == 42) || (c == 47)

-- whether a piece ends where this character stands behind it
abbrev pub is_apart : List ℕ → ℕ → Bool
is_apart [] d = false
is_apart (c ∷ cs) d =
    if is_blank c then true
    else (if is_start c then not (is_more d)
    else (if is_ascii_digit c then not (is_ascii_digit d)
    else not (is_joining d)))

-- pieces, each of which ends where the next begins
abbrev pub AreApart : List (List ℕ) → Type 0
AreApart [] = ⊤
AreApart (l ∷ []) = IsPiece l
AreApart (l ∷ m ∷ ls) = IsPiece l × (begins (is_apart l) m ≡ true) × AreApart (m ∷ ls)

-- what lexemes stand for, without places
abbrev pub kinds_of : List (List ℕ) → List Kind
kinds_of ls = filter_map kind_of ls
