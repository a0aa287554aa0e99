-- Tokens: the text is cut into longest lexemes, and each that is no blank and no comment is a token.
use Rattle.std.specs.Prelude.{◌≡◌, ℕ, ◌+◌, ◌^◌, ◌≤◌, ◌<◌, pos, ◌⊎◌, ◌||◌, ◌&&◌, ◌==◌, ⊤, Bool, false, if◌then◌else◌, List, [], ◌∷◌, ◌++◌, length, fold, position, encode_utf8, encode_utf8_all, Option, Some, None, Result, Err}
use Rattle.std.specs.Char.{is_ascii_digit}
use Rattle.std.specs.Str.{bytes_eq, chars, IsUtf8, IsValidUpTo}
use Rattle.pl_base.specs.declared.pos.Pos.{Pos}
use Rattle.pl_base.specs.Mangling.{mangled}
use Rattle.pl_readers.specs.Bytes.{value_from}
use Rattle.pl_readers.specs.Reader.{begins}
use Rattle.pl_lexer.specs.declared.error.LexError.{LexError}
use Rattle.pl_lexer.specs.declared.error.LexError.TheVariants as e
use Rattle.pl_lexer.specs.declared.tokens.Kind.{Kind}
use Rattle.pl_lexer.specs.declared.tokens.Kind.TheVariants as k
use Rattle.pl_lexer.specs.declared.tokens.Token.{Token}
use Rattle.pl_lexer.specs.Lexemes.{is_blank, is_lf, signs, IsLexeme}

-- ---- longest lexemes

-- l is the longest lexeme at the front of the text that goes on behind it
abbrev pub IsLongest : List ℕ → List ℕ → Type 0
IsLongest l behind =
    IsLexeme l × ((front back : List ℕ) → l ++ behind ≡ front ++ back → IsLexeme front → length front ≤ length l)

-- the text is these longest lexemes and then the rest
abbrev pub Cut : List ℕ → List (List ℕ) → List ℕ → Type 0
Cut text [] rest = text ≡ rest
Cut text (l ∷ ls) rest = (behind : List ℕ) × (text ≡ l ++ behind) × IsLongest l behind × Cut behind ls rest

-- no lexeme begins the text
abbrev pub NoLexeme : List ℕ → Type 0
NoLexeme text = (front back : List ℕ) → text ≡ front ++ back → IsLexeme front → ⊥

-- ---- places

-- the place of the first character
abbrev pub start : Pos
start = record { line = 1; col = 1; byte = 0 }

-- the place behind a character: an LF ends the line, and each other character is one column
abbrev pub step : Pos → ℕ → Pos
step p c =
    if is_lf c then record { line = p.line + 1; col = 1; byte = p.byte + 1 }
    else record { line = p.line; col = p.col + 1; byte = p.byte + length (encode_utf8 c) }

-- the place behind a text
abbrev pub moved : Pos → List ℕ → Pos
moved p text = fold step p text

-- the place behind lexemes
abbrev pub place_behind : Pos → List (List ℕ) → Pos
place_behind p ls = fold moved p ls

-- ---- tokens

-- the number of a sign: its place in the list
abbrev pub sign_number : List ℕ → Option ℕ
sign_number bytes = position (λ s. bytes_eq s bytes) signs

-- whether a lexeme is a blank or a comment
abbrev pub is_gap : List ℕ → Bool
is_gap [] = false
is_gap (c ∷ []) = is_blank c
is_gap (c ∷ d ∷ cs) = is_blank c || ((c == 47) && (d == 47))

-- a sign by its number, or else a name
abbrev pub sign_or_name : Option ℕ → List ℕ → Kind
sign_or_name (Some n) l = k.Sign n
sign_or_name None l = k.Word (encode_utf8_all l)

-- what a lexeme stands for: nothing where it is a blank or a comment, else a number, a sign or a name
abbrev pub kind_of : List ℕ → Option Kind
kind_of l =
    if is_gap l then None
    else Some (if begins is_ascii_digit l then k.Number (pos (value_from 0 l)) else sign_or_name (sign_number (encode_utf8_all l)) l)

-- the token at a place, if there is one
abbrev pub token_at : Pos → Option Kind → List Token
token_at p None = []
token_at p (Some kind) = record { pos = p; kind = kind } ∷ []

-- the tokens of lexemes from a place on
abbrev pub tokens_of : Pos → List (List ℕ) → List Token
tokens_of p [] = []
tokens_of p (l ∷ ls) = token_at p (kind_of l) ++ tokens_of (moved p l) ls

-- the same of a whole text, with its end
abbrev pub all_tokens : List (List ℕ) → List Token
all_tokens ls = tokens_of start ls ++ token_at (place_behind start ls) (Some k.End)

-- these are the tokens of the bytes: the bytes are UTF-8, and the longest lexeme is taken each time
abbrev pub AreTokens : List ℕ → List Token → Type 0
AreTokens bytes tokens = IsUtf8 bytes × ((ls : List (List ℕ)) × Cut (chars bytes) ls [] × (tokens ≡ all_tokens ls))

-- ---- limits

-- how many bytes a name has once mangled
abbrev pub mangled_len : List ℕ → ℕ
mangled_len l = length (mangled l)

-- a number past 2^127 - 1
abbrev pub IsLongNumber : Option Kind → Type 0
IsLongNumber (Some (k.Number (pos n))) = 2 ^ 127 ≤ n
IsLongNumber _ = ⊥

-- a name spelled by the characters l, of more than 40 characters, or of more than 50 bytes once mangled
abbrev pub IsLongName : List ℕ → Option Kind → Type 0
IsLongName l (Some (k.Word name)) = (40 < length l) ⊎ (50 < mangled_len l)
IsLongName l _ = ⊥

-- no lexeme passes a limit
abbrev pub AllShort : List (List ℕ) → Type 0
AllShort [] = ⊤
AllShort (l ∷ ls) = (¬ IsLongNumber (kind_of l)) × (¬ IsLongName l (kind_of l)) × AllShort ls

-- ---- what lexing answers

-- the text is cut into these lexemes up to the rest, which is at this place, and none of them passes a limit
pub record Lexed (text : List ℕ) (ls : List (List ℕ)) (rest : List ℕ) (p : Pos) : Type 0 where
  pub cut : Cut text ls rest
  pub short : AllShort ls
  pub place : p ≡ place_behind start ls

-- the tokens of a text, none of which passes a limit
abbrev pub IsCutInto : List ℕ → List Token → Type 0
IsCutInto text tokens = (ls : List (List ℕ)) × (p : Pos) × Lexed text ls [] p × (tokens ≡ all_tokens ls)

-- the first place of a text at which no lexeme begins or the longest one passes a limit
abbrev pub IsRefusedAt : List ℕ → LexError → Type 0
IsRefusedAt text (e.BadChar p) = (ls : List (List ℕ)) × (rest : List ℕ) × Lexed text ls rest p × (0 < length rest) × NoLexeme rest
IsRefusedAt text (e.LongNumber p) =
    (ls : List (List ℕ)) × (l behind : List ℕ) × Lexed text ls (l ++ behind) p × IsLongest l behind × IsLongNumber (kind_of l)
IsRefusedAt text (e.LongName p) =
    (ls : List (List ℕ)) × (l behind : List ℕ) × Lexed text ls (l ++ behind) p × IsLongest l behind × IsLongName l (kind_of l)
IsRefusedAt text e.Memory = ⊤
IsRefusedAt text (e.BadUtf8 n) = ⊥

-- the tokens of bytes in UTF-8, none of which passes a limit
abbrev pub IsLexed : List ℕ → List Token → Type 0
IsLexed bytes tokens = IsUtf8 bytes × IsCutInto (chars bytes) tokens

-- why bytes have no such tokens: they are UTF-8 up to a byte and not beyond, or else the first refusal of their characters
abbrev pub IsRefusal : List ℕ → LexError → Type 0
IsRefusal bytes (e.BadUtf8 n) = IsValidUpTo bytes n
IsRefusal bytes error = IsUtf8 bytes × IsRefusedAt (chars bytes) error

-- a result is this answer, but for want of memory
abbrev pub IsButForMemory : Result (List Token) LexError → Result (List Token) LexError → Type 0
IsButForMemory result answer = (result ≡ answer) ⊎ (result ≡ Err e.Memory)
