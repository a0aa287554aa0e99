-- How long the longest lexeme at the front of a text is, by its first characters.
use Rattle.std.specs.Prelude.{ℕ, ◌+◌, ◌&&◌, ◌==◌, not, Bool, true, false, if◌then◌else◌, List, [], ◌∷◌, length}
use Rattle.std.specs.Char.{is_ascii_digit}
use Rattle.std.specs.List.{prefix_len, list_any}
use Rattle.pl_lexer.specs.Lexemes.{is_blank, is_start, is_more, is_lf, symbols}

-- whether the text begins so
abbrev pub is_prefix : List ℕ → List ℕ → Bool
is_prefix [] cs = true
is_prefix (s ∷ ss) [] = false
is_prefix (s ∷ ss) (c ∷ cs) = (c == s) && is_prefix ss cs

-- whether the text begins with a symbol of that length
abbrev pub begins_symbol : ℕ → List ℕ → Bool
begins_symbol n cs = list_any (λ s. (length s == n) && is_prefix s cs) symbols

-- the length of the longest symbol at the front, or 0
unfoldable pub symbol_len : List ℕ → ℕ
symbol_len cs = if begins_symbol 3 cs then 3 else (if begins_symbol 2 cs then 2 else (if begins_symbol 1 cs then 1 else 0))

-- whether the next character is `/`
abbrev pub begins_slash : List ℕ → Bool
begins_slash [] = false
begins_slash (c ∷ cs) = c == 47

-- the length of the longest lexeme at the front, or 0
unfoldable pub lexeme_len : List ℕ → ℕ
lexeme_len [] = 0
lexeme_len (c ∷ cs) =
    if is_blank c then 1
    else (if is_start c then 1 + prefix_len is_more cs
    else (if is_ascii_digit c then 1 + prefix_len is_ascii_digit cs
    else (if (c == 47) && begins_slash cs then 1 + prefix_len (λ d. not (is_lf d)) cs
    else symbol_len (c ∷ cs))))
