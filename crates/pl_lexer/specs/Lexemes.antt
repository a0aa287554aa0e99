-- Lexemes: the pieces into which a text is cut. A text is a list of characters, and a character is its code.
use Rattle.std.specs.Prelude.{◌≡◌, ◌≢◌, ℕ, ◌⊎◌, ◌||◌, ◌==◌, not, true, Bool, List, [], ◌∷◌, ◌++◌, Contains, codes}
use Rattle.std.specs.Char.{is_ascii_digit}
use Rattle.std.specs.List.{list_all}
use Rattle.pl_base.specs.Tokens.{words}
use Rattle.unicode_ident.specs.Ident.{is_xid_start, is_xid_continue}

-- space, tab, CR and LF
abbrev pub is_blank : ℕ → Bool
is_blank c = (c == 32) || (c == 9) || (c == 13) || (c == 10)

-- with what an identifier begins: XID_Start (Unicode Standard Annex 31) or `_`
abbrev pub is_start : ℕ → Bool
is_start c = is_xid_start c || (c == 95)

-- with what it goes on: XID_Continue
abbrev pub is_more : ℕ → Bool
is_more c = is_xid_continue c

-- the end of a line
abbrev pub is_lf : ℕ → Bool
is_lf c = c == 10

-- the symbols, in the order of their numbers
abbrev pub symbols : List (List ℕ)
symbols =
    codes "(" ∷ codes ")" ∷ codes "{" ∷ codes "}" ∷ codes "[" ∷ codes "]" ∷ codes "," ∷ codes ";" ∷ codes ":" ∷ codes "." ∷
    codes "#" ∷ codes "=" ∷ codes ":=" ∷ codes "|->" ∷ codes "**" ∷ codes "+" ∷ codes "-" ∷ codes "*" ∷ codes "/" ∷ codes "%" ∷
    codes "<" ∷ codes "<=" ∷ codes ">" ∷ codes ">=" ∷ codes "==" ∷ codes "!=" ∷ codes "&&" ∷ codes "||" ∷ codes "==>" ∷ codes "!" ∷ []

-- the signs: the symbols, and then the words
abbrev pub signs : List (List ℕ)
signs = symbols ++ words

-- one blank character
abbrev pub IsBlank : List ℕ → Type 0
IsBlank t = (c : ℕ) × (t ≡ c ∷ []) × (is_blank c ≡ true)

-- from `//` up to before an LF
abbrev pub IsComment : List ℕ → Type 0
IsComment t = (body : List ℕ) × (t ≡ codes "//" ++ body) × (list_all (λ c. not (is_lf c)) body ≡ true)

-- a word or a name
abbrev pub IsIdentifier : List ℕ → Type 0
IsIdentifier t = (c : ℕ) × (cs : List ℕ) × (t ≡ c ∷ cs) × (is_start c ≡ true) × (list_all is_more cs ≡ true)

-- decimal digits, also with zeros in front
abbrev pub IsNumber : List ℕ → Type 0
IsNumber t = (t ≢ []) × (list_all is_ascii_digit t ≡ true)

-- one of the symbols
abbrev pub IsSymbol : List ℕ → Type 0
IsSymbol t = Contains symbols t

-- a piece of a text
unfoldable pub IsLexeme : List ℕ → Type 0
IsLexeme t = IsBlank t ⊎ IsComment t ⊎ IsIdentifier t ⊎ IsNumber t ⊎ IsSymbol t
