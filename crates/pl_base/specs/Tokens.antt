-- How bytes spell the tokens of the small grammar: the longest token is taken, with blanks between tokens.
use Rattle.std.specs.Prelude.{◌≡◌, ℕ, ◌+◌, ◌*◌, ◌-◌, ◌^◌, ◌≤◌, ◌==◌, ◌&&◌, ◌||◌, nat_le, Bool, true, false, List, [], ◌∷◌, ◌++◌, if◌then◌else◌}
use Rattle.std.specs.List.{list_all}
use lib.Chars.{codes}
use Rattle.pl_base.specs.declared.pos.Pos.{Pos}
use Rattle.pl_base.specs.declared.token.Token.{Token}
use Rattle.pl_base.specs.declared.token.Kind.{Kind}
use Rattle.pl_base.specs.declared.token.Kind.TheVariants.{Word, Number, Sign}

-- the words of the language, which are no names
abbrev pub words : List (List ℕ)
words = codes "struct" ∷ codes "pred" ∷ codes "ghost" ∷ codes "fn" ∷ codes "opens" ∷ codes "requires" ∷ codes "returns" ∷ codes "ensures" ∷ codes "decreases"
    ∷ codes "let" ∷ codes "mut" ∷ codes "if" ∷ codes "else" ∷ codes "while" ∷ codes "invariant" ∷ codes "with" ∷ codes "with_invariants" ∷ codes "assert" ∷ codes "by"
    ∷ codes "return" ∷ codes "par" ∷ codes "not" ∷ codes "true" ∷ codes "false" ∷ codes "null" ∷ codes "emp" ∷ codes "pure" ∷ codes "exists" ∷ codes "slice" ∷ codes "block"
    ∷ codes "lock_alive" ∷ codes "lock_held" ∷ codes "inv" ∷ codes "fold" ∷ codes "unfold" ∷ codes "rewrite" ∷ codes "as" ∷ codes "share" ∷ codes "gather" ∷ codes "split"
    ∷ codes "join" ∷ codes "at" ∷ codes "focus" ∷ codes "unfocus" ∷ codes "drop_" ∷ codes "alloc" ∷ codes "alloc_array" ∷ codes "alloc_atomic" ∷ codes "new" ∷ codes "free"
    ∷ codes "free_array" ∷ codes "new_lock" ∷ codes "acquire" ∷ codes "release" ∷ codes "free_lock" ∷ codes "read" ∷ codes "print" ∷ codes "atomic_read" ∷ codes "atomic_write"
    ∷ codes "cas" ∷ codes "galloc" ∷ codes "new_invariant" ∷ codes "i64" ∷ codes "bool" ∷ codes "ref" ∷ codes "atomic" ∷ codes "lock" ∷ codes "int" ∷ codes "perm" ∷ codes "gref"
    ∷ codes "iname" ∷ []

-- space, tab, CR and LF
abbrev pub is_blank : ℕ → Bool
is_blank b = b == 32 || b == 9 || b == 13 || b == 10

-- `0` to `9`
abbrev pub is_digit : ℕ → Bool
is_digit b = nat_le 48 b && nat_le b 57

-- an ASCII letter or `_`
abbrev pub is_letter : ℕ → Bool
is_letter b = (nat_le 65 b && nat_le b 90) || (nat_le 97 b && nat_le b 122) || b == 95

abbrev pub is_word_byte : ℕ → Bool
is_word_byte b = is_letter b || is_digit b

-- one of `( ) { } ; = ! -`
abbrev pub is_sign : ℕ → Bool
is_sign b = b == 40 || b == 41 || b == 123 || b == 125 || b == 59 || b == 61 || b == 33 || b == 45

-- the place behind a byte: lines and columns count from 1, bytes from 0; LF alone ends a line
abbrev pub next_place : Pos → ℕ → Pos
next_place p b = if b == 10 then record { line = p.line + 1; col = 1; byte = p.byte + 1 } else record { line = p.line; col = p.col + 1; byte = p.byte + 1 }

-- the place behind some bytes
abbrev pub place_behind : Pos → List ℕ → Pos
place_behind p [] = p
place_behind p (b ∷ bs) = place_behind (next_place p b) bs

abbrev pub first_place : Pos
first_place = record { line = 1; col = 1; byte = 0 }

-- the value of digits, on top of those before them
abbrev pub digits_onto : ℕ → List ℕ → ℕ
digits_onto n [] = n
digits_onto n (b ∷ bs) = digits_onto (n * 10 + (b - 48)) bs

-- a word begins with no digit
abbrev pub IsWord : List ℕ → Type 0
IsWord [] = ⊥
IsWord (b ∷ bs) = (is_letter b ≡ true) × (list_all is_word_byte bs ≡ true)

-- digits with this value, which is at most 2^63
abbrev pub IsNumber : ℕ → List ℕ → Type 0
IsNumber n [] = ⊥
IsNumber n (b ∷ bs) = (list_all is_digit (b ∷ bs) ≡ true) × (digits_onto 0 (b ∷ bs) ≡ n) × (n ≤ 2 ^ 63)

-- the bytes of a token
abbrev pub IsTokenText : Kind → List ℕ → Type 0
IsTokenText (Word x) text = (text ≡ x) × IsWord x
IsTokenText (Number n) text = IsNumber n text
IsTokenText (Sign s) text = (text ≡ s ∷ []) × (is_sign s ≡ true)

-- whether a text begins with a byte that passes
abbrev pub begins : (ℕ → Bool) → List ℕ → Bool
begins test [] = false
begins test (b ∷ bs) = test b

-- what stands behind a token doesn't make it longer
abbrev pub EndsBefore : Kind → List ℕ → Type 0
EndsBefore (Word x) rest = begins is_word_byte rest ≡ false
EndsBefore (Number n) rest = begins is_digit rest ≡ false
EndsBefore (Sign s) rest = Unit {0}

-- the first token stands behind blanks at its place
pub record SpellsOne (p : Pos) (k : Token) (text : List ℕ) (Rest : Pos → List ℕ → Type 0) : Type 0 where
  pub gap : List ℕ
  pub word : List ℕ
  pub rest : List ℕ
  pub parts : text ≡ gap ++ (word ++ rest)
  pub blanks : list_all is_blank gap ≡ true
  pub at : k.pos ≡ place_behind p gap
  pub spelled : IsTokenText k.kind word
  pub longest : EndsBefore k.kind rest
  pub others : Rest (place_behind (place_behind p gap) word) rest

-- from a place on, a text spells these tokens and no more
abbrev pub Spells : List Token → Pos → List ℕ → Type 0
Spells [] p text = list_all is_blank text ≡ true
Spells (k ∷ ks) p text = SpellsOne p k text (λ q rest. Spells ks q rest)
