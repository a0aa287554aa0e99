-- Which pieces may stand right behind which, so that lexing finds them again.
use Rattle.std.specs.Prelude.{ℕ, ◌^◌, ◌<◌, ◌&&◌, nat_le, not, Bool, true, false, if◌then◌else◌, List, [], ◌∷◌, ⊤}
use Rattle.pl_lexer.specs.Proper.{IsName}
use Rattle.pl_grammar.specs.Signs.{is_in}
use Rattle.pl_printed.proofs.Laid.{Piece, Gap, Line, Mark, Named, Count}

-- whether a sign is a word of the language
abbrev pub is_word : ℕ → Bool
is_word n = nat_le 30 n

-- whether a sign begins with `=`, `*`, `/` or `>`
abbrev pub joins : Piece → Bool
joins (Mark n) = is_in (11 ∷ 14 ∷ 17 ∷ 18 ∷ 22 ∷ 23 ∷ 24 ∷ 28 ∷ []) n
joins _ = false

-- whether a word ends before a piece
abbrev pub ends_word : Piece → Bool
ends_word Gap = true
ends_word Line = true
ends_word (Mark n) = not (is_word n)
ends_word (Named x) = false
ends_word (Count n) = false

-- whether a number ends before a piece
abbrev pub ends_number : Piece → Bool
ends_number (Count n) = false
ends_number _ = true

-- whether q may stand right behind a piece
abbrev pub may_touch : Piece → Piece → Bool
may_touch Gap q = true
may_touch Line q = true
may_touch (Mark n) q = if is_word n then ends_word q else not (joins q)
may_touch (Named x) q = ends_word q
may_touch (Count n) q = ends_number q

abbrev pub touching : List Piece → Bool
touching [] = true
touching (p ∷ []) = true
touching (p ∷ q ∷ ps) = may_touch p q && touching (q ∷ ps)

-- whether all pieces may stand before q
abbrev pub closes : Piece → Bool
closes Gap = true
closes Line = true
closes (Mark n) = not (is_word n) && not (joins (Mark n))
closes (Named x) = false
closes (Count n) = false

-- signs that there are, names, and numbers within the limit
abbrev pub IsProper : Piece → Type 0
IsProper Gap = ⊤
IsProper Line = ⊤
IsProper (Mark n) = n < 101
IsProper (Named x) = IsName x
IsProper (Count n) = n < 2 ^ 127

abbrev pub AreProper : List Piece → Type 0
AreProper [] = ⊤
AreProper (p ∷ ps) = IsProper p × AreProper ps
