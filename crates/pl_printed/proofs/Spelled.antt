-- The bytes of pieces.
use Rattle.std.specs.Prelude.{ℕ, get_or, List, [], ◌∷◌, ◌++◌, codes, decimal}
use Rattle.std.specs.Str.{chars}
use Rattle.pl_lexer.specs.Lexemes.{signs}
use Rattle.pl_printed.proofs.Laid.{Piece, Gap, Line, Mark, Named, Count}

-- the text of a sign, by its number
abbrev pub sign_text : ℕ → List ℕ
sign_text n = get_or signs n []

-- the bytes of pieces, one behind the other
abbrev pub bytes : List Piece → List ℕ
bytes [] = []
bytes (Gap ∷ ps) = codes " " ++ bytes ps
bytes (Line ∷ ps) = codes "\n" ++ bytes ps
bytes (Mark n ∷ ps) = sign_text n ++ bytes ps
bytes (Named x ∷ ps) = x ++ bytes ps
bytes (Count n ∷ ps) = decimal n ++ bytes ps

-- the characters of a piece
abbrev pub spell : Piece → List ℕ
spell Gap = codes " "
spell Line = codes "\n"
spell (Mark n) = sign_text n
spell (Named x) = chars x
spell (Count n) = decimal n

-- the pieces' lexemes
abbrev pub spelled : List Piece → List (List ℕ)
spelled [] = []
spelled (p ∷ ps) = spell p ∷ spelled ps
