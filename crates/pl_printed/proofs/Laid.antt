-- What is printed, as pieces: blanks, and tokens without places.
use Rattle.std.specs.Prelude.{ℕ, ◌==◌, nat_lt, ℤ, pos, negsuc, suc, Bool, true, false, List, [], ◌∷◌, ◌++◌}
use Rattle.pl_syntax.specs.declared.expr.BinOp.{BinOp}
use Rattle.pl_syntax.specs.declared.expr.BinOp.TheVariants as op
use Rattle.pl_lexer.specs.declared.tokens.Kind.{Kind}
use Rattle.pl_lexer.specs.declared.tokens.Kind.TheVariants as k
use Rattle.pl_lexer.specs.declared.tokens.Token.{Token}
use Rattle.pl_print.specs.ExprText.{behind_minus, unary, tightness, left_place, right_place}
use Rattle.pl_syntax.specs.Tree as t
use Rattle.pl_syntax.specs.Tree.{Name, Expr}

-- a blank, the end of a line, a sign by its number, a name or a number
pub data Piece : Type 0 where
  Gap : Piece
  Line : Piece
  Mark : (n : ℕ) → Piece
  Named : (x : Name) → Piece
  Count : (n : ℕ) → Piece

-- the tokens among pieces
abbrev pub kinds : List Piece → List Kind
kinds [] = []
kinds (Gap ∷ ps) = kinds ps
kinds (Line ∷ ps) = kinds ps
kinds (Mark n ∷ ps) = k.Sign n ∷ kinds ps
kinds (Named x ∷ ps) = k.Word x ∷ kinds ps
kinds (Count n ∷ ps) = k.Number (pos n) ∷ kinds ps

-- tokens without their places
abbrev pub kinds_of : List Token → List Kind
kinds_of [] = []
kinds_of (x ∷ xs) = x.kind ∷ kinds_of xs

-- ---- expressions

-- the number of an operator's sign
abbrev pub sign_of : BinOp → ℕ
sign_of op.Add = 15
sign_of op.Sub = 16
sign_of op.Mul = 17
sign_of op.Div = 18
sign_of op.Rem = 19
sign_of op.Lt = 20
sign_of op.Le = 21
sign_of op.Gt = 22
sign_of op.Ge = 23
sign_of op.Eq = 24
sign_of op.Ne = 25
sign_of op.And = 26
sign_of op.Or = 27
sign_of op.Implies = 28

-- in brackets where they are wanted
abbrev pub enclosed : Bool → List Piece → List Piece
enclosed true ps = Mark 0 ∷ (ps ++ Mark 1 ∷ [])
enclosed false ps = ps

abbrev pub laid_int : ℕ → ℤ → List Piece
laid_int place (pos n) = enclosed (place == behind_minus) (Count n ∷ [])
laid_int place (negsuc n) = Mark 16 ∷ Count (suc n) ∷ []

abbrev pub laid_truth : Bool → List Piece
laid_truth true = Mark 52 ∷ []
laid_truth false = Mark 53 ∷ []

-- an expression at a place
abbrev pub laid : ℕ → Expr → List Piece
laid place (t.Int at n) = laid_int place n
laid place (t.Truth at b) = laid_truth b
laid place (t.Null at) = Mark 54 ∷ []
laid place (t.Var at x) = Named x ∷ []
laid place (t.Neg at e) = Mark 16 ∷ laid behind_minus e
laid place (t.Not at e) = Mark 51 ∷ Gap ∷ laid unary e
laid place (t.Bin at o a b) =
    enclosed (nat_lt (tightness o) place) (laid (left_place o) a ++ (Gap ∷ Mark (sign_of o) ∷ Gap ∷ laid (right_place o) b))
