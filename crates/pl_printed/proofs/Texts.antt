-- The canonical text of an expression is the text of its pieces.
use Rattle.std.proofs.Common.{◌≡◌, ◌∙◌, ℕ, suc, nat_lt, Bool, true, false, List, [], ◌∷◌, ◌++◌, refl, sym, ap, append_assoc, append-nil}
use Rattle.std.specs.Prelude.{ℤ, pos, negsuc, ◌==◌, ◌&&◌, codes, decimal}
use Rattle.std.specs.Fmt.{signed_decimal}
use Rattle.pl_syntax.specs.declared.expr.BinOp.{BinOp}
use Rattle.pl_syntax.specs.declared.expr.BinOp.TheVariants as op
use Rattle.pl_syntax.specs.Tree as t
use Rattle.pl_syntax.specs.Tree.{Expr}
use Rattle.pl_print.specs.Lists.{in_brackets}
use Rattle.pl_print.specs.ExprText.{tightness, left_place, right_place, operator, literal_text, expr_text}
use Rattle.pl_printed.proofs.Laid.{Piece, Gap, Line, Mark, Named, Count, sign_of, enclosed, laid, laid_int}
use Rattle.pl_printed.proofs.Spelled.{sign_text, bytes}

pub bytes-append : (xs ys : List Piece) → bytes (xs ++ ys) ≡ bytes xs ++ bytes ys
bytes-append [] ys = refl
bytes-append (Gap ∷ xs) ys = ap (λ (z : List ℕ). codes " " ++ z) (bytes-append xs ys)
bytes-append (Line ∷ xs) ys = ap (λ (z : List ℕ). codes "\n" ++ z) (bytes-append xs ys)
bytes-append (Mark n ∷ xs) ys = ap (λ (z : List ℕ). sign_text n ++ z) (bytes-append xs ys) ∙ sym (append_assoc (sign_text n) (bytes xs) (bytes ys))
bytes-append (Named x ∷ xs) ys = ap (λ (z : List ℕ). x ++ z) (bytes-append xs ys) ∙ sym (append_assoc x (bytes xs) (bytes ys))
bytes-append (Count n ∷ xs) ys = ap (λ (z : List ℕ). decimal n ++ z) (bytes-append xs ys) ∙ sym (append_assoc (decimal n) (bytes xs) (bytes ys))

pub enclosed_text : (q : Bool) (ps : List Piece) (text : List ℕ) → bytes ps ≡ text → bytes (enclosed q ps) ≡ in_brackets q text
enclosed_text true ps text h = ap (λ (z : List ℕ). codes "(" ++ z) (bytes-append ps (Mark 1 ∷ []) ∙ ap (λ (z : List ℕ). z ++ codes ")") h)
enclosed_text false ps text h = h ∙ sym (append-nil text)

bare_text : (q : Bool) (n : ℕ) → bytes (enclosed q (Count n ∷ [])) ≡ in_brackets (q && true) (decimal n)
bare_text true n = refl
bare_text false n = refl

minus_text : (q : Bool) (n : ℕ) → bytes (Mark 16 ∷ Count (suc n) ∷ []) ≡ in_brackets (q && false) (signed_decimal (negsuc n))
minus_text true n = refl
minus_text false n = refl

int_text : (p : ℕ) (n : ℤ) → bytes (laid_int p n) ≡ literal_text p n
int_text p (pos n) = bare_text (p == 7) n
int_text p (negsuc n) = minus_text (p == 7) n

operator_text : (o : BinOp) (rest : List ℕ) → codes " " ++ (sign_text (sign_of o) ++ (codes " " ++ rest)) ≡ operator o ++ rest
operator_text op.Add rest = refl
operator_text op.Sub rest = refl
operator_text op.Mul rest = refl
operator_text op.Div rest = refl
operator_text op.Rem rest = refl
operator_text op.Lt rest = refl
operator_text op.Le rest = refl
operator_text op.Gt rest = refl
operator_text op.Ge rest = refl
operator_text op.Eq rest = refl
operator_text op.Ne rest = refl
operator_text op.And rest = refl
operator_text op.Or rest = refl
operator_text op.Implies rest = refl

middle_text : (o : BinOp) (xs ys : List Piece) (a b : List ℕ) → bytes xs ≡ a → bytes ys ≡ b → bytes (xs ++ (Gap ∷ Mark (sign_of o) ∷ Gap ∷ ys)) ≡ a ++ operator o ++ b
middle_text o xs ys a b ha hb =
    bytes-append xs (Gap ∷ Mark (sign_of o) ∷ Gap ∷ ys) ∙ ap (λ (z : List ℕ). bytes xs ++ z) (operator_text o (bytes ys)) ∙ ap (λ (z : List ℕ). z ++ (operator o ++ bytes ys)) ha
    ∙ ap (λ (z : List ℕ). a ++ (operator o ++ z)) hb ∙ sym (append_assoc a (operator o) b)

pub text_is : (p : ℕ) (e : Expr) → bytes (laid p e) ≡ expr_text p e
text_is p (t.Int at n) = int_text p n
text_is p (t.Truth at true) = refl
text_is p (t.Truth at false) = refl
text_is p (t.Null at) = refl
text_is p (t.Var at x) = append-nil x
text_is p (t.Neg at e) = ap (λ (z : List ℕ). codes "-" ++ z) (text_is 7 e)
text_is p (t.Not at e) = ap (λ (z : List ℕ). codes "not " ++ z) (text_is 6 e)
text_is p (t.Bin at o a b) =
    enclosed_text (nat_lt (tightness o) p) (laid (left_place o) a ++ (Gap ∷ Mark (sign_of o) ∷ Gap ∷ laid (right_place o) b)) (expr_text (left_place o) a ++ operator o ++ expr_text (right_place o) b)
    (middle_text o (laid (left_place o) a) (laid (right_place o) b) (expr_text (left_place o) a) (expr_text (right_place o) b) (text_is (left_place o) a) (text_is (right_place o) b))
