-- The text of expressions, and of cells, calls and permissions in which they stand.
use Rattle.std.specs.Prelude.{ℕ, zero, suc, ◌+◌, ◌==◌, ◌&&◌, nat_lt, ℤ, pos, negsuc, Bool, true, false, if◌then◌else◌, List, [], ◌∷◌, ◌++◌, map, codes, decimal, Option, Some, None, is_none}
use Rattle.std.specs.Fmt.{signed_decimal}
use Rattle.pl_syntax.specs.declared.expr.BinOp.{BinOp}
use Rattle.pl_syntax.specs.declared.expr.BinOp.TheVariants as op
use Rattle.pl_syntax.specs.declared.expr.Sort.{Sort}
use Rattle.pl_syntax.specs.declared.expr.Sort.TheVariants as sort
use Rattle.pl_syntax.specs.declared.expr.Binder.{Binder}
use Rattle.pl_syntax.specs.declared.expr.PermExpr.{PermExpr}
use Rattle.pl_print.specs.Lists.{joined, commas, in_brackets}
use Rattle.pl_syntax.specs.Tree as t
use Rattle.pl_syntax.specs.Tree.{Name, Expr, CellExpr, Instance}

-- ---- how tight things bind: each place wants what binds at least as tight as its number says

-- any expression
abbrev pub whole : ℕ
whole = 0

-- a sum
abbrev pub sum : ℕ
sum = 4

-- an operand of a unary operator
abbrev pub unary : ℕ
unary = 6

-- right behind a minus, where a number would be read as a negative literal
abbrev pub behind_minus : ℕ
behind_minus = 7

-- an operator with its operands
abbrev pub tightness : BinOp → ℕ
tightness op.Implies = 0
tightness op.Or = 1
tightness op.And = 2
tightness op.Lt = 3
tightness op.Le = 3
tightness op.Gt = 3
tightness op.Ge = 3
tightness op.Eq = 3
tightness op.Ne = 3
tightness op.Add = 4
tightness op.Sub = 4
tightness op.Mul = 5
tightness op.Div = 5
tightness op.Rem = 5

-- whether an operator groups: `a - b - c` is `(a - b) - c`, but comparisons and `==>` don't group
abbrev pub groups : BinOp → Bool
groups op.Implies = false
groups op.Lt = false
groups op.Le = false
groups op.Gt = false
groups op.Ge = false
groups op.Eq = false
groups op.Ne = false
groups _ = true

-- the operand on the left, which may bind as tight as the operator where this groups
abbrev pub left_place : BinOp → ℕ
left_place o = if groups o then tightness o else tightness o + 1

-- the operand on the right
abbrev pub right_place : BinOp → ℕ
right_place o = tightness o + 1

-- ---- expressions

-- an operator between its operands
abbrev pub operator : BinOp → List ℕ
operator op.Add = codes " + "
operator op.Sub = codes " - "
operator op.Mul = codes " * "
operator op.Div = codes " / "
operator op.Rem = codes " % "
operator op.Lt = codes " < "
operator op.Le = codes " <= "
operator op.Gt = codes " > "
operator op.Ge = codes " >= "
operator op.Eq = codes " == "
operator op.Ne = codes " != "
operator op.And = codes " && "
operator op.Or = codes " || "
operator op.Implies = codes " ==> "

-- a truth value
abbrev pub truth_text : Bool → List ℕ
truth_text true = codes "true"
truth_text false = codes "false"

-- whether a number has no minus
abbrev pub is_bare : ℤ → Bool
is_bare (pos n) = true
is_bare (negsuc n) = false

-- a literal: behind a minus one without a minus has brackets
abbrev pub literal_text : ℕ → ℤ → List ℕ
literal_text place n = in_brackets ((place == behind_minus) && is_bare n) (signed_decimal n)

-- an expression at a place: what binds less tight than the place wants has brackets
abbrev pub expr_text : ℕ → Expr → List ℕ
expr_text place (t.Int at n) = literal_text place n
expr_text place (t.Truth at b) = truth_text b
expr_text place (t.Null at) = codes "null"
expr_text place (t.Var at x) = x
expr_text place (t.Neg at e) = codes "-" ++ expr_text behind_minus e
expr_text place (t.Not at e) = codes "not " ++ expr_text unary e
expr_text place (t.Bin at o a b) =
    in_brackets (nat_lt (tightness o) place) (expr_text (left_place o) a ++ operator o ++ expr_text (right_place o) b)

-- an expression that stands alone
abbrev pub value_text : Expr → List ℕ
value_text e = expr_text whole e

-- a sum that stands alone
abbrev pub sum_text : Expr → List ℕ
sum_text e = expr_text sum e

-- ---- cells and calls

-- a cell: `r`, `a[i]` or `p.f`
abbrev pub cell_text : CellExpr → List ℕ
cell_text (t.Whole base) = base
cell_text (t.At base index) = joined (base ∷ codes "[" ∷ sum_text index ∷ []) (codes "]")
cell_text (t.Field base field) = joined (base ∷ codes "." ∷ []) field

-- a name with arguments
abbrev pub call_text : Name → List Expr → List ℕ
call_text f args = joined (f ∷ codes "(" ∷ commas (map value_text args) ∷ []) (codes ")")

-- a predicate with its arguments
abbrev pub instance_text : Instance → List ℕ
instance_text i = call_text i.pred i.args

-- a label in front of an expression
abbrev pub label_text : Option Name → List ℕ
label_text None = []
label_text (Some h) = h ++ codes ": "

-- ---- permissions

-- whether a part is the whole: in lowest terms it alone has the denominator 1
abbrev pub is_whole_part : ℕ × ℕ → Bool
is_whole_part part = part.1 == 1

-- a part: a number, or a fraction in lowest terms
abbrev pub part_text : ℕ × ℕ → List ℕ
part_text part = if is_whole_part part then decimal part.0 else decimal part.0 ++ codes "/" ++ decimal part.1

-- a part of a variable: where it is the whole the variable stands alone
abbrev pub part_of_text : ℕ × ℕ → Name → List ℕ
part_of_text part f = if is_whole_part part then f else part_text part ++ codes "*" ++ f

abbrev pub times_text : ℕ × ℕ → Option Name → List ℕ
times_text part None = part_text part
times_text part (Some f) = part_of_text part f

-- a permission
abbrev pub perm_text : PermExpr → List ℕ
perm_text q = times_text q.part q.var

-- whether a permission is 1 without a variable, which points-tos and slices don't show
abbrev pub is_all : PermExpr → Bool
is_all q = is_none q.var && is_whole_part q.part

-- the arrow of a points-to with its permission
abbrev pub arrow_text : PermExpr → List ℕ
arrow_text q = if is_all q then codes " |-> " else joined (codes " |->{" ∷ perm_text q ∷ []) (codes "} ")

-- the permission of a slice, behind its bounds
abbrev pub last_perm_text : PermExpr → List ℕ
last_perm_text q = if is_all q then [] else codes ", " ++ perm_text q

-- ---- binders

abbrev pub sort_text : Sort → List ℕ
sort_text sort.I64 = codes "i64"
sort_text sort.Bool = codes "bool"
sort_text sort.RefI64 = codes "ref i64"
sort_text sort.RefBool = codes "ref bool"
sort_text (sort.RefStruct s) = codes "ref " ++ s
sort_text sort.Atomic = codes "atomic"
sort_text sort.Lock = codes "lock"
sort_text sort.Int = codes "int"
sort_text sort.Perm = codes "perm"
sort_text sort.Gref = codes "gref"
sort_text sort.Iname = codes "iname"

-- a name with its sort
abbrev pub binder_text : Binder → List ℕ
binder_text b = b.name ++ codes ": " ++ sort_text b.sort

abbrev pub binders_text : List Binder → List ℕ
binders_text bs = commas (map binder_text bs)
