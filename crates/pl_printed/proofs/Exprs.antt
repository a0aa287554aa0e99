-- Expressions, lists of them, cells and instances as they are printed.
use Rattle.std.proofs.Common.{◌≡◌, ◌∙◌, ℕ, ◌<◌, ◌==◌, nat_lt, Bool, true, false, List, [], ◌∷◌, ◌++◌, map, Option, Some, None, refl, sym, ap, append_assoc, append-nil, arith}
use Rattle.std.specs.Prelude.{ℤ, pos, negsuc, codes}
use Rattle.pl_base.specs.declared.pos.Pos.{Pos}
use Rattle.pl_lexer.specs.declared.tokens.Kind.{Kind}
use Rattle.pl_syntax.specs.declared.expr.BinOp.{BinOp}
use Rattle.pl_syntax.specs.declared.expr.BinOp.TheVariants as op
use Rattle.pl_syntax.specs.Tree as t
use Rattle.pl_syntax.specs.Tree.{Name, Expr, CellExpr, Instance}
use Rattle.pl_grammar.specs.Grammar.{Expression, Sum}
use Rattle.pl_grammar.specs.PropGrammar.{Value, Summed, MoreValues, Arguments, CellBehind, Cell, Instance as InstanceOf, Labelled}
use Rattle.pl_print.specs.Lists.{each_behind, commas}
use Rattle.pl_print.specs.ExprText.{tightness, left_place, right_place, expr_text, value_text, sum_text, cell_text, instance_text, label_text}
use Rattle.pl_printed.specs.Bare.{bare, bare_cell, bare_instance, nowhere}
use Rattle.pl_printed.specs.Levels.{after, FitsValue, FitsSum, FitValues, FitsCell, FitsInstance}
use Rattle.pl_printed.specs.Printable.{IsLiteral, IsExpr, IsCell, IsInstance, IfSome, Each}
use Rattle.pl_lexer.specs.Proper.{IsName}
use Rattle.pl_printed.proofs.Laid.{Piece, Gap, Mark, Count, sign_of, enclosed, laid, laid_int}
use Rattle.pl_printed.proofs.Touching.{AreProper}
use Rattle.pl_printed.proofs.Texts.{text_is}
use Rattle.pl_printed.proofs.Touch.{neat}
use Rattle.pl_printed.proofs.Printed.{printed}
use Rattle.pl_printed.proofs.Takes.{Takes, next, sign, name, last_sign, last_name, mapped, left, right, nothing, no_texts, texts}
use Rattle.pl_printed.proofs.Members.{Text, gap, mark, named, part, clause, proper-append, Printed, Written, printed_by, written_by}

-- ---- an expression at a place

enclosed_proper : (b : Bool) (ps : List Piece) → AreProper ps → AreProper (enclosed b ps)
enclosed_proper true ps h = (omega arith, proper-append ps (Mark 1 ∷ []) h (omega arith, tt))
enclosed_proper false ps h = h

literal_proper : (place : ℕ) (n : ℤ) → IsLiteral n → AreProper (laid_int place n)
literal_proper place (pos n) h = enclosed_proper (place == 7) (Count n ∷ []) (h, tt)
literal_proper place (negsuc n) h = (omega arith, (h, tt))

operator_proper : (o : BinOp) → sign_of o < 101
operator_proper op.Add = omega arith
operator_proper op.Sub = omega arith
operator_proper op.Mul = omega arith
operator_proper op.Div = omega arith
operator_proper op.Rem = omega arith
operator_proper op.Lt = omega arith
operator_proper op.Le = omega arith
operator_proper op.Gt = omega arith
operator_proper op.Ge = omega arith
operator_proper op.Eq = omega arith
operator_proper op.Ne = omega arith
operator_proper op.And = omega arith
operator_proper op.Or = omega arith
operator_proper op.Implies = omega arith

expr_proper : (place : ℕ) (e : Expr) → IsExpr e → AreProper (laid place e)
expr_proper place (t.Int at n) h = literal_proper place n h
expr_proper place (t.Truth at true) h = (omega arith, tt)
expr_proper place (t.Truth at false) h = (omega arith, tt)
expr_proper place (t.Null at) h = (omega arith, tt)
expr_proper place (t.Var at x) h = (h, tt)
expr_proper place (t.Neg at e) h = (omega arith, expr_proper 7 e h)
expr_proper place (t.Not at e) h = (omega arith, (tt, expr_proper 6 e h))
expr_proper place (t.Bin at o a b) h =
    enclosed_proper (nat_lt (tightness o) place) (laid (left_place o) a ++ (Gap ∷ Mark (sign_of o) ∷ Gap ∷ laid (right_place o) b))
    (proper-append (laid (left_place o) a) (Gap ∷ Mark (sign_of o) ∷ Gap ∷ laid (right_place o) b) (expr_proper (left_place o) a h.0) (tt, (operator_proper o, (tt, expr_proper (right_place o) b h.1))))

expr_parts : (place : ℕ) (e : Expr) → IsExpr e → Text (expr_text place e)
expr_parts place e h = record { pieces = laid place e; spelled = text_is place e; proper = expr_proper place e h; neat = neat place e }

-- an expression that stands alone
abbrev pub ValueMeans : Expr → List Kind → Type 0
ValueMeans e ks = (depth used : ℕ) → FitsValue depth used e → Takes (Value depth used) ks (λ y. bare y ≡ bare e)

pub value : (e : Expr) → IsExpr e → Printed (value_text e) (ValueMeans e)
unfolding Expression expr_parts
value e h = record {
  parts = expr_parts 0 e h;
  means = λ depth used fits. record { take = λ ts same. let f = printed e 0 depth used ts (omega arith) fits same in (f.0.tree, (f.0, f.1, refl), f.2) };
}

-- a sum, with the levels that are open behind it
abbrev pub SumMeans : Expr → List Kind → Type 0
SumMeans e ks = (depth used : ℕ) → FitsSum depth used e → Takes (Sum depth used) ks (λ y. (bare y.tree ≡ bare e) × (y.used ≡ after 4 e used))

pub sum : (e : Expr) → IsExpr e → Printed (sum_text e) (SumMeans e)
unfolding Sum expr_parts
sum e h = record {
  parts = expr_parts 4 e h;
  means = λ depth used fits. record { take = λ ts same. let f = printed e 4 depth used ts (omega arith) fits same in (f.0, f.1, (f.2, f.3)) };
}

abbrev pub SummedMeans : Expr → List Kind → Type 0
SummedMeans e ks = (depth used : ℕ) → FitsSum depth used e → Takes (Summed depth used) ks (λ y. bare y ≡ bare e)

pub summed : (e : Expr) → IsExpr e → Printed (sum_text e) (SummedMeans e)
summed e h = let s = sum e h in record { parts = s.parts; means = λ depth used fits. mapped (s.means depth used fits) (λ y a. a.0) }

-- ---- arguments

abbrev pub MoreValuesMean : List Expr → List Kind → Type 0
MoreValuesMean es ks = (depth used : ℕ) → FitValues depth used es → Takes (MoreValues depth used) ks (λ ys. map bare ys ≡ map bare es)

more_values : (es : List Expr) → Each IsExpr es → Written (each_behind (codes ", ") (map value_text es)) (MoreValuesMean es)
more_values [] h = written_by [] [] refl refl (λ depth used fits. no_texts refl)
more_values (e ∷ es) h =
    let v = value e h.0 in
    let r = more_values es h.1 in
    written_by (mark 6 ∷ gap ∷ part _ v.parts ∷ clause _ r.parts ∷ []) (each_behind (codes ", ") (map value_text (e ∷ es))) refl refl
    (λ depth used fits. texts (sign 6 (λ p. v.means depth used fits.0)) (r.means depth used fits.1) (λ y ys a b. cc (a, b)))

abbrev pub ArgumentsMean : List Expr → List Kind → Type 0
ArgumentsMean es ks = (depth used : ℕ) → FitValues depth used es → Takes (Arguments depth used) ks (λ ys. map bare ys ≡ map bare es)

-- arguments, with the bracket behind them
pub arguments : (es : List Expr) → Each IsExpr es → Printed (commas (map value_text es) ++ codes ")") (ArgumentsMean es)
arguments [] h = printed_by (mark 1 ∷ []) (codes ")") refl refl (λ depth used fits. left (last_sign 1 (λ p. refl)))
arguments (e ∷ es) h =
    let v = value e h.0 in
    let r = more_values es h.1 in
    printed_by (part _ v.parts ∷ clause _ r.parts ∷ mark 1 ∷ []) (commas (map value_text (e ∷ es)) ++ codes ")") refl
    (sym (append_assoc (value_text e) (each_behind (codes ", ") (map value_text es)) (codes ")")))
    (λ depth used fits. right (next (v.means depth used fits.0) (λ y a. next (r.means depth used fits.1) (λ ys b. last_sign 1 (λ p. cc (a, b))))))

abbrev pub InstanceMeans : Instance → List Kind → Type 0
InstanceMeans i ks = (depth used : ℕ) → FitsInstance depth used i → Takes (InstanceOf depth used) ks (λ y. bare_instance y ≡ bare_instance i)

pub same_instance : (p : Pos) (i : Instance) (ys : List Expr) → map bare ys ≡ map bare i.args → bare_instance (record { pos = p; pred = i.pred; args = ys }) ≡ bare_instance i
same_instance p i ys h = ap (λ (zs : List Expr). let j : Instance = record { pos = nowhere; pred = i.pred; args = zs } in j) h

pub instance : (i : Instance) → IsInstance i → Printed (instance_text i) (InstanceMeans i)
instance i h =
    let a = arguments i.args h.1 in
    printed_by (named i.pred h.0 ∷ mark 0 ∷ part _ a.parts ∷ []) (instance_text i) refl refl
    (λ depth used fits. name i.pred (λ p. sign 0 (λ q. mapped (a.means depth used fits) (λ ys b. same_instance p i ys b))))

-- ---- cells

abbrev pub base_of : CellExpr → Name
base_of (t.Whole base) = base
base_of (t.At base index) = base
base_of (t.Field base field) = base

-- what stands behind the base
abbrev pub place_text : CellExpr → List ℕ
place_text (t.Whole base) = []
place_text (t.At base index) = codes "[" ++ (sum_text index ++ codes "]")
place_text (t.Field base field) = codes "." ++ field

pub cell_is : (c : CellExpr) → base_of c ++ place_text c ≡ cell_text c
cell_is (t.Whole base) = append-nil base
cell_is (t.At base index) = refl
cell_is (t.Field base field) = refl

pub cell_then : (c : CellExpr) (rest : List ℕ) → base_of c ++ (place_text c ++ rest) ≡ cell_text c ++ rest
cell_then c rest = sym (append_assoc (base_of c) (place_text c) rest) ∙ ap (λ (z : List ℕ). z ++ rest) (cell_is c)

pub base_name : (c : CellExpr) → IsCell c → IsName (base_of c)
base_name (t.Whole base) h = h
base_name (t.At base index) h = h.0
base_name (t.Field base field) h = h.0

abbrev pub PlaceMeans : CellExpr → List Kind → Type 0
PlaceMeans c ks = (depth used : ℕ) → FitsCell depth used c → (p : Pos) → Takes (CellBehind depth used (p, base_of c)) ks (λ y. bare_cell y ≡ bare_cell c)

pub cell_place : (c : CellExpr) → IsCell c → Written (place_text c) (PlaceMeans c)
cell_place (t.Whole base) h = written_by [] [] refl refl (λ depth used fits p. right (nothing refl))
cell_place (t.At base index) h =
    let s = summed index h.1 in
    written_by (mark 4 ∷ part _ s.parts ∷ mark 5 ∷ []) (place_text (t.At base index)) refl refl
    (λ depth used fits p. left (left (sign 4 (λ q. next (s.means depth used fits) (λ y a. last_sign 5 (λ r. ap (λ (z : Expr). t.At base z) a))))))
cell_place (t.Field base field) h =
    written_by (mark 9 ∷ named field h.1 ∷ []) (place_text (t.Field base field)) refl (ap (λ (z : List ℕ). codes "." ++ z) (append-nil field))
    (λ depth used fits p. left (right (sign 9 (λ q. last_name field (λ r. refl)))))

abbrev pub CellMeans : CellExpr → List Kind → Type 0
CellMeans c ks = (depth used : ℕ) → FitsCell depth used c → Takes (Cell depth used) ks (λ y. bare_cell y ≡ bare_cell c)

pub cell : (c : CellExpr) → IsCell c → Printed (cell_text c) (CellMeans c)
cell c h =
    let b = cell_place c h in
    printed_by (named (base_of c) (base_name c h) ∷ clause _ b.parts ∷ []) (cell_text c) refl (cell_is c)
    (λ depth used fits. name (base_of c) (λ p. b.means depth used fits p))

-- ---- labels

abbrev pub LabelledMeans : Option Name → Expr → List Kind → Type 0
LabelledMeans label e ks = (depth used : ℕ) → FitsValue depth used e → Takes (Labelled depth used) ks (λ y. (y.0 ≡ label) × (bare y.1 ≡ bare e))

pub labelled : (label : Option Name) (e : Expr) → IfSome IsName label → IsExpr e → Printed (label_text label ++ value_text e) (LabelledMeans label e)
labelled None e n h =
    let v = value e h in
    printed_by (part _ v.parts ∷ []) (value_text e) refl refl (λ depth used fits. right (mapped (v.means depth used fits) (λ y a. (refl, a))))
labelled (Some l) e n h =
    let v = value e h in
    printed_by (named l n ∷ mark 8 ∷ gap ∷ part _ v.parts ∷ []) (label_text (Some l) ++ value_text e) refl (sym (append_assoc l (codes ": ") (value_text e)))
    (λ depth used fits. left (name l (λ p. sign 8 (λ q. mapped (v.means depth used fits) (λ y a. (refl, a))))))
