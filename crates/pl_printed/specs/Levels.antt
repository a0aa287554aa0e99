-- How many levels are open in what is printed, and whether they are few enough.
use Rattle.std.specs.Prelude.{ℕ, zero, suc, ◌+◌, ◌==◌, ◌≤◌, ◌<◌, nat_lt, ℤ, pos, negsuc, Bool, true, false, List, [], ◌∷◌, Option, Some, None, ⊤}
use Rattle.pl_print.specs.ExprText.{whole, sum, behind_minus, unary, tightness, left_place, right_place}
use Rattle.pl_syntax.specs.Tree as t
use Rattle.pl_syntax.specs.Tree.{Expr, CellExpr, Instance, Prop, Body, Init, Key, Stmt, Stmts, Braced, Else, Decl, Program}

-- a level more has to be there, beside those that are open
abbrev pub Opened : ℕ → ℕ → (ℕ → Type 0) → Type 0
Opened zero used Inner = ⊥
Opened (suc depth) used Inner = (used ≤ depth) × Inner depth

-- the same where brackets are wanted
abbrev pub Enclosed : Bool → ℕ → ℕ → (ℕ → Type 0) → Type 0
Enclosed true depth used Inner = Opened depth used Inner
Enclosed false depth used Inner = Inner depth

-- what is open behind a text, which closes its own where it is in brackets
abbrev pub closing : Bool → ℕ → ℕ → ℕ
closing true before behind = before
closing false before behind = behind

-- ---- expressions

-- the levels that are open behind an expression at a place
abbrev pub after : ℕ → Expr → ℕ → ℕ
after place (t.Int at n) used = used
after place (t.Truth at b) used = used
after place (t.Null at) used = used
after place (t.Var at x) used = used
after place (t.Neg at e) used = after behind_minus e used + 1
after place (t.Not at e) used = after unary e used + 1
after place (t.Bin at o a b) used =
    closing (nat_lt (tightness o) place) used (after (right_place o) b (after (left_place o) a used + 1))

abbrev pub FitsLiteral : ℕ → ℕ → ℕ → ℤ → Type 0
FitsLiteral depth used place (pos n) = Enclosed (place == behind_minus) depth used (λ d. ⊤)
FitsLiteral depth used place (negsuc n) = ⊤

-- an expression at a place opens no more than depth levels, used among them
abbrev pub FitsExpr : ℕ → ℕ → ℕ → Expr → Type 0
FitsExpr depth used place (t.Int at n) = FitsLiteral depth used place n
FitsExpr depth used place (t.Truth at b) = ⊤
FitsExpr depth used place (t.Null at) = ⊤
FitsExpr depth used place (t.Var at x) = ⊤
FitsExpr depth used place (t.Neg at e) = Opened depth used (λ d. FitsExpr d used behind_minus e)
FitsExpr depth used place (t.Not at e) = Opened depth used (λ d. FitsExpr d used unary e)
FitsExpr depth used place (t.Bin at o a b) =
    Enclosed (nat_lt (tightness o) place) depth used (λ d.
    FitsExpr d used (left_place o) a × (after (left_place o) a used < d) × FitsExpr d (after (left_place o) a used + 1) (right_place o) b)

abbrev pub FitsValue : ℕ → ℕ → Expr → Type 0
FitsValue depth used e = FitsExpr depth used whole e

abbrev pub FitsSum : ℕ → ℕ → Expr → Type 0
FitsSum depth used e = FitsExpr depth used sum e

abbrev pub FitValues : ℕ → ℕ → List Expr → Type 0
FitValues depth used [] = ⊤
FitValues depth used (e ∷ es) = FitsValue depth used e × FitValues depth used es

abbrev pub FitsCell : ℕ → ℕ → CellExpr → Type 0
FitsCell depth used (t.Whole base) = ⊤
FitsCell depth used (t.At base index) = FitsSum depth used index
FitsCell depth used (t.Field base field) = ⊤

abbrev pub FitsInstance : ℕ → ℕ → Instance → Type 0
FitsInstance depth used i = FitValues depth used i.args

-- ---- propositions

-- the levels that are open behind a proposition, which may stand at the left of a `**`
abbrev pub after_prop : Bool → Prop → ℕ → ℕ
after_prop is_left (t.Star p q) used = closing is_left used (after_prop false q (after_prop true p used) + 1)
after_prop is_left (t.Exists at binders p) used = closing is_left used (after_prop false p used + 1)
after_prop is_left (t.Points at cell perm e) used = after sum e used
after_prop is_left _ used = used

abbrev pub FitsProp : ℕ → ℕ → Bool → Prop → Type 0
FitsProp depth used is_left (t.Emp at) = ⊤
FitsProp depth used is_left (t.Pure at label e) = FitsValue depth used e
FitsProp depth used is_left (t.Star p q) =
    Enclosed is_left depth used (λ d.
    FitsProp d used true p × Opened d (after_prop true p used) (λ inner. FitsProp inner (after_prop true p used) false q))
FitsProp depth used is_left (t.Exists at binders p) = Enclosed is_left depth used (λ d. Opened d used (λ inner. FitsProp inner used false p))
FitsProp depth used is_left (t.Points at cell perm e) = FitsCell depth used cell × FitsSum depth used e
FitsProp depth used is_left (t.Slice at a lo hi perm) = FitsValue depth used a × FitsValue depth used lo × FitsValue depth used hi
FitsProp depth used is_left (t.Block at a n) = FitsValue depth used a × FitsValue depth used n
FitsProp depth used is_left (t.Alive at l perm i) = FitsValue depth used l × FitsInstance depth used i
FitsProp depth used is_left (t.Held at l) = FitsValue depth used l
FitsProp depth used is_left (t.Inv at name i) = FitsValue depth used name × FitsInstance depth used i
FitsProp depth used is_left (t.App i) = FitsInstance depth used i

abbrev pub FitsWhole : ℕ → Prop → Type 0
FitsWhole depth p = FitsProp depth 0 false p

-- ---- statements, each of which begins with no level open

-- one level less has to be there
abbrev pub Below : ℕ → (ℕ → Type 0) → Type 0
Below zero Inner = ⊥
Below (suc depth) Inner = Inner depth

abbrev pub FitInits : ℕ → List Init → Type 0
FitInits depth [] = ⊤
FitInits depth (i ∷ is) = FitsValue depth 0 i.value × FitInits depth is

abbrev pub FitsKey : ℕ → Key → Type 0
FitsKey depth (t.Cell cell) = FitsCell depth 0 cell
FitsKey depth (t.Range a lo hi) = FitsValue depth 0 a × FitsValue depth 0 lo × FitsValue depth 0 hi

abbrev pub FitsAfter : ℕ → Option Prop → Type 0
FitsAfter depth None = ⊤
FitsAfter depth (Some p) = FitsWhole depth p

abbrev mutual
  pub FitsStmt : ℕ → Stmt → Type 0
  FitsStmt depth (t.Let at x e) = FitsValue depth 0 e
  FitsStmt depth (t.Load at x cell is_ghost) = FitsCell depth 0 cell
  FitsStmt depth (t.Store at cell e) = FitsCell depth 0 cell × FitsValue depth 0 e
  FitsStmt depth (t.Alloc at x e) = FitsValue depth 0 e
  FitsStmt depth (t.AllocArray at x e n) = FitsValue depth 0 e × FitsValue depth 0 n
  FitsStmt depth (t.AllocAtomic at x e) = FitsValue depth 0 e
  FitsStmt depth (t.New at x structure inits) = FitInits depth inits
  FitsStmt depth (t.Free at base) = ⊤
  FitsStmt depth (t.FreeArray at base) = ⊤
  FitsStmt depth (t.AtomicRead at x base) = ⊤
  FitsStmt depth (t.AtomicWrite at base e) = FitsValue depth 0 e
  FitsStmt depth (t.Cas at x base old new) = FitsValue depth 0 old × FitsValue depth 0 new
  FitsStmt depth (t.NewLock at x i) = FitsInstance depth 0 i
  FitsStmt depth (t.Acquire at lock) = ⊤
  FitsStmt depth (t.Release at lock) = ⊤
  FitsStmt depth (t.FreeLock at lock) = ⊤
  FitsStmt depth (t.Read at x) = ⊤
  FitsStmt depth (t.Print at e) = FitsValue depth 0 e
  FitsStmt depth (t.Call at x f args) = FitValues depth 0 args
  FitsStmt depth (t.Par at f args g others) = FitValues depth 0 args × FitValues depth 0 others
  FitsStmt depth (t.If at e first second after) = FitsValue depth 0 e × FitsBlock depth first × FitsElse depth second × FitsAfter depth after
  FitsStmt depth (t.While at loads e kept body) = FitStmts depth loads × FitsValue depth 0 e × FitsWhole depth kept × FitsBlock depth body
  FitsStmt depth (t.LetMut at x e) = FitsValue depth 0 e
  FitsStmt depth (t.Return at e) = FitsValue depth 0 e
  FitsStmt depth (t.With at name body after) = FitsBlock depth body × FitsAfter depth after
  FitsStmt depth (t.GLet at x e) = FitsValue depth 0 e
  FitsStmt depth (t.GAlloc at x e) = FitsValue depth 0 e
  FitsStmt depth (t.NewInv at x i) = FitsInstance depth 0 i
  FitsStmt depth (t.Fold at i) = FitsInstance depth 0 i
  FitsStmt depth (t.Unfold at i) = FitsInstance depth 0 i
  FitsStmt depth (t.Rewrite at p q) = FitsWhole depth p × FitsProp depth (after_prop false p 0) false q
  FitsStmt depth (t.Share at key) = FitsKey depth key
  FitsStmt depth (t.Gather at key) = FitsKey depth key
  FitsStmt depth (t.Split at a lo hi m) = FitsValue depth 0 a × FitsValue depth 0 lo × FitsValue depth 0 hi × FitsValue depth 0 m
  FitsStmt depth (t.Join at a lo m hi) = FitsValue depth 0 a × FitsValue depth 0 lo × FitsValue depth 0 m × FitsValue depth 0 hi
  FitsStmt depth (t.Focus at base index) = FitsSum depth 0 index
  FitsStmt depth (t.Unfocus at base index) = FitsSum depth 0 index
  FitsStmt depth (t.Assert at label e hint) = FitsValue depth 0 e
  FitsStmt depth (t.WithAssert at binders p) = FitsWhole depth p
  FitsStmt depth (t.Drop at p) = FitsWhole depth p

  pub FitStmts : ℕ → Stmts → Type 0
  FitStmts depth t.end = ⊤
  FitStmts depth (t.more s rest) = FitsStmt depth s × FitStmts depth rest

  pub FitsBlock : ℕ → Braced → Type 0
  FitsBlock depth (t.braces list close) = Below depth (λ d. FitStmts d list)

  pub FitsElse : ℕ → Else → Type 0
  FitsElse depth t.no_else = ⊤
  FitsElse depth (t.else second) = FitsBlock depth second

-- ---- declarations

abbrev pub FitsBody : ℕ → Body → Type 0
FitsBody depth (t.Plain p) = FitsWhole depth p
FitsBody depth (t.Cond e p q) = FitsValue depth 0 e × Below depth (λ d. FitsWhole d p) × Below depth (λ d. FitsWhole d q)

abbrev pub FitsMeasure : ℕ → Option Expr → Type 0
FitsMeasure depth None = ⊤
FitsMeasure depth (Some e) = FitsValue depth 0 e

abbrev pub FitsDecl : ℕ → Decl → Type 0
FitsDecl depth (t.Struct s) = ⊤
FitsDecl depth (t.Pred p) = FitsBody depth p.body
FitsDecl depth (t.Fun f) = FitsWhole depth f.before × FitsWhole depth f.after × FitsMeasure depth f.measure × FitsBlock depth f.body

abbrev pub FitDecls : ℕ → List Decl → Type 0
FitDecls depth [] = ⊤
FitDecls depth (d ∷ ds) = FitsDecl depth d × FitDecls depth ds

-- The text of a program opens at most so many levels. Brackets stand only where the grammar needs them, so it may open more
-- than the text that was read.
unfoldable pub Fits : ℕ → Program → Type 0
Fits depth p = FitDecls depth p.decls
