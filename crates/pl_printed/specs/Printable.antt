-- What each program is like that was read: its names, numbers, permissions, lists and classes are such as can be written.
use Rattle.std.specs.Prelude.{◌≡◌, ◌^◌, ◌<◌, suc, ℤ, pos, negsuc, Bool, true, false, List, [], ◌∷◌, Option, Some, None, ⊤}
use Rattle.pl_base.specs.Fraction.{IsFraction}
use Rattle.pl_lexer.specs.Proper.{IsName}
use Rattle.pl_syntax.specs.declared.expr.Class.{Class}
use Rattle.pl_syntax.specs.declared.expr.Class.TheVariants as c
use Rattle.pl_syntax.specs.declared.expr.Sort.{Sort}
use Rattle.pl_syntax.specs.declared.expr.Sort.TheVariants as v
use Rattle.pl_syntax.specs.declared.expr.Binder.{Binder}
use Rattle.pl_syntax.specs.declared.expr.PermExpr.{PermExpr}
use Rattle.pl_syntax.specs.declared.stmt.Hint.{Hint}
use Rattle.pl_syntax.specs.declared.stmt.HintTerm.{HintTerm}
use Rattle.pl_syntax.specs.Tree as t
use Rattle.pl_syntax.specs.Tree.{Expr, CellExpr, Instance, Prop, Body, Init, Key, Stmt, Stmts, Braced, Else, Decl, Program}

-- a list has an element
abbrev pub HasOne : {A : Type 0} → List A → Type 0
HasOne [] = ⊥
HasOne (x ∷ xs) = ⊤

-- what holds of an optional part
abbrev pub IfSome : {A : Type 0} → (A → Type 0) → Option A → Type 0
IfSome P None = ⊤
IfSome P (Some x) = P x

-- what holds of each
abbrev pub Each : {A : Type 0} → (A → Type 0) → List A → Type 0
Each P [] = ⊤
Each P (x ∷ xs) = P x × Each P xs

-- a number that a literal may have, with a minus in front of it where it is below 0
abbrev pub IsLiteral : ℤ → Type 0
IsLiteral (pos n) = n < 2 ^ 127
IsLiteral (negsuc n) = suc n < 2 ^ 127

abbrev pub IsExpr : Expr → Type 0
IsExpr (t.Int at n) = IsLiteral n
IsExpr (t.Truth at b) = ⊤
IsExpr (t.Null at) = ⊤
IsExpr (t.Var at x) = IsName x
IsExpr (t.Neg at e) = IsExpr e
IsExpr (t.Not at e) = IsExpr e
IsExpr (t.Bin at o a b) = IsExpr a × IsExpr b

abbrev pub IsCell : CellExpr → Type 0
IsCell (t.Whole base) = IsName base
IsCell (t.At base index) = IsName base × IsExpr index
IsCell (t.Field base field) = IsName base × IsName field

abbrev pub IsInstance : Instance → Type 0
IsInstance i = IsName i.pred × Each IsExpr i.args

-- a part above 0 and at most 1, in lowest terms and with a denominator within the limit
abbrev pub IsPerm : PermExpr → Type 0
IsPerm q = IsFraction q.part.0 q.part.1 × IfSome IsName q.var

abbrev pub IsSort : Sort → Type 0
IsSort (v.RefStruct s) = IsName s
IsSort _ = ⊤

-- a binder of a class
abbrev pub IsBinder : Class → Binder → Type 0
IsBinder class b = IsName b.name × IsSort b.sort × (b.class ≡ class)

abbrev pub IsProp : Prop → Type 0
IsProp (t.Emp at) = ⊤
IsProp (t.Pure at label e) = IfSome IsName label × IsExpr e
IsProp (t.Star p q) = IsProp p × IsProp q
IsProp (t.Exists at binders p) = HasOne binders × Each (IsBinder c.Logical) binders × IsProp p
IsProp (t.Points at cell perm e) = IsCell cell × IsPerm perm × IsExpr e
IsProp (t.Slice at a lo hi perm) = IsExpr a × IsExpr lo × IsExpr hi × IsPerm perm
IsProp (t.Block at a n) = IsExpr a × IsExpr n
IsProp (t.Alive at l perm i) = IsExpr l × IsPerm perm × IsInstance i
IsProp (t.Held at l) = IsExpr l
IsProp (t.Inv at name i) = IsExpr name × IsInstance i
IsProp (t.App i) = IsInstance i

abbrev pub IsInit : Init → Type 0
IsInit i = IsName i.name × IsExpr i.value

abbrev pub IsKey : Key → Type 0
IsKey (t.Cell cell) = IsCell cell
IsKey (t.Range a lo hi) = IsExpr a × IsExpr lo × IsExpr hi

-- the number of a fact, which has no minus
abbrev pub IsMultiple : ℤ → Type 0
IsMultiple (pos n) = n < 2 ^ 127
IsMultiple (negsuc n) = ⊥

abbrev pub IsTerm : HintTerm → Type 0
IsTerm h = IsMultiple h.times × IsName h.label

abbrev pub IsHint : Hint → Type 0
IsHint h = HasOne h.terms × Each IsTerm h.terms

-- a load that is not of a ghost name, as the head of a loop has it
abbrev pub IsLoad : Stmt → Type 0
IsLoad (t.Load at x cell false) = IsName x × IsCell cell
IsLoad _ = ⊥

abbrev pub AreLoads : Stmts → Type 0
AreLoads t.end = ⊤
AreLoads (t.more s rest) = IsLoad s × AreLoads rest

abbrev mutual
  pub IsStmt : Stmt → Type 0
  IsStmt (t.Let at x e) = IsName x × IsExpr e
  IsStmt (t.Load at x cell is_ghost) = IsName x × IsCell cell
  IsStmt (t.Store at cell e) = IsCell cell × IsExpr e
  IsStmt (t.Alloc at x e) = IsName x × IsExpr e
  IsStmt (t.AllocArray at x e n) = IsName x × IsExpr e × IsExpr n
  IsStmt (t.AllocAtomic at x e) = IsName x × IsExpr e
  IsStmt (t.New at x structure inits) = IsName x × IsName structure × HasOne inits × Each IsInit inits
  IsStmt (t.Free at base) = IsName base
  IsStmt (t.FreeArray at base) = IsName base
  IsStmt (t.AtomicRead at x base) = IsName x × IsName base
  IsStmt (t.AtomicWrite at base e) = IsName base × IsExpr e
  IsStmt (t.Cas at x base old new) = IsName x × IsName base × IsExpr old × IsExpr new
  IsStmt (t.NewLock at x i) = IsName x × IsInstance i
  IsStmt (t.Acquire at lock) = IsName lock
  IsStmt (t.Release at lock) = IsName lock
  IsStmt (t.FreeLock at lock) = IsName lock
  IsStmt (t.Read at x) = IsName x
  IsStmt (t.Print at e) = IsExpr e
  IsStmt (t.Call at x f args) = IfSome IsName x × IsName f × Each IsExpr args
  IsStmt (t.Par at f args g others) = IsName f × Each IsExpr args × IsName g × Each IsExpr others
  IsStmt (t.If at e first second after) = IsExpr e × IsBlock first × IsElse second × IfSome IsProp after
  IsStmt (t.While at loads e kept body) = AreLoads loads × IsExpr e × IsProp kept × IsBlock body
  IsStmt (t.LetMut at x e) = IsName x × IsExpr e
  IsStmt (t.Return at e) = IsExpr e
  IsStmt (t.With at name body after) = IsName name × IsBlock body × IfSome IsProp after
  IsStmt (t.GLet at x e) = IsName x × IsExpr e
  IsStmt (t.GAlloc at x e) = IsName x × IsExpr e
  IsStmt (t.NewInv at x i) = IsName x × IsInstance i
  IsStmt (t.Fold at i) = IsInstance i
  IsStmt (t.Unfold at i) = IsInstance i
  IsStmt (t.Rewrite at p q) = IsProp p × IsProp q
  IsStmt (t.Share at key) = IsKey key
  IsStmt (t.Gather at key) = IsKey key
  IsStmt (t.Split at a lo hi m) = IsExpr a × IsExpr lo × IsExpr hi × IsExpr m
  IsStmt (t.Join at a lo m hi) = IsExpr a × IsExpr lo × IsExpr m × IsExpr hi
  IsStmt (t.Focus at base index) = IsName base × IsExpr index
  IsStmt (t.Unfocus at base index) = IsName base × IsExpr index
  IsStmt (t.Assert at label e hint) = IfSome IsName label × IsExpr e × IfSome IsHint hint
  IsStmt (t.WithAssert at binders p) = HasOne binders × Each (IsBinder c.Logical) binders × IsProp p
  IsStmt (t.Drop at p) = IsProp p

  pub AreStmts : Stmts → Type 0
  AreStmts t.end = ⊤
  AreStmts (t.more s rest) = IsStmt s × AreStmts rest

  pub IsBlock : Braced → Type 0
  IsBlock (t.braces list close) = AreStmts list

  pub IsElse : Else → Type 0
  IsElse t.no_else = ⊤
  IsElse (t.else second) = IsBlock second

abbrev pub IsBody : Body → Type 0
IsBody (t.Plain p) = IsProp p
IsBody (t.Cond e p q) = IsExpr e × IsProp p × IsProp q

-- the class of a parameter: a ghost function has none that is real
abbrev pub MayHave : Bool → Class → Type 0
MayHave true c.Real = ⊥
MayHave _ _ = ⊤

abbrev pub IsParam : Bool → Binder → Type 0
IsParam is_ghost b = IsName b.name × IsSort b.sort × MayHave is_ghost b.class

abbrev pub IsDecl : Decl → Type 0
IsDecl (t.Struct s) = IsName s.name × HasOne s.fields × Each (IsBinder c.Real) s.fields
IsDecl (t.Pred p) = IsName p.name × Each (IsBinder c.Logical) p.params × IsBody p.body
IsDecl (t.Fun f) =
    IsName f.name × Each (IsParam f.is_ghost) f.params × IsProp f.before × IfSome (IsBinder c.Real) f.result × IsProp f.after
    × IfSome IsExpr f.measure × IsBlock f.body

unfoldable pub IsPrintable : Program → Type 0
IsPrintable p = Each IsDecl p.decls
