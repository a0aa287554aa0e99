-- The forms: which trees have a text that stands for them alone, and how deep they nest.
use Rattle.std.specs.Prelude.{◌≢◌, ⊤, ℕ, suc, ◌≤◌, max, pos, negsuc, [], FitsSigned}
use Rattle.std.specs.Int.{w64}
use Rattle.std.specs.List.{AllByRecursion}
use Rattle.c_syntax.specs.declared.kind.CType.{CType}
use Rattle.c_syntax.specs.declared.kind.CType.TheVariants as kind
use Rattle.c_syntax.specs.declared.program.CStruct.{CStruct}
use Rattle.c_syntax.specs.Tree as t
use Rattle.c_syntax.specs.Tree.{Name, Expr, Cell, Init, Stmt, Stmts, Fun, Program}

-- ---- nesting

-- how many brackets that begin an expression stand inside one another
abbrev pub expr_depth : Expr → ℕ
expr_depth (t.Int (pos n)) = 0
expr_depth (t.Int (negsuc n)) = 1
expr_depth (t.Truth b) = 0
expr_depth t.Null = 0
expr_depth (t.Var x) = 0
expr_depth (t.Neg e) = suc (expr_depth e)
expr_depth (t.Not e) = suc (expr_depth e)
expr_depth (t.Bin op a b) = suc (max (expr_depth a) (expr_depth b))

abbrev mutual
  -- how many blocks stand inside one another in a statement; a `par` is one, and the braces round `break;` are none
  pub stmt_depth : Stmt → ℕ
  stmt_depth (t.Par f args g others) = 1
  stmt_depth (t.If e first second) = suc (max (stmts_depth first) (stmts_depth second))
  stmt_depth (t.While loads e body) = suc (max (stmts_depth loads) (stmts_depth body))
  stmt_depth _ = 0

  -- how many blocks stand inside one another in statements
  pub stmts_depth : Stmts → ℕ
  stmts_depth t.end = 0
  stmts_depth (t.more s rest) = max (stmt_depth s) (stmts_depth rest)

-- blocks nest to here, a function's body being the first, and so do brackets that begin an expression
abbrev pub deepest : ℕ
deepest = 128

-- ---- expressions

-- a literal above 0, whose negation is spelled as another literal is
abbrev pub IsAboveZero : Expr → Type 0
IsAboveZero (t.Int (pos (suc n))) = ⊤
IsAboveZero _ = ⊥

-- each literal is an int64_t, and none above 0 is negated
abbrev pub HasLiterals : Expr → Type 0
HasLiterals (t.Int n) = FitsSigned w64 n
HasLiterals (t.Neg e) = (¬ IsAboveZero e) × HasLiterals e
HasLiterals (t.Not e) = HasLiterals e
HasLiterals (t.Bin op a b) = HasLiterals a × HasLiterals b
HasLiterals _ = ⊤

-- an expression of the forms
pub record IsExprForm (e : Expr) : Type 0 where
  pub literals : HasLiterals e
  pub depth : expr_depth e ≤ deepest

-- a cell of the forms
abbrev pub IsCellForm : Cell → Type 0
IsCellForm (t.At base index) = IsExprForm index
IsCellForm _ = ⊤

-- a first value of the forms
abbrev pub IsInitForm : Init → Type 0
IsInitForm i = IsExprForm i.value

-- ---- statements

-- what makes one cell is spelled for numbers and for truth values
abbrev pub IsMade : CType → Type 0
IsMade kind.PtrI64 = ⊤
IsMade kind.PtrBool = ⊤
IsMade _ = ⊥

-- in the head of a loop stand loads alone
abbrev pub AreLoads : Stmts → Type 0
AreLoads t.end = ⊤
AreLoads (t.more (t.Load type x cell) rest) = AreLoads rest
AreLoads _ = ⊥

abbrev mutual
  -- a statement of the forms
  pub IsStmtForm : Stmt → Type 0
  IsStmtForm (t.Let type x e) = IsExprForm e
  IsStmtForm (t.Load type x cell) = IsCellForm cell
  IsStmtForm (t.Store cell e) = IsCellForm cell × IsExprForm e
  IsStmtForm (t.New type x e) = IsMade type × IsExprForm e
  IsStmtForm (t.NewArray type x e count) = IsExprForm e × IsExprForm count
  IsStmtForm (t.NewAtomic x e) = IsExprForm e
  IsStmtForm (t.NewStruct x s inits) = AllByRecursion IsInitForm inits
  IsStmtForm (t.AtomicStore base e) = IsExprForm e
  IsStmtForm (t.Cas x base old new) = IsExprForm old × IsExprForm new
  IsStmtForm (t.Print e) = IsExprForm e
  IsStmtForm (t.Call f args) = AllByRecursion IsExprForm args
  IsStmtForm (t.CallLet type x f args) = AllByRecursion IsExprForm args
  IsStmtForm (t.Par f args g others) = AllByRecursion IsExprForm args × AllByRecursion IsExprForm others
  IsStmtForm (t.If e first second) = IsExprForm e × AreStmtForms first × AreStmtForms second
  IsStmtForm (t.While loads e body) = AreLoads loads × AreStmtForms loads × IsExprForm e × AreStmtForms body
  IsStmtForm (t.Return e) = IsExprForm e
  IsStmtForm _ = ⊤

  -- statements of the forms
  pub AreStmtForms : Stmts → Type 0
  AreStmtForms t.end = ⊤
  AreStmtForms (t.more s rest) = IsStmtForm s × AreStmtForms rest

-- ---- programs

-- a structure has a member (C11 6.7.2.1)
abbrev pub IsStructForm : CStruct → Type 0
IsStructForm s = s.members ≢ []

-- a function of the forms
pub record IsFunForm (f : Fun) : Type 0 where
  pub body : AreStmtForms f.body
  pub depth : suc (stmts_depth f.body) ≤ deepest

-- a program of the forms, but for its names
pub record IsProgramForm (p : Program) : Type 0 where
  pub structs : AllByRecursion IsStructForm p.structs
  pub funs : AllByRecursion IsFunForm p.funs
