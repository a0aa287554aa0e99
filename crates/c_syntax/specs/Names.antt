-- The names of a program: P holds of each of them.
use Rattle.std.specs.Prelude.{⊤}
use Rattle.std.specs.List.{AllByRecursion}
use Rattle.c_syntax.specs.declared.kind.CType.{CType}
use Rattle.c_syntax.specs.declared.kind.CType.TheVariants as kind
use Rattle.c_syntax.specs.declared.program.CMember.{CMember}
use Rattle.c_syntax.specs.declared.program.CParam.{CParam}
use Rattle.c_syntax.specs.declared.program.CStruct.{CStruct}
use Rattle.c_syntax.specs.Tree as t
use Rattle.c_syntax.specs.Tree.{Name, Expr, Cell, Init, Stmt, Stmts, Fun, Program}

-- the names of an expression
abbrev pub ExprNames : (Name → Type 0) → Expr → Type 0
ExprNames P (t.Var x) = P x.name
ExprNames P (t.Neg e) = ExprNames P e
ExprNames P (t.Not e) = ExprNames P e
ExprNames P (t.Bin op a b) = ExprNames P a × ExprNames P b
ExprNames P _ = ⊤

-- the names of a cell
abbrev pub CellNames : (Name → Type 0) → Cell → Type 0
CellNames P (t.Whole base) = P base.name
CellNames P (t.At base index) = P base.name × ExprNames P index
CellNames P (t.Field base member) = P base.name × P member

-- the names of a first value
abbrev pub InitNames : (Name → Type 0) → Init → Type 0
InitNames P i = P i.name × ExprNames P i.value

-- the names of a type
abbrev pub TypeNames : (Name → Type 0) → CType → Type 0
TypeNames P (kind.PtrStruct s) = P s
TypeNames P _ = ⊤

abbrev mutual
  -- the names of a statement
  pub StmtNames : (Name → Type 0) → Stmt → Type 0
  StmtNames P (t.Let type x e) = TypeNames P type × P x.name × ExprNames P e
  StmtNames P (t.Load type x cell) = TypeNames P type × P x.name × CellNames P cell
  StmtNames P (t.Store cell e) = CellNames P cell × ExprNames P e
  StmtNames P (t.New type x e) = TypeNames P type × P x.name × ExprNames P e
  StmtNames P (t.NewArray type x e count) = TypeNames P type × P x.name × ExprNames P e × ExprNames P count
  StmtNames P (t.NewAtomic x e) = P x.name × ExprNames P e
  StmtNames P (t.NewStruct x s inits) = P x.name × P s × AllByRecursion (InitNames P) inits
  StmtNames P (t.Free base) = P base.name
  StmtNames P (t.AtomicLoad x base) = P x.name × P base.name
  StmtNames P (t.AtomicStore base e) = P base.name × ExprNames P e
  StmtNames P (t.Cas x base old new) = P x.name × P base.name × ExprNames P old × ExprNames P new
  StmtNames P (t.NewLock x) = P x.name
  StmtNames P (t.Acquire lock) = P lock.name
  StmtNames P (t.Release lock) = P lock.name
  StmtNames P (t.Read x) = P x.name
  StmtNames P (t.Print e) = ExprNames P e
  StmtNames P (t.Call f args) = P f × AllByRecursion (ExprNames P) args
  StmtNames P (t.CallLet type x f args) = TypeNames P type × P x.name × P f × AllByRecursion (ExprNames P) args
  StmtNames P (t.Par f args g others) = P f × AllByRecursion (ExprNames P) args × P g × AllByRecursion (ExprNames P) others
  StmtNames P (t.If e first second) = ExprNames P e × StmtsNames P first × StmtsNames P second
  StmtNames P (t.While loads e body) = StmtsNames P loads × ExprNames P e × StmtsNames P body
  StmtNames P (t.Return e) = ExprNames P e

  -- the names of statements
  pub StmtsNames : (Name → Type 0) → Stmts → Type 0
  StmtsNames P t.end = ⊤
  StmtsNames P (t.more s rest) = StmtNames P s × StmtsNames P rest

-- the names of a member
abbrev pub MemberNames : (Name → Type 0) → CMember → Type 0
MemberNames P m = P m.name × TypeNames P m.kind

-- the names of a parameter
abbrev pub ParamNames : (Name → Type 0) → CParam → Type 0
ParamNames P p = P p.local.name × TypeNames P p.kind

-- the names of a structure
abbrev pub StructNames : (Name → Type 0) → CStruct → Type 0
StructNames P s = P s.name × AllByRecursion (MemberNames P) s.members

-- the names of a function
abbrev pub FunNames : (Name → Type 0) → Fun → Type 0
FunNames P f = P f.name × TypeNames P f.result × AllByRecursion (ParamNames P) f.params × StmtsNames P f.body

-- the names of a program
abbrev pub ProgramNames : (Name → Type 0) → Program → Type 0
ProgramNames P p = AllByRecursion (StructNames P) p.structs × AllByRecursion (FunNames P) p.funs
