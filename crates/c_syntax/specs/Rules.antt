-- The rules that a program of the fragment keeps besides its forms: sorts, names, and the numbers of locals.
use Rattle.std.specs.Prelude.{◌≡◌, ⊤, ◌⊎◌, ℕ, suc, ◌+◌, ◌==◌, ◌&&◌, Bool, Option, Some, None, IsSome, if◌then◌else◌, List, [], ◌∷◌, ◌++◌, length, map, codes, MatchOption, option_and_then}
use Rattle.std.specs.List.{AllByRecursion, IsDistinct}
use Rattle.std.specs.Str.{bytes_eq}
use Rattle.c_syntax.specs.declared.kind.CType.{CType}
use Rattle.c_syntax.specs.declared.kind.CType.TheVariants as kind
use Rattle.c_syntax.specs.declared.kind.Local.{Local}
use Rattle.c_syntax.specs.declared.expr.COp.{COp}
use Rattle.c_syntax.specs.declared.expr.COp.TheVariants as op
use Rattle.c_syntax.specs.declared.program.CMember.{CMember}
use Rattle.c_syntax.specs.declared.program.CParam.{CParam}
use Rattle.c_syntax.specs.declared.program.CStruct.{CStruct}
use Rattle.c_syntax.specs.Tree as t
use Rattle.c_syntax.specs.Tree.{Name, Expr, Cell, Init, Stmt, Stmts, Fun, Program}

-- ---- what is bound

-- what is bound where a statement stands, each local with its type, and the number of the next binder
pub record Scope : Type 0 where
  pub bound : List CParam
  pub next : ℕ

-- a use names its binder by name and number
abbrev pub is_same : Local → Local → Bool
is_same x y = bytes_eq x.name y.name && (x.number == y.number)

-- the type of a local
abbrev pub type_of : List CParam → Local → Option CType
type_of [] x = None
type_of (b ∷ bs) x = if is_same x b.local then Some b.kind else type_of bs x

-- locals are numbered in text order
abbrev pub AreNumbered : ℕ → List CParam → Type 0
AreNumbered n [] = ⊤
AreNumbered n (b ∷ bs) = (b.local.number ≡ n) × AreNumbered (suc n) bs

-- the members of the structure of that name
abbrev pub members_of : List CStruct → Name → Option (List CMember)
members_of [] s = None
members_of (d ∷ ds) s = if bytes_eq s d.name then Some d.members else members_of ds s

-- the type of the member of that name
abbrev pub type_of_member : List CMember → Name → Option CType
type_of_member [] m = None
type_of_member (d ∷ ds) m = if bytes_eq m d.name then Some d.kind else type_of_member ds m

-- the function of that name
abbrev pub function_of : List Fun → Name → Option Fun
function_of [] f = None
function_of (d ∷ ds) f = if bytes_eq f d.name then Some d else function_of ds f

-- ---- types

-- what a cell holds to which a pointer points
abbrev pub element : CType → Option CType
element kind.PtrI64 = Some kind.I64
element kind.PtrBool = Some kind.Bool
element _ = None

-- a pointer that may be null
abbrev pub IsNullable : CType → Type 0
IsNullable kind.PtrI64 = ⊤
IsNullable kind.PtrBool = ⊤
IsNullable (kind.PtrStruct s) = ⊤
IsNullable _ = ⊥

-- a pointer to a block or a lock
abbrev pub IsPointer : CType → Type 0
IsPointer kind.Void = ⊥
IsPointer kind.I64 = ⊥
IsPointer kind.Bool = ⊥
IsPointer _ = ⊤

-- the type of a value, whose structure is declared somewhere in the program
abbrev pub IsValueType : List CStruct → CType → Type 0
IsValueType structs kind.Void = ⊥
IsValueType structs (kind.PtrStruct s) = IsSome (members_of structs s)
IsValueType structs _ = ⊤

-- ---- expressions

-- the type of the operands of an operator, where there is one
abbrev pub operand : COp → Option CType
operand op.Eq = None
operand op.Ne = None
operand op.And = Some kind.Bool
operand op.Or = Some kind.Bool
operand _ = Some kind.I64

-- the type of what an operator gives
abbrev pub outcome : COp → CType
outcome op.Add = kind.I64
outcome op.Sub = kind.I64
outcome op.Mul = kind.I64
outcome op.Div = kind.I64
outcome op.Rem = kind.I64
outcome _ = kind.Bool

-- NULL, where a null pointer of this type is wanted
abbrev pub NullFits : Expr → CType → Type 0
NullFits t.Null type = IsNullable type
NullFits _ type = ⊥

-- two sides of one type, or NULL and a side of a type that it fits; A and B are the types that they have
abbrev pub AreAlike : (A B : CType → Type 0) → Expr → Expr → Type 0
AreAlike A B a b = (type : CType) × ((A type × B type) ⊎ (A type × NullFits b type) ⊎ (NullFits a type × B type))

-- the type of an expression, by the types of the locals; NULL has none of its own
abbrev pub HasType : List CParam → Expr → CType → Type 0
HasType bound (t.Int n) type = type ≡ kind.I64
HasType bound (t.Truth b) type = type ≡ kind.Bool
HasType bound t.Null type = ⊥
HasType bound (t.Var x) type = type_of bound x ≡ Some type
HasType bound (t.Neg e) type = (type ≡ kind.I64) × HasType bound e kind.I64
HasType bound (t.Not e) type = (type ≡ kind.Bool) × HasType bound e kind.Bool
HasType bound (t.Bin op a b) type =
    (type ≡ outcome op) ×
    MatchOption (operand op) (AreAlike (HasType bound a) (HasType bound b) a b) (λ both. HasType bound a both × HasType bound b both)

-- an expression may stand where this type is wanted
abbrev pub Fits : List CParam → Expr → CType → Type 0
Fits bound e type = HasType bound e type ⊎ NullFits e type

-- ---- cells and lists

-- the type of what a cell holds; an atomic cell is none of these
abbrev pub CellHasType : List CStruct → List CParam → Cell → CType → Type 0
CellHasType structs bound (t.Whole base) type = option_and_then element (type_of bound base) ≡ Some type
CellHasType structs bound (t.At base index) type = (option_and_then element (type_of bound base) ≡ Some type) × HasType bound index kind.I64
CellHasType structs bound (t.Field base member) type =
    (s : Name) × (members : List CMember) × (type_of bound base ≡ Some (kind.PtrStruct s)) × (members_of structs s ≡ Some members) × (type_of_member members member ≡ Some type)

-- an argument for each parameter
abbrev pub ArgumentsFit : List CParam → List Expr → List CParam → Type 0
ArgumentsFit bound [] [] = ⊤
ArgumentsFit bound (e ∷ es) (p ∷ ps) = Fits bound e p.kind × ArgumentsFit bound es ps
ArgumentsFit bound _ _ = ⊥

-- a first value for each member, in order
abbrev pub InitsFit : List CParam → List Init → List CMember → Type 0
InitsFit bound [] [] = ⊤
InitsFit bound (i ∷ is) (m ∷ ms) = (i.name ≡ m.name) × Fits bound i.value m.kind × InitsFit bound is ms
InitsFit bound _ _ = ⊥

-- a call of a function of the program with that result
abbrev pub CallFits : Program → List CParam → Name → List Expr → CType → Type 0
CallFits p bound f args result = (g : Fun) × (function_of p.funs f ≡ Some g) × (g.result ≡ result) × ArgumentsFit bound args g.params

-- ---- statements

-- a local with its type
abbrev pub typed : CType → Local → CParam
typed type x = record { local = x; kind = type }

-- what a statement binds for those behind it
abbrev pub bound_by : Stmt → List CParam
bound_by (t.Let type x e) = typed type x ∷ []
bound_by (t.Load type x cell) = typed type x ∷ []
bound_by (t.New type x e) = typed type x ∷ []
bound_by (t.NewArray type x e count) = typed type x ∷ []
bound_by (t.NewAtomic x e) = typed kind.PtrAtomic x ∷ []
bound_by (t.NewStruct x s inits) = typed (kind.PtrStruct s) x ∷ []
bound_by (t.AtomicLoad x base) = typed kind.I64 x ∷ []
bound_by (t.Cas x base old new) = typed kind.Bool x ∷ []
bound_by (t.NewLock x) = typed kind.PtrLock x ∷ []
bound_by (t.Read x) = typed kind.I64 x ∷ []
bound_by (t.CallLet type x f args) = typed type x ∷ []
bound_by _ = []

abbrev mutual
  -- how many locals a statement binds, in its blocks too
  pub binders : Stmt → ℕ
  binders (t.If e first second) = stmts_binders first + stmts_binders second
  binders (t.While loads e body) = stmts_binders loads + stmts_binders body
  binders s = length (bound_by s)

  -- how many locals statements bind
  pub stmts_binders : Stmts → ℕ
  stmts_binders t.end = 0
  stmts_binders (t.more s rest) = binders s + stmts_binders rest

-- what is bound behind a statement: what a block binds is bound in it alone, but is counted
abbrev pub after : Scope → Stmt → Scope
after scope s = record { bound = bound_by s ++ scope.bound; next = scope.next + binders s }

-- what is bound behind statements
abbrev pub after_all : Scope → Stmts → Scope
after_all scope t.end = scope
after_all scope (t.more s rest) = after_all (after scope s) rest

-- the same locals, after that many further binders
abbrev pub moved : Scope → ℕ → Scope
moved scope n = record { bound = scope.bound; next = scope.next + n }

abbrev mutual
  -- a statement keeps the rules; a `return` keeps them at a function's end alone
  pub StmtFits : Program → Scope → Stmt → Type 0
  StmtFits p scope (t.Let type x e) = HasType scope.bound e type
  StmtFits p scope (t.Load type x cell) = CellHasType p.structs scope.bound cell type
  StmtFits p scope (t.Store cell e) = (type : CType) × CellHasType p.structs scope.bound cell type × Fits scope.bound e type
  StmtFits p scope (t.New type x e) = (held : CType) × (element type ≡ Some held) × HasType scope.bound e held
  StmtFits p scope (t.NewArray type x e count) = (type ≡ kind.PtrI64) × HasType scope.bound e kind.I64 × HasType scope.bound count kind.I64
  StmtFits p scope (t.NewAtomic x e) = HasType scope.bound e kind.I64
  StmtFits p scope (t.NewStruct x s inits) = (members : List CMember) × (members_of p.structs s ≡ Some members) × InitsFit scope.bound inits members
  StmtFits p scope (t.Free base) = (type : CType) × (type_of scope.bound base ≡ Some type) × IsPointer type
  StmtFits p scope (t.AtomicLoad x base) = type_of scope.bound base ≡ Some kind.PtrAtomic
  StmtFits p scope (t.AtomicStore base e) = (type_of scope.bound base ≡ Some kind.PtrAtomic) × HasType scope.bound e kind.I64
  StmtFits p scope (t.Cas x base old new) =
      (type_of scope.bound base ≡ Some kind.PtrAtomic) × HasType scope.bound old kind.I64 × HasType scope.bound new kind.I64
  StmtFits p scope (t.NewLock x) = ⊤
  StmtFits p scope (t.Acquire lock) = type_of scope.bound lock ≡ Some kind.PtrLock
  StmtFits p scope (t.Release lock) = type_of scope.bound lock ≡ Some kind.PtrLock
  StmtFits p scope (t.Read x) = ⊤
  StmtFits p scope (t.Print e) = HasType scope.bound e kind.I64
  StmtFits p scope (t.Call f args) = CallFits p scope.bound f args kind.Void
  StmtFits p scope (t.CallLet type x f args) = CallFits p scope.bound f args type × IsValueType p.structs type
  StmtFits p scope (t.Par f args g others) = CallFits p scope.bound f args kind.Void × CallFits p scope.bound g others kind.Void
  StmtFits p scope (t.If e first second) =
      HasType scope.bound e kind.Bool × StmtsFit p scope first × StmtsFit p (moved scope (stmts_binders first)) second
  StmtFits p scope (t.While loads e body) =
      let inside = after_all scope loads in
      StmtsFit p scope loads × HasType inside.bound e kind.Bool × StmtsFit p inside body
  StmtFits p scope (t.Return e) = ⊥

  -- statements keep the rules, each where those before it are bound
  pub StmtsFit : Program → Scope → Stmts → Type 0
  StmtsFit p scope t.end = ⊤
  StmtsFit p scope (t.more s rest) = AreNumbered scope.next (bound_by s) × StmtFits p scope s × StmtsFit p (after scope s) rest

-- the statements of a function: one with a result ends with its only `return`, and one without has none
abbrev pub BodyFits : Program → CType → Scope → Stmts → Type 0
BodyFits p result scope t.end = result ≡ kind.Void
BodyFits p result scope (t.more (t.Return e) t.end) = IsValueType p.structs result × Fits scope.bound e result
BodyFits p result scope (t.more s rest) = AreNumbered scope.next (bound_by s) × StmtFits p scope s × BodyFits p result (after scope s) rest

-- ---- programs

-- the members of a structure have names of their own and are values
abbrev pub StructFits : Program → CStruct → Type 0
StructFits p s = IsDistinct bytes_eq (map (λ m. m.name) s.members) × AllByRecursion (λ m. IsValueType p.structs m.kind) s.members

-- the parameters of a function have names of their own, are numbered from 1 and are values, and its statements keep the rules
pub record FunFits (p : Program) (f : Fun) : Type 0 where
  pub names : IsDistinct bytes_eq (map (λ q. q.local.name) f.params)
  pub numbers : AreNumbered 1 f.params
  pub types : AllByRecursion (λ q. IsValueType p.structs q.kind) f.params
  pub body : BodyFits p f.result (record { bound = f.params; next = 1 + length f.params }) f.body

-- a program begins with a function `main` that has no parameters and no result
abbrev pub HasMain : Program → Type 0
HasMain p = (f : Fun) × (function_of p.funs (codes "main") ≡ Some f) × (f.params ≡ []) × (f.result ≡ kind.Void)

-- a program keeps the rules; structures and functions share one set of names
pub record KeepsRules (p : Program) : Type 0 where
  pub names : IsDistinct bytes_eq (map (λ s. s.name) p.structs ++ map (λ f. f.name) p.funs)
  pub structs : AllByRecursion (StructFits p) p.structs
  pub funs : AllByRecursion (FunFits p) p.funs
  pub main : HasMain p
