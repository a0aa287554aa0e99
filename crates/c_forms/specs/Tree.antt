-- What is written, as plain data: the program's own trees without the places in memory of their parts.
use Rattle.std.specs.Prelude.{ℕ, ℤ, Bool, List}
use Rattle.c_syntax.specs.declared.kind.CType.{CType}
use Rattle.c_syntax.specs.declared.expr.COp.{COp}
use Rattle.c_forms.specs.declared.word.Number.{Number}
use Rattle.c_forms.specs.declared.word.Local.{Local}
use Rattle.c_forms.specs.declared.stmt.Maker.{Maker}
use Rattle.c_forms.specs.declared.source.Struct.{Struct}
use Rattle.c_forms.specs.declared.source.Head.{Head}
use Rattle.c_forms.specs.declared.source.Starter.{Starter}

-- a name is its bytes in UTF-8
abbrev pub Name : Type 0
Name = List ℕ

-- an expression
pub data Expr : Type 0 where
  Int : (n : ℤ) → Expr
  Truth : (b : Bool) → Expr
  Null : Expr
  Var : (x : Local) → Expr
  Neg : (e : Expr) → Expr
  Not : (e : Expr) → Expr
  Bin : (op : COp) (a b : Expr) → Expr

-- a cell
pub data Cell : Type 0 where
  Whole : (base : Local) → Cell
  At : (base : Local) (index : Expr) → Cell
  Field : (base : Local) (member : Name) → Cell

-- what stands behind the `=` of a line that binds a local
pub data Right : Type 0 where
  Value : (e : Expr) → Right
  Load : (cell : Cell) → Right
  New : (maker : Maker) (e : Expr) → Right
  Array : (e count : Expr) → Right
  Structure : (structure : Name) → Right
  Lock : Right
  Call : (f : Name) (args : List Expr) → Right
  AtomicLoad : (base : Local) → Right
  Read : Right
  Cas : (base : Local) (old new : Expr) → Right

-- a line in the head of a loop
pub record LoadLine : Type 0 where
  pub kind : CType
  pub local : Local
  pub cell : Cell

-- a line that hands an argument over
pub record Argument : Type 0 where
  pub number : Number
  pub value : Expr

-- the bracketed lines of a `par`
pub record ParLines : Type 0 where
  pub structure : Name
  pub size : Name
  pub arguments : List Argument
  pub starter : Name
  pub other : Name
  pub others : List Expr

mutual
  -- a statement
  pub data Stmt : Type 0 where
    Bind : (kind : CType) (x : Local) (right : Right) → Stmt
    Store : (cell : Cell) (e : Expr) → Stmt
    Free : (base : Local) → Stmt
    AtomicStore : (base : Local) (e : Expr) → Stmt
    Acquire : (lock : Local) → Stmt
    Release : (lock : Local) → Stmt
    Print : (e : Expr) → Stmt
    CallStmt : (f : Name) (args : List Expr) → Stmt
    Par : (lines : ParLines) → Stmt
    If : (e : Expr) (first second : Stmts) → Stmt
    While : (loads : List LoadLine) (e : Expr) (body : Stmts) → Stmt
    Return : (e : Expr) → Stmt

  -- statements, in a row
  pub data Stmts : Type 0 where
    end : Stmts
    more : (s : Stmt) (rest : Stmts) → Stmts

-- a function
pub record Fun : Type 0 where
  pub head : Head
  pub body : Stmts

-- what a text has behind the prelude and in front of its fixed `main`
pub record Source : Type 0 where
  pub structs : List Struct
  pub prototypes : List Head
  pub starters : List Starter
  pub funs : List Fun
