-- The tree as plain data: the program's own tree without the places in memory of its parts.
use Rattle.std.specs.Prelude.{ℕ, ℤ, Bool, List}
use Rattle.c_syntax.specs.declared.kind.CType.{CType}
use Rattle.c_syntax.specs.declared.kind.Local.{Local}
use Rattle.c_syntax.specs.declared.expr.COp.{COp}
use Rattle.c_syntax.specs.declared.program.CParam.{CParam}
use Rattle.c_syntax.specs.declared.program.CStruct.{CStruct}

-- a name is its bytes in UTF-8
abbrev pub Name : Type 0
Name = List ℕ

-- an expression
pub data Expr : Type 0 where
  Int : (n : ℤ) → Expr
  Truth : (b : Bool) → Expr
  Null : Expr
  Var : (x : Local) → Expr
  Neg : (e : Expr) → Expr
  Not : (e : Expr) → Expr
  Bin : (op : COp) (a b : Expr) → Expr

-- a cell, by the local that points to its block
pub data Cell : Type 0 where
  Whole : (base : Local) → Cell
  At : (base : Local) (index : Expr) → Cell
  Field : (base : Local) (member : Name) → Cell

-- the first value of a structure's member
pub record Init : Type 0 where
  pub name : Name
  pub value : Expr

mutual
  -- a statement; x is the local that it binds
  pub data Stmt : Type 0 where
    Let : (kind : CType) (x : Local) (e : Expr) → Stmt
    Load : (kind : CType) (x : Local) (cell : Cell) → Stmt
    Store : (cell : Cell) (e : Expr) → Stmt
    New : (kind : CType) (x : Local) (e : Expr) → Stmt
    NewArray : (kind : CType) (x : Local) (e count : Expr) → Stmt
    NewAtomic : (x : Local) (e : Expr) → Stmt
    NewStruct : (x : Local) (structure : Name) (inits : List Init) → Stmt
    Free : (base : Local) → Stmt
    AtomicLoad : (x base : Local) → Stmt
    AtomicStore : (base : Local) (e : Expr) → Stmt
    Cas : (x base : Local) (old new : Expr) → Stmt
    NewLock : (x : Local) → Stmt
    Acquire : (lock : Local) → Stmt
    Release : (lock : Local) → Stmt
    Read : (x : Local) → Stmt
    Print : (e : Expr) → Stmt
    Call : (f : Name) (args : List Expr) → Stmt
    CallLet : (kind : CType) (x : Local) (f : Name) (args : List Expr) → Stmt
    Par : (f : Name) (args : List Expr) (g : Name) (others : List Expr) → Stmt
    If : (e : Expr) (first second : Stmts) → Stmt
    While : (loads : Stmts) (e : Expr) (body : Stmts) → Stmt
    Return : (e : Expr) → Stmt

  -- statements, in a row
  pub data Stmts : Type 0 where
    end : Stmts
    more : (s : Stmt) (rest : Stmts) → Stmts

-- a function
pub record Fun : Type 0 where
  pub name : Name
  pub result : CType
  pub params : List CParam
  pub body : Stmts

-- a program
pub record Program : Type 0 where
  pub structs : List CStruct
  pub funs : List Fun
