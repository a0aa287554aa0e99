-- The source tree as plain data: the program's own tree without the places in memory of its parts.
use Rattle.std.specs.Prelude.{ℕ, ℤ, Bool, List, [], ◌∷◌, Option}
use Rattle.pl_base.specs.declared.pos.Pos.{Pos}
use Rattle.pl_syntax.specs.declared.expr.BinOp.{BinOp}
use Rattle.pl_syntax.specs.declared.expr.Binder.{Binder}
use Rattle.pl_syntax.specs.declared.expr.PermExpr.{PermExpr}
use Rattle.pl_syntax.specs.declared.stmt.Hint.{Hint}
use Rattle.pl_syntax.specs.declared.program.StructDecl.{StructDecl}

-- a name is its bytes in UTF-8
abbrev pub Name : Type 0
Name = List ℕ

-- an expression; each begins with its place
pub data Expr : Type 0 where
  Int : (pos : Pos) (n : ℤ) → Expr
  Truth : (pos : Pos) (b : Bool) → Expr
  Null : (pos : Pos) → Expr
  Var : (pos : Pos) (x : Name) → Expr
  Neg : (pos : Pos) (e : Expr) → Expr
  Not : (pos : Pos) (e : Expr) → Expr
  Bin : (pos : Pos) (op : BinOp) (a b : Expr) → Expr

-- a cell, by the name of its base
pub data CellExpr : Type 0 where
  Whole : (base : Name) → CellExpr
  At : (base : Name) (index : Expr) → CellExpr
  Field : (base field : Name) → CellExpr

-- a predicate with its arguments
pub record Instance : Type 0 where
  pub pos : Pos
  pub pred : Name
  pub args : List Expr

-- a proposition
pub data Prop : Type 0 where
  Emp : (pos : Pos) → Prop
  Pure : (pos : Pos) (label : Option Name) (e : Expr) → Prop
  Star : (p q : Prop) → Prop
  Exists : (pos : Pos) (binders : List Binder) (p : Prop) → Prop
  Points : (pos : Pos) (cell : CellExpr) (perm : PermExpr) (e : Expr) → Prop
  Slice : (pos : Pos) (a lo hi : Expr) (perm : PermExpr) → Prop
  Block : (pos : Pos) (a n : Expr) → Prop
  Alive : (pos : Pos) (l : Expr) (perm : PermExpr) (i : Instance) → Prop
  Held : (pos : Pos) (l : Expr) → Prop
  Inv : (pos : Pos) (name : Expr) (i : Instance) → Prop
  App : (i : Instance) → Prop

-- the body of a predicate
pub data Body : Type 0 where
  Plain : (p : Prop) → Body
  Cond : (e : Expr) (p q : Prop) → Body

-- the first value of a structure's field
pub record Init : Type 0 where
  pub name : Name
  pub value : Expr

-- what is shared or gathered: a cell, or the slice of an array between two bounds
pub data Key : Type 0 where
  Cell : (cell : CellExpr) → Key
  Range : (a lo hi : Expr) → Key

mutual
  -- a statement; each begins with its place, and x is the name that it binds
  pub data Stmt : Type 0 where
    Let : (pos : Pos) (x : Name) (e : Expr) → Stmt
    Load : (pos : Pos) (x : Name) (cell : CellExpr) (is_ghost : Bool) → Stmt
    Store : (pos : Pos) (cell : CellExpr) (e : Expr) → Stmt
    Alloc : (pos : Pos) (x : Name) (e : Expr) → Stmt
    AllocArray : (pos : Pos) (x : Name) (e n : Expr) → Stmt
    AllocAtomic : (pos : Pos) (x : Name) (e : Expr) → Stmt
    New : (pos : Pos) (x structure : Name) (inits : List Init) → Stmt
    Free : (pos : Pos) (base : Name) → Stmt
    FreeArray : (pos : Pos) (base : Name) → Stmt
    AtomicRead : (pos : Pos) (x base : Name) → Stmt
    AtomicWrite : (pos : Pos) (base : Name) (e : Expr) → Stmt
    Cas : (pos : Pos) (x base : Name) (old new : Expr) → Stmt
    NewLock : (pos : Pos) (x : Name) (i : Instance) → Stmt
    Acquire : (pos : Pos) (lock : Name) → Stmt
    Release : (pos : Pos) (lock : Name) → Stmt
    FreeLock : (pos : Pos) (lock : Name) → Stmt
    Read : (pos : Pos) (x : Name) → Stmt
    Print : (pos : Pos) (e : Expr) → Stmt
    Call : (pos : Pos) (x : Option Name) (f : Name) (args : List Expr) → Stmt
    Par : (pos : Pos) (f : Name) (args : List Expr) (g : Name) (others : List Expr) → Stmt
    If : (pos : Pos) (e : Expr) (first : Braced) (second : Else) (after : Option Prop) → Stmt
    While : (pos : Pos) (loads : Stmts) (e : Expr) (kept : Prop) (body : Braced) → Stmt
    LetMut : (pos : Pos) (x : Name) (e : Expr) → Stmt
    Return : (pos : Pos) (e : Expr) → Stmt
    With : (pos : Pos) (invariant_name : Name) (body : Braced) (after : Option Prop) → Stmt
    GLet : (pos : Pos) (x : Name) (e : Expr) → Stmt
    GAlloc : (pos : Pos) (x : Name) (e : Expr) → Stmt
    NewInv : (pos : Pos) (x : Name) (i : Instance) → Stmt
    Fold : (pos : Pos) (i : Instance) → Stmt
    Unfold : (pos : Pos) (i : Instance) → Stmt
    Rewrite : (pos : Pos) (p q : Prop) → Stmt
    Share : (pos : Pos) (key : Key) → Stmt
    Gather : (pos : Pos) (key : Key) → Stmt
    Split : (pos : Pos) (a lo hi m : Expr) → Stmt
    Join : (pos : Pos) (a lo m hi : Expr) → Stmt
    Focus : (pos : Pos) (base : Name) (index : Expr) → Stmt
    Unfocus : (pos : Pos) (base : Name) (index : Expr) → Stmt
    Assert : (pos : Pos) (label : Option Name) (e : Expr) (hint : Option Hint) → Stmt
    WithAssert : (pos : Pos) (binders : List Binder) (p : Prop) → Stmt
    Drop : (pos : Pos) (p : Prop) → Stmt

  -- statements, in a row
  pub data Stmts : Type 0 where
    end : Stmts
    more : (s : Stmt) (rest : Stmts) → Stmts

  -- the statements of a block, and the place of its closing brace
  pub data Braced : Type 0 where
    braces : (list : Stmts) (close : Pos) → Braced

  -- the second block of an `if`
  pub data Else : Type 0 where
    no_else : Else
    else : (second : Braced) → Else

-- a predicate
pub record PredDecl : Type 0 where
  pub pos : Pos
  pub name : Name
  pub params : List Binder
  pub body : Body

-- a function
pub record FunDecl : Type 0 where
  pub pos : Pos
  pub is_ghost : Bool
  pub name : Name
  pub params : List Binder
  pub opens : Bool
  pub before : Prop
  pub result : Option Binder
  pub after : Prop
  pub measure : Option Expr
  pub body : Braced

pub data Decl : Type 0 where
  Struct : (s : StructDecl) → Decl
  Pred : (p : PredDecl) → Decl
  Fun : (f : FunDecl) → Decl

-- the declarations of a file, in its order
pub record Program : Type 0 where
  pub decls : List Decl

-- statements in a row, as a list
abbrev pub listed : Stmts → List Stmt
listed end = []
listed (more s rest) = s ∷ listed rest

-- the statements of a block, and the place of its closing brace
abbrev pub list_of : Braced → List Stmt
list_of (braces list close) = listed list

abbrev pub close_of : Braced → Pos
close_of (braces list close) = close
