-- A program whose names are resolved: locals, functions and fields are numbers.
use Rattle.std.specs.Prelude.{ℕ, ℤ, max, Bool, List, Option, Some}
use Rattle.c_syntax.specs.declared.expr.COp.{COp}

-- an expression; x is the number of a local
pub data Term : Type 0 where
  Int : (n : ℤ) → Term
  Truth : (b : Bool) → Term
  Null : Term
  Var : (x : ℕ) → Term
  Neg : (e : Term) → Term
  Not : (e : Term) → Term
  Bin : (op : COp) (a b : Term) → Term

-- a cell, by the local that points to its block: the only one, that of an index, or that of a field
pub data Place : Type 0 where
  Whole : (base : ℕ) → Place
  At : (base : ℕ) (index : Term) → Place
  Field : (base field : ℕ) → Place

-- a statement that is one event and then goes on behind itself; x is the local that it binds
pub data Basic : Type 0 where
  Load : (x : ℕ) (place : Place) (atomic : Bool) → Basic
  Store : (place : Place) (e : Term) (atomic : Bool) → Basic
  Cas : (x base : ℕ) (old new : Term) → Basic
  -- a block of so many elements, each with these first values of its fields
  Make : (x : ℕ) (atomic : Bool) (first : List Term) (count : Term) → Basic
  -- of a block or a lock
  Free : (base : ℕ) → Basic
  NewLock : (x : ℕ) → Basic
  Acquire : (lock : ℕ) → Basic
  Release : (lock : ℕ) → Basic
  Read : (x : ℕ) → Basic
  Print : (e : Term) → Basic
  Call : (into : Option ℕ) (f : ℕ) (args : List Term) → Basic
  Fork : (f : ℕ) (args : List Term) → Basic
  -- waits for the thread that the frame forked last
  Join : Basic
  Return : (e : Term) → Basic

-- `Check` stands for the test of a loop after its loads
mutual
  pub data Stmt : Type 0 where
    Let : (x : ℕ) (e : Term) → Stmt
    If : (e : Term) (first second : Stmts) → Stmt
    While : (loads : Stmts) (e : Term) (body : Stmts) → Stmt
    Check : (loads : Stmts) (e : Term) (body : Stmts) → Stmt
    Do : (b : Basic) → Stmt

  pub data Stmts : Type 0 where
    end : Stmts
    more : (s : Stmt) (rest : Stmts) → Stmts

-- one list of statements and then another
abbrev pub both : Stmts → Stmts → Stmts
both end bs = bs
both (more s rest) bs = more s (both rest bs)

-- the local that a statement binds, or 0; locals count from 1
abbrev pub binds : Basic → ℕ
binds (Load x place atomic) = x
binds (Cas x base old new) = x
binds (Make x atomic first count) = x
binds (NewLock x) = x
binds (Read x) = x
binds (Call (Some x) f args) = x
binds _ = 0

abbrev mutual
  -- the greatest local that is bound
  pub greatest_one : Stmt → ℕ
  greatest_one (Let x e) = x
  greatest_one (If e a b) = max (greatest a) (greatest b)
  greatest_one (While l e b) = max (greatest l) (greatest b)
  greatest_one (Check l e b) = max (greatest l) (greatest b)
  greatest_one (Do b) = binds b

  pub greatest : Stmts → ℕ
  greatest end = 0
  greatest (more s rest) = max (greatest_one s) (greatest rest)

-- a function: its statements, and how many places its locals need. Locals count from 1, so that place 0 is nobody's
pub record Function : Type 0 where
  pub body : Stmts
  pub slots : ℕ
