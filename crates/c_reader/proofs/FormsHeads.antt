-- In the heads of a program's loops stand loads alone, where the program stands for a text; what makes one cell has a type for it, where the rules are kept.
use Rattle.std.proofs.Common.{◌≡◌, Option, Some, None, List, [], ◌∷◌, map}
use Rattle.std.specs.Prelude.{⊤}
use Rattle.std.specs.List.{AllByRecursion}
use Rattle.c_syntax.specs.declared.kind.CType.{CType}
use Rattle.c_syntax.specs.declared.kind.CType.TheVariants as kind
use Rattle.c_syntax.specs.declared.kind.Local as plain
use Rattle.c_syntax.specs.declared.program.CMember.{CMember}
use Rattle.c_syntax.specs.Forms.{AreLoads, IsMade}
use Rattle.c_syntax.specs.Rules.{BodyFits, FunFits, KeepsRules, Scope, StmtFits, StmtsFit, after, after_all, element, moved, stmts_binders}
use Rattle.c_syntax.specs.Tree as t
use Rattle.c_forms.specs.declared.stmt.Maker.TheVariants as maker
use Rattle.c_forms.specs.Tree as w
use Rattle.c_rules.specs.Groups.{known_in}
use Rattle.c_rules.specs.Lines.{FirstValue, members_or_none, value_line}
use Rattle.c_rules.specs.Sorts.{Structs}
use Rattle.c_reader.specs.Standing.{Gathered, Structured, bare, begun, bind_of, fun_of, gathered_line, given, line_of, loads_of, plain_line, program_of, stmt_of, stmts_of, structure_line}

-- ---- what is said of statements

abbrev mutual
  -- in the heads of loops stand loads alone
  pub HasHeads : t.Stmt → Type 0
  HasHeads (t.If e first second) = HaveHeads first × HaveHeads second
  HasHeads (t.While ls e body) = AreLoads ls × HaveHeads body
  HasHeads _ = ⊤

  pub HaveHeads : t.Stmts → Type 0
  HaveHeads t.end = ⊤
  HaveHeads (t.more s rest) = HasHeads s × HaveHeads rest

abbrev mutual
  -- what makes one cell has a type for it, but for the heads of loops
  pub HasMade : t.Stmt → Type 0
  HasMade (t.New type x e) = IsMade type
  HasMade (t.If e first second) = HaveMade first × HaveMade second
  HasMade (t.While ls e body) = HaveMade body
  HasMade _ = ⊤

  pub HaveMade : t.Stmts → Type 0
  HaveMade t.end = ⊤
  HaveMade (t.more s rest) = HasMade s × HaveMade rest

-- ---- heads of what a text stands for

bind_heads : (type : CType) (x : plain.Local) (right : w.Right) → HasHeads (bind_of type x right)
bind_heads type x (w.Value e) = tt
bind_heads type x (w.Load cell) = tt
bind_heads type x (w.New maker.I64 e) = tt
bind_heads type x (w.New maker.Bool e) = tt
bind_heads type x (w.New maker.Atomic e) = tt
bind_heads type x (w.Array e count) = tt
bind_heads type x (w.Structure s) = tt
bind_heads type x w.Lock = tt
bind_heads type x (w.Call f args) = tt
bind_heads type x (w.AtomicLoad base) = tt
bind_heads type x w.Read = tt
bind_heads type x (w.Cas base old new) = tt

are_loads : (ls : List w.LoadLine) → AreLoads (loads_of ls)
are_loads [] = tt
are_loads (l ∷ ls) = are_loads ls

-- what comes behind a line has its heads
module _ (rest : Option Gathered → t.Stmts) (behind : (g : Option Gathered) → HaveHeads (rest g)) where
  begun_heads : (g : Gathered) (ms : List CMember) → HaveHeads (begun g ms rest)
  begun_heads g [] = (tt, behind None)
  begun_heads g (m ∷ ms) = behind (Some g)

  plain_heads : (structs : Structs) (o : Option Structured) (made : t.Stmt) → HasHeads made → HaveHeads (plain_line structs o made rest)
  plain_heads structs None made h = (h, behind None)
  plain_heads structs (Some b) made h = begun_heads (bare structs b) (members_or_none (structs b.structure))

  gathered_heads : (g : Gathered) (ms : List CMember) (made : t.Stmt) (v : Option FirstValue) → HasHeads made → HaveHeads (gathered_line g ms made v rest)
  gathered_heads g [] made None h = (h, behind None)
  gathered_heads g [] made (Some v) h = (h, behind None)
  gathered_heads g (m ∷ ms) made None h = (h, behind None)
  gathered_heads g (m ∷ ms) made (Some v) h = begun_heads (given g v ms) ms

  line_heads : (structs : Structs) (g : Option Gathered) (s : w.Stmt) (made : t.Stmt) → HasHeads made → HaveHeads (line_of structs g s made rest)
  line_heads structs None s made h = plain_heads structs (structure_line s) made h
  line_heads structs (Some g) s made h = gathered_heads g g.members made (value_line g.local s) h

mutual
  stmt_heads : (structs : Structs) (s : w.Stmt) → HasHeads (stmt_of structs s)
  stmt_heads structs (w.Bind type x right) = bind_heads type _ right
  stmt_heads structs (w.Store cell e) = tt
  stmt_heads structs (w.Free base) = tt
  stmt_heads structs (w.AtomicStore base e) = tt
  stmt_heads structs (w.Acquire lock) = tt
  stmt_heads structs (w.Release lock) = tt
  stmt_heads structs (w.Print e) = tt
  stmt_heads structs (w.CallStmt f args) = tt
  stmt_heads structs (w.Par lines) = tt
  stmt_heads structs (w.If e first second) = (stmts_heads structs first None, stmts_heads structs second None)
  stmt_heads structs (w.While loads e body) = (are_loads loads, stmts_heads structs body None)
  stmt_heads structs (w.Return e) = tt

  stmts_heads : (structs : Structs) (ts : w.Stmts) (g : Option Gathered) → HaveHeads (stmts_of structs ts g)
  stmts_heads structs w.end g = tt
  stmts_heads structs (w.more s rest) g = line_heads (stmts_of structs rest) (λ more. stmts_heads structs rest more) structs g s (stmt_of structs s) (stmt_heads structs s)

pub heads_kept : (s : w.Source) → AllByRecursion (λ f. HaveHeads f.body) (program_of s).funs
heads_kept s = each s.funs
  where
    each : (fs : List w.Fun) → AllByRecursion (λ f. HaveHeads f.body) (map (fun_of (known_in s).structs) fs)
    each [] = tt
    each (f ∷ fs) = (stmts_heads (known_in s).structs f.body None, each fs)

-- ---- what makes one cell, where the rules are kept

is_made : (type held : CType) → element type ≡ Some held → IsMade type
is_made kind.PtrI64 held h = tt
is_made kind.PtrBool held h = tt
is_made kind.Void held h = cc
is_made kind.I64 held h = cc
is_made kind.Bool held h = cc
is_made (kind.PtrStruct s) held h = cc
is_made kind.PtrAtomic held h = cc
is_made kind.PtrLock held h = cc

mutual
  stmt_made : (p : t.Program) (scope : Scope) (s : t.Stmt) → StmtFits p scope s → HasMade s
  stmt_made p scope (t.New type x e) h = is_made type h.0 h.1
  stmt_made p scope (t.If e first second) h = (stmts_made p scope first h.1, stmts_made p (moved scope (stmts_binders first)) second h.2)
  stmt_made p scope (t.While ls e body) h = stmts_made p (after_all scope ls) body h.2
  stmt_made p scope _ h = tt

  stmts_made : (p : t.Program) (scope : Scope) (ts : t.Stmts) → StmtsFit p scope ts → HaveMade ts
  stmts_made p scope t.end h = tt
  stmts_made p scope (t.more s rest) h = (stmt_made p scope s h.1, stmts_made p (after scope s) rest h.2)

body_made : (p : t.Program) (result : CType) (scope : Scope) (ts : t.Stmts) → BodyFits p result scope ts → HaveMade ts
body_made p result scope t.end h = tt
body_made p result scope (t.more (t.Return e) t.end) h = (tt, tt)
body_made p result scope (t.more s rest) h = (stmt_made p scope s h.1, body_made p result (after scope s) rest h.2)

pub made_kept : (p : t.Program) → KeepsRules p → AllByRecursion (λ f. HaveMade f.body) p.funs
made_kept p h = each p.funs h.funs
  where
    each : (fs : List t.Fun) → AllByRecursion (FunFits p) fs → AllByRecursion (λ f. HaveMade f.body) fs
    each [] k = tt
    each (f ∷ fs) k = (body_made p f.result _ f.body k.0.body, each fs k.1)
