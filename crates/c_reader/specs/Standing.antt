-- The program for which a text stands that has no breach.
use Rattle.std.specs.Prelude.{Option, Some, None, List, [], ◌∷◌, ◌++◌, map}
use Rattle.c_syntax.specs.declared.kind.CType.{CType}
use Rattle.c_syntax.specs.declared.kind.Local as plain
use Rattle.c_syntax.specs.declared.program.CMember.{CMember}
use Rattle.c_syntax.specs.declared.program.CParam.{CParam}
use Rattle.c_syntax.specs.Tree as t
use Rattle.c_forms.specs.declared.stmt.Maker.{Maker}
use Rattle.c_forms.specs.declared.stmt.Maker.TheVariants as maker
use Rattle.c_forms.specs.declared.word.Local.{Local}
use Rattle.c_forms.specs.declared.source.Param.{Param}
use Rattle.c_forms.specs.Tree as w
use Rattle.c_forms.specs.Tree.{Name}
use Rattle.c_rules.specs.Groups.{struct_of, known_in}
use Rattle.c_rules.specs.Lines.{FirstValue, members_or_none, value_line}
use Rattle.c_rules.specs.Sorts.{Structs, local_of}

-- an expression
abbrev pub expr_of : w.Expr → t.Expr
expr_of (w.Int n) = t.Int n
expr_of (w.Truth b) = t.Truth b
expr_of w.Null = t.Null
expr_of (w.Var x) = t.Var (local_of x)
expr_of (w.Neg e) = t.Neg (expr_of e)
expr_of (w.Not e) = t.Not (expr_of e)
expr_of (w.Bin op a b) = t.Bin op (expr_of a) (expr_of b)

-- a cell
abbrev pub cell_of : w.Cell → t.Cell
cell_of (w.Whole base) = t.Whole (local_of base)
cell_of (w.At base index) = t.At (local_of base) (expr_of index)
cell_of (w.Field base member) = t.Field (local_of base) member

-- a block of one cell
abbrev pub made_of : Maker → CType → plain.Local → t.Expr → t.Stmt
made_of maker.Atomic type x e = t.NewAtomic x e
made_of _ type x e = t.New type x e

-- a line that binds a local; of a structure's block without its first values
abbrev pub bind_of : CType → plain.Local → w.Right → t.Stmt
bind_of type x (w.Value e) = t.Let type x (expr_of e)
bind_of type x (w.Load cell) = t.Load type x (cell_of cell)
bind_of type x (w.New maker e) = made_of maker type x (expr_of e)
bind_of type x (w.Array e count) = t.NewArray type x (expr_of e) (expr_of count)
bind_of type x (w.Structure s) = t.NewStruct x s []
bind_of type x w.Lock = t.NewLock x
bind_of type x (w.Call f args) = t.CallLet type x f (map expr_of args)
bind_of type x (w.AtomicLoad base) = t.AtomicLoad x (local_of base)
bind_of type x w.Read = t.Read x
bind_of type x (w.Cas base old new) = t.Cas x (local_of base) (expr_of old) (expr_of new)

-- the loads in the head of a loop
abbrev pub loads_of : List w.LoadLine → t.Stmts
loads_of [] = t.end
loads_of (l ∷ ls) = t.more (t.Load l.kind (local_of l.local) (cell_of l.cell)) (loads_of ls)

-- a structure's block whose first values are gathered: what it is bound to, those so far, and the members that are left
pub record Gathered : Type 0 where
  pub local : Local
  pub structure : Name
  pub inits : List t.Init
  pub members : List CMember

-- the block with all its first values, in front of what follows
abbrev pub block_of : Gathered → t.Stmt
block_of g = t.NewStruct (local_of g.local) g.structure g.inits

-- one first value more; those members are left
abbrev pub given : Gathered → FirstValue → List CMember → Gathered
given g v members = record {
  local = g.local;
  structure = g.structure;
  inits = g.inits ++ (record { name = v.member; value = expr_of v.value } ∷ []);
  members = members;
}

-- the block is whole if no member is left; `rest` is what follows
abbrev pub begun : Gathered → List CMember → (Option Gathered → t.Stmts) → t.Stmts
begun g [] rest = t.more (block_of g) (rest None)
begun g (m ∷ ms) rest = rest (Some g)

-- a local that gets a structure's block
pub record Structured : Type 0 where
  pub local : Local
  pub structure : Name

-- the structure's block that a right side makes, if it does
abbrev pub structure_right : Local → w.Right → Option Structured
structure_right x (w.Structure s) = Some (record { local = x; structure = s })
structure_right x _ = None

-- the structure's block that a line binds, if it is such a line
abbrev pub structure_line : w.Stmt → Option Structured
structure_line (w.Bind type x right) = structure_right x right
structure_line _ = None

-- nothing is gathered yet
abbrev pub bare : Structs → Structured → Gathered
bare structs b = record { local = b.local; structure = b.structure; inits = []; members = members_or_none (structs b.structure) }

-- a line where nothing is gathered; `made` is what it stands for by itself
abbrev pub plain_line : Structs → Option Structured → t.Stmt → (Option Gathered → t.Stmts) → t.Stmts
plain_line structs (Some b) made rest = begun (bare structs b) (members_or_none (structs b.structure)) rest
plain_line structs None made rest = t.more made (rest None)

-- a line where first values are gathered; one that is none stands for itself
abbrev pub gathered_line : Gathered → List CMember → t.Stmt → Option FirstValue → (Option Gathered → t.Stmts) → t.Stmts
gathered_line g (m ∷ ms) made (Some v) rest = begun (given g v ms) ms rest
gathered_line g _ made _ rest = t.more made (rest None)

abbrev pub line_of : Structs → Option Gathered → w.Stmt → t.Stmt → (Option Gathered → t.Stmts) → t.Stmts
line_of structs None s made rest = plain_line structs (structure_line s) made rest
line_of structs (Some g) s made rest = gathered_line g g.members made (value_line g.local s) rest

abbrev mutual
  -- a statement by itself
  pub stmt_of : Structs → w.Stmt → t.Stmt
  stmt_of structs (w.Bind type x right) = bind_of type (local_of x) right
  stmt_of structs (w.Store cell e) = t.Store (cell_of cell) (expr_of e)
  stmt_of structs (w.Free base) = t.Free (local_of base)
  stmt_of structs (w.AtomicStore base e) = t.AtomicStore (local_of base) (expr_of e)
  stmt_of structs (w.Acquire lock) = t.Acquire (local_of lock)
  stmt_of structs (w.Release lock) = t.Release (local_of lock)
  stmt_of structs (w.Print e) = t.Print (expr_of e)
  stmt_of structs (w.CallStmt f args) = t.Call f (map expr_of args)
  stmt_of structs (w.Par p) = t.Par p.structure (map (λ a. expr_of a.value) p.arguments) p.other (map expr_of p.others)
  stmt_of structs (w.If e first second) = t.If (expr_of e) (stmts_of structs first None) (stmts_of structs second None)
  stmt_of structs (w.While loads e body) = t.While (loads_of loads) (expr_of e) (stmts_of structs body None)
  stmt_of structs (w.Return e) = t.Return (expr_of e)

  -- statements in a row, where first values may be gathered
  pub stmts_of : Structs → w.Stmts → Option Gathered → t.Stmts
  stmts_of structs w.end g = t.end
  stmts_of structs (w.more s rest) g = line_of structs g s (stmt_of structs s) (stmts_of structs rest)

-- a parameter
abbrev pub param_of : Param → CParam
param_of p = record { local = local_of p.local; kind = p.kind }

-- a function
abbrev pub fun_of : Structs → w.Fun → t.Fun
fun_of structs f = record { name = f.head.name; result = f.head.result; params = map param_of f.head.params; body = stmts_of structs f.body None }

-- a program
abbrev pub program_of : w.Source → t.Program
program_of s = record { structs = map struct_of s.structs; funs = map (fun_of (known_in s).structs) s.funs }
