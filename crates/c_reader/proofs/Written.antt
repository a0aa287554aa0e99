-- What is written in the text of a program.
use Rattle.std.proofs.Common.{ℕ, ◌+◌, List, [], ◌∷◌, map, filter}
use Rattle.c_syntax.specs.declared.kind.CType.{CType}
use Rattle.c_syntax.specs.declared.kind.CType.TheVariants as kind
use Rattle.c_syntax.specs.declared.kind.Local as plain
use Rattle.c_syntax.specs.declared.program.CMember.{CMember}
use Rattle.c_syntax.specs.declared.program.CParam.{CParam}
use Rattle.c_syntax.specs.declared.program.CStruct.{CStruct}
use Rattle.c_syntax.specs.Text.{is_started}
use Rattle.c_syntax.specs.Tree as t
use Rattle.c_syntax.specs.Tree.{Name}
use Rattle.c_forms.specs.declared.stmt.Maker.{Maker}
use Rattle.c_forms.specs.declared.stmt.Maker.TheVariants as maker
use Rattle.c_forms.specs.declared.word.Local.{Local}
use Rattle.c_forms.specs.declared.word.Number.{Number}
use Rattle.c_forms.specs.declared.word.Number.TheVariants.{Small}
use Rattle.c_forms.specs.declared.source.Member.{Member}
use Rattle.c_forms.specs.declared.source.Struct.{Struct}
use Rattle.c_forms.specs.declared.source.Param.{Param}
use Rattle.c_forms.specs.declared.source.Head.{Head}
use Rattle.c_forms.specs.declared.source.Slot.{Slot}
use Rattle.c_forms.specs.declared.source.Starter.{Starter}
use Rattle.c_forms.specs.Tree as w

abbrev pub local : plain.Local → Local
local x = record { name = x.name; number = Small x.number }

abbrev pub expr : t.Expr → w.Expr
expr (t.Int n) = w.Int n
expr (t.Truth b) = w.Truth b
expr t.Null = w.Null
expr (t.Var x) = w.Var (local x)
expr (t.Neg e) = w.Neg (expr e)
expr (t.Not e) = w.Not (expr e)
expr (t.Bin op a b) = w.Bin op (expr a) (expr b)

abbrev pub cell : t.Cell → w.Cell
cell (t.Whole base) = w.Whole (local base)
cell (t.At base index) = w.At (local base) (expr index)
cell (t.Field base member) = w.Field (local base) member

abbrev pub maker_of : CType → Maker
maker_of kind.PtrBool = maker.Bool
maker_of _ = maker.I64

-- the lines of first values, in front of others
abbrev pub inits : plain.Local → List t.Init → w.Stmts → w.Stmts
inits x [] rest = rest
inits x (i ∷ is) rest = w.more (w.Store (w.Field (local x) i.name) (expr i.value)) (inits x is rest)

-- the loads in the head of a loop
abbrev pub loads : t.Stmts → List w.LoadLine
loads t.end = []
loads (t.more (t.Load type x c) rest) = record { kind = type; local = local x; cell = cell c } ∷ loads rest
loads (t.more _ rest) = loads rest

-- the lines that hand arguments over, from argument k on
abbrev pub arguments : ℕ → List t.Expr → List w.Argument
arguments k [] = []
arguments k (e ∷ es) = record { number = Small k; value = expr e } ∷ arguments (k + 1) es

abbrev mutual
  -- a statement's lines, in front of others
  pub lines : t.Stmt → w.Stmts → w.Stmts
  lines (t.Let type x e) rest = w.more (w.Bind type (local x) (w.Value (expr e))) rest
  lines (t.Load type x c) rest = w.more (w.Bind type (local x) (w.Load (cell c))) rest
  lines (t.Store c e) rest = w.more (w.Store (cell c) (expr e)) rest
  lines (t.New type x e) rest = w.more (w.Bind type (local x) (w.New (maker_of type) (expr e))) rest
  lines (t.NewArray type x e count) rest = w.more (w.Bind type (local x) (w.Array (expr e) (expr count))) rest
  lines (t.NewAtomic x e) rest = w.more (w.Bind kind.PtrAtomic (local x) (w.New maker.Atomic (expr e))) rest
  lines (t.NewStruct x s is) rest = w.more (w.Bind (kind.PtrStruct s) (local x) (w.Structure s)) (inits x is rest)
  lines (t.Free base) rest = w.more (w.Free (local base)) rest
  lines (t.AtomicLoad x base) rest = w.more (w.Bind kind.I64 (local x) (w.AtomicLoad (local base))) rest
  lines (t.AtomicStore base e) rest = w.more (w.AtomicStore (local base) (expr e)) rest
  lines (t.Cas x base old new) rest = w.more (w.Bind kind.Bool (local x) (w.Cas (local base) (expr old) (expr new))) rest
  lines (t.NewLock x) rest = w.more (w.Bind kind.PtrLock (local x) w.Lock) rest
  lines (t.Acquire l) rest = w.more (w.Acquire (local l)) rest
  lines (t.Release l) rest = w.more (w.Release (local l)) rest
  lines (t.Read x) rest = w.more (w.Bind kind.I64 (local x) w.Read) rest
  lines (t.Print e) rest = w.more (w.Print (expr e)) rest
  lines (t.Call f args) rest = w.more (w.CallStmt f (map expr args)) rest
  lines (t.CallLet type x f args) rest = w.more (w.Bind type (local x) (w.Call f (map expr args))) rest
  lines (t.Par f args g others) rest =
      w.more (w.Par (record { structure = f; size = f; arguments = arguments 1 args; starter = f; other = g; others = map expr others })) rest
  lines (t.If e first second) rest = w.more (w.If (expr e) (stmts first) (stmts second)) rest
  lines (t.While ls e body) rest = w.more (w.While (loads ls) (expr e) (stmts body)) rest
  lines (t.Return e) rest = w.more (w.Return (expr e)) rest

  -- statements
  pub stmts : t.Stmts → w.Stmts
  stmts t.end = w.end
  stmts (t.more s rest) = lines s (stmts rest)

abbrev pub member : CMember → Member
member m = record { kind = m.kind; name = m.name }

abbrev pub struct : CStruct → Struct
struct s = record { name = s.name; members = map member s.members }

abbrev pub param : CParam → Param
param p = record { kind = p.kind; local = local p.local }

abbrev pub head : t.Fun → Head
head f = record { result = f.result; name = f.name; params = map param f.params }

abbrev pub fun : t.Fun → w.Fun
fun f = record { head = head f; body = stmts f.body }

-- members for arguments, and their numbers, from k on
abbrev pub slots : ℕ → List CParam → List Slot
slots k [] = []
slots k (p ∷ ps) = record { kind = p.kind; number = Small k } ∷ slots (k + 1) ps

abbrev pub numbers : ℕ → List CParam → List Number
numbers k [] = []
numbers k (p ∷ ps) = Small k ∷ numbers (k + 1) ps

abbrev pub starter : t.Fun → Starter
starter f = record { structure = f.name; slots = slots 1 f.params; name = f.name; pointer = f.name; copy = f.name; function = f.name; arguments = numbers 1 f.params }

abbrev pub source : t.Program → w.Source
source p = record {
  structs = map struct p.structs;
  prototypes = map head p.funs;
  starters = map starter (filter (is_started p.funs) p.funs);
  funs = map fun p.funs;
}
