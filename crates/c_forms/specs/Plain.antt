-- From the program's trees to plain data.
use Rattle.std.specs.Prelude.{List, [], ◌∷◌, map, box_value}
use Rattle.c_forms.specs.declared.word.Expr as expr
use Rattle.c_forms.specs.declared.word.Expr.TheVariants.{Int, Truth, Null, Var, Neg', Not', Bin'}
use Rattle.c_forms.specs.declared.word.Cell as cell
use Rattle.c_forms.specs.declared.word.Cell.TheVariants.{Whole, At, Field}
use Rattle.c_forms.specs.declared.stmt.Right as right
use Rattle.c_forms.specs.declared.stmt.Right.TheVariants as r
use Rattle.c_forms.specs.declared.stmt.Load as load
use Rattle.c_forms.specs.declared.stmt.Argument as argument
use Rattle.c_forms.specs.declared.stmt.Par as par
use Rattle.c_forms.specs.declared.stmt.Stmt.{Stmt, fold-Stmt}
use Rattle.c_forms.specs.declared.stmt.Stmt.TheOpen.{Stmt-F}
use Rattle.c_forms.specs.declared.loops.HeadLine as head
use Rattle.c_forms.specs.declared.loops.HeadLine.TheVariants as lines
use Rattle.c_forms.specs.declared.source.Fun as fun
use Rattle.c_forms.specs.declared.source.Source as source
use Rattle.c_forms.specs.Reading.{Step, on, done}
use Rattle.c_forms.specs.Tree as t

-- an expression
abbrev pub plain_expr : expr.Expr → t.Expr
plain_expr (Int n) = t.Int n
plain_expr (Truth b) = t.Truth b
plain_expr Null = t.Null
plain_expr (Var x) = t.Var x
plain_expr (Neg' q e) = t.Neg (plain_expr e)
plain_expr (Not' q e) = t.Not (plain_expr e)
plain_expr (Bin' op q a r b) = t.Bin op (plain_expr a) (plain_expr b)

-- a cell
abbrev pub plain_cell : cell.Cell → t.Cell
plain_cell (Whole base) = t.Whole base
plain_cell (At base index) = t.At base (plain_expr (box_value index))
plain_cell (Field base member) = t.Field base member

-- what stands behind a `=`
abbrev pub plain_right : right.Right → t.Right
plain_right (r.Value e) = t.Value (plain_expr e)
plain_right (r.Load c) = t.Load (plain_cell c)
plain_right (r.New maker e) = t.New maker (plain_expr e)
plain_right (r.Array e count) = t.Array (plain_expr e) (plain_expr (box_value count))
plain_right (r.Struct s) = t.Structure s
plain_right r.Lock = t.Lock
plain_right (r.Call f args) = t.Call f (map plain_expr args)
plain_right (r.AtomicLoad base) = t.AtomicLoad base
plain_right r.Read = t.Read
plain_right (r.Cas base old new) = t.Cas base (plain_expr (box_value old)) (plain_expr (box_value new))

-- a line in the head of a loop
abbrev pub plain_load : load.Load → t.LoadLine
plain_load l = record { kind = l.kind; local = l.local; cell = plain_cell l.cell }

-- a line of the head of a loop: a load, or the test
abbrev pub plain_line : head.HeadLine → Step t.LoadLine t.Expr
plain_line (lines.Load l) = on (plain_load l)
plain_line (lines.Test e) = done (plain_expr e)

-- a line that hands an argument over
abbrev pub plain_argument : argument.Argument → t.Argument
plain_argument a = record { number = a.number; value = plain_expr a.value }

-- the bracketed lines of a `par`
abbrev pub plain_par : par.Par → t.ParLines
plain_par p = record {
  structure = p.structure;
  size = p.size;
  arguments = map plain_argument p.arguments;
  starter = p.starter;
  other = p.other;
  others = map plain_expr p.others;
}

-- statements, in a row
abbrev pub chain : List t.Stmt → t.Stmts
chain [] = t.end
chain (s ∷ rest) = t.more s (chain rest)

-- one layer of a statement, with the plain statements in it
abbrev pub stmt_step : Stmt-F t.Stmt → t.Stmt
stmt_step (Stmt-F.Bind kind x right) = t.Bind kind x (plain_right (box_value right))
stmt_step (Stmt-F.Store c e) = t.Store (plain_cell c) (plain_expr e)
stmt_step (Stmt-F.Free x) = t.Free x
stmt_step (Stmt-F.AtomicStore base e) = t.AtomicStore base (plain_expr e)
stmt_step (Stmt-F.Acquire l) = t.Acquire l
stmt_step (Stmt-F.Release l) = t.Release l
stmt_step (Stmt-F.Print e) = t.Print (plain_expr e)
stmt_step (Stmt-F.Call f args) = t.CallStmt f (map plain_expr args)
stmt_step (Stmt-F.Par lines) = t.Par (plain_par (box_value lines))
stmt_step (Stmt-F.If e first second) = t.If (plain_expr e) (chain first) (chain second)
stmt_step (Stmt-F.While loads e body) = t.While (map plain_load loads) (plain_expr e) (chain body)
stmt_step (Stmt-F.Return e) = t.Return (plain_expr e)

-- a statement
abbrev pub plain_stmt : Stmt → t.Stmt
plain_stmt = fold-Stmt t.Stmt stmt_step

-- a list of statements
abbrev pub plain_stmts : List Stmt → t.Stmts
plain_stmts list = chain (map plain_stmt list)

-- a function
abbrev pub plain_fun : fun.Fun → t.Fun
plain_fun f = record { head = f.head; body = plain_stmts f.body }

-- what a text has
abbrev pub plain_source : source.Source → t.Source
plain_source s = record { structs = s.structs; prototypes = s.prototypes; starters = s.starters; funs = map plain_fun s.funs }
