-- From the program's tree to plain data.
use Rattle.std.specs.Prelude.{List, [], ◌∷◌, map}
use Rattle.c_syntax.specs.declared.expr.CExpr as expr
use Rattle.c_syntax.specs.declared.expr.CExpr.TheVariants.{Int, Truth, Null, Var, Neg', Not', Bin'}
use Rattle.c_syntax.specs.declared.expr.CCell as cell
use Rattle.c_syntax.specs.declared.expr.CCell.TheVariants.{Whole, At, Field}
use Rattle.c_syntax.specs.declared.stmt.CInit as init
use Rattle.c_syntax.specs.declared.stmt.CStmt.{CStmt, fold-CStmt}
use Rattle.c_syntax.specs.declared.stmt.CStmt.TheOpen.{CStmt-F}
use Rattle.c_syntax.specs.declared.program.CFun as fun
use Rattle.c_syntax.specs.declared.program.CProgram as program
use Rattle.c_syntax.specs.Tree as t

-- an expression
abbrev pub plain_expr : expr.CExpr → t.Expr
plain_expr (Int n) = t.Int n
plain_expr (Truth b) = t.Truth b
plain_expr Null = t.Null
plain_expr (Var x) = t.Var x
plain_expr (Neg' q e) = t.Neg (plain_expr e)
plain_expr (Not' q e) = t.Not (plain_expr e)
plain_expr (Bin' op q a r b) = t.Bin op (plain_expr a) (plain_expr b)

-- a cell
abbrev pub plain_cell : cell.CCell → t.Cell
plain_cell (Whole base) = t.Whole base
plain_cell (At base index) = t.At base (plain_expr index)
plain_cell (Field base member) = t.Field base member

-- a first value
abbrev pub plain_init : init.CInit → t.Init
plain_init i = record { name = i.name; value = plain_expr i.value }

-- statements, in a row
abbrev pub chain : List t.Stmt → t.Stmts
chain [] = t.end
chain (s ∷ rest) = t.more s (chain rest)

-- one layer of a statement, with the plain statements in it
abbrev pub stmt_step : CStmt-F t.Stmt → t.Stmt
stmt_step (CStmt-F.Let kind x e) = t.Let kind x (plain_expr e)
stmt_step (CStmt-F.Load kind x c) = t.Load kind x (plain_cell c)
stmt_step (CStmt-F.Store c e) = t.Store (plain_cell c) (plain_expr e)
stmt_step (CStmt-F.New kind x e) = t.New kind x (plain_expr e)
stmt_step (CStmt-F.NewArray kind x e count) = t.NewArray kind x (plain_expr e) (plain_expr count)
stmt_step (CStmt-F.NewAtomic x e) = t.NewAtomic x (plain_expr e)
stmt_step (CStmt-F.NewStruct x s inits) = t.NewStruct x s (map plain_init inits)
stmt_step (CStmt-F.Free x) = t.Free x
stmt_step (CStmt-F.AtomicLoad x base) = t.AtomicLoad x base
stmt_step (CStmt-F.AtomicStore base e) = t.AtomicStore base (plain_expr e)
stmt_step (CStmt-F.Cas x base old new) = t.Cas x base (plain_expr old) (plain_expr new)
stmt_step (CStmt-F.NewLock x) = t.NewLock x
stmt_step (CStmt-F.Acquire l) = t.Acquire l
stmt_step (CStmt-F.Release l) = t.Release l
stmt_step (CStmt-F.Read x) = t.Read x
stmt_step (CStmt-F.Print e) = t.Print (plain_expr e)
stmt_step (CStmt-F.Call f args) = t.Call f (map plain_expr args)
stmt_step (CStmt-F.CallLet kind x f args) = t.CallLet kind x f (map plain_expr args)
stmt_step (CStmt-F.Par f args g others) = t.Par f (map plain_expr args) g (map plain_expr others)
stmt_step (CStmt-F.If e first second) = t.If (plain_expr e) (chain first) (chain second)
stmt_step (CStmt-F.While loads e body) = t.While (chain loads) (plain_expr e) (chain body)
stmt_step (CStmt-F.Return e) = t.Return (plain_expr e)

-- a statement
abbrev pub plain_stmt : CStmt → t.Stmt
plain_stmt = fold-CStmt t.Stmt stmt_step

-- a list of statements
abbrev pub plain_stmts : List CStmt → t.Stmts
plain_stmts list = chain (map plain_stmt list)

-- a function
abbrev pub plain_fun : fun.CFun → t.Fun
plain_fun f = record { name = f.name; result = f.result; params = f.params; body = plain_stmts f.body }

-- a program
abbrev pub plain_program : program.CProgram → t.Program
plain_program p = record { structs = p.structs; funs = map plain_fun p.funs }
