-- From the program's tree to plain data.
use Rattle.std.specs.Prelude.{List, [], ◌∷◌, map, Option, Some, None}
use Rattle.std.specs.Option.{option_map}
use Rattle.pl_syntax.specs.declared.expr.Expr as expr
use Rattle.pl_syntax.specs.declared.expr.Expr.TheVariants.{Int, Truth, Null, Var, Neg', Not', Bin'}
use Rattle.pl_syntax.specs.declared.expr.CellExpr as cell
use Rattle.pl_syntax.specs.declared.expr.CellExpr.TheVariants.{Whole, At, Field}
use Rattle.pl_syntax.specs.declared.expr.Instance as instance
use Rattle.pl_syntax.specs.declared.prop.Prop as prop
use Rattle.pl_syntax.specs.declared.prop.Prop.TheVariants.{Emp, Pure, Star', Exists', Points, Slice, Block, Alive, Held, Inv, App}
use Rattle.pl_syntax.specs.declared.prop.Body as body
use Rattle.pl_syntax.specs.declared.prop.Body.TheVariants.{Plain, Cond}
use Rattle.pl_syntax.specs.declared.stmt.Init as init
use Rattle.pl_syntax.specs.declared.stmt.Key as key
use Rattle.pl_syntax.specs.declared.stmt.Key.TheVariants as k
use Rattle.pl_syntax.specs.declared.stmt.Stmt.{Stmt, fold-Stmt}
use Rattle.pl_syntax.specs.declared.stmt.Stmt.TheOpen.{Stmt-F}
use Rattle.pl_syntax.specs.declared.stmt.Stmts.{Stmts, Stmts-F, fold-Stmts}
use Rattle.pl_syntax.specs.declared.program.PredDecl as pred
use Rattle.pl_syntax.specs.declared.program.FunDecl as fun
use Rattle.pl_syntax.specs.declared.program.Decl as decl
use Rattle.pl_syntax.specs.declared.program.Decl.TheVariants as d
use Rattle.pl_syntax.specs.declared.program.Program as program
use Rattle.pl_syntax.specs.Tree as t

abbrev pub plain_expr : expr.Expr → t.Expr
plain_expr (Int p n) = t.Int p n
plain_expr (Truth p b) = t.Truth p b
plain_expr (Null p) = t.Null p
plain_expr (Var p x) = t.Var p x
plain_expr (Neg' p q e) = t.Neg p (plain_expr e)
plain_expr (Not' p q e) = t.Not p (plain_expr e)
plain_expr (Bin' p op q a r b) = t.Bin p op (plain_expr a) (plain_expr b)

abbrev pub plain_cell : cell.CellExpr → t.CellExpr
plain_cell (Whole base) = t.Whole base
plain_cell (At base index) = t.At base (plain_expr index)
plain_cell (Field base field) = t.Field base field

abbrev pub plain_instance : instance.Instance → t.Instance
plain_instance i = record { pos = i.pos; pred = i.pred; args = map plain_expr i.args }

abbrev pub plain_prop : prop.Prop → t.Prop
plain_prop (Emp pos) = t.Emp pos
plain_prop (Pure pos label e) = t.Pure pos label (plain_expr e)
plain_prop (Star' l p r q) = t.Star (plain_prop p) (plain_prop q)
plain_prop (Exists' pos binders l p) = t.Exists pos binders (plain_prop p)
plain_prop (Points pos cell perm e) = t.Points pos (plain_cell cell) perm (plain_expr e)
plain_prop (Slice pos a lo hi perm) = t.Slice pos (plain_expr a) (plain_expr lo) (plain_expr hi) perm
plain_prop (Block pos a n) = t.Block pos (plain_expr a) (plain_expr n)
plain_prop (Alive pos l perm i) = t.Alive pos (plain_expr l) perm (plain_instance i)
plain_prop (Held pos l) = t.Held pos (plain_expr l)
plain_prop (Inv pos name i) = t.Inv pos (plain_expr name) (plain_instance i)
plain_prop (App i) = t.App (plain_instance i)

abbrev pub plain_body : body.Body → t.Body
plain_body (Plain p) = t.Plain (plain_prop p)
plain_body (Cond e p q) = t.Cond (plain_expr e) (plain_prop p) (plain_prop q)

abbrev pub plain_init : init.Init → t.Init
plain_init i = record { name = i.name; value = plain_expr i.value }

abbrev pub plain_key : key.Key → t.Key
plain_key (k.Cell cell) = t.Cell (plain_cell cell)
plain_key (k.Slice a lo hi) = t.Range (plain_expr a) (plain_expr lo) (plain_expr hi)

-- statements, in a row
abbrev pub chain : List t.Stmt → t.Stmts
chain [] = t.end
chain (s ∷ rest) = t.more s (chain rest)

abbrev pub otherwise : Option t.Braced → t.Else
otherwise None = t.no_else
otherwise (Some second) = t.else second

-- one layer of a block, with the plain statements in it
abbrev pub stmts_step : Stmts-F t.Stmt t.Braced → t.Braced
stmts_step b = t.braces (chain b.list) b.close

-- one layer of a statement, with the plain blocks in it
abbrev pub stmt_step : Stmt-F t.Stmt t.Braced → t.Stmt
stmt_step (Stmt-F.Let p x e) = t.Let p x (plain_expr e)
stmt_step (Stmt-F.Load p x c is_ghost) = t.Load p x (plain_cell c) is_ghost
stmt_step (Stmt-F.Store p c e) = t.Store p (plain_cell c) (plain_expr e)
stmt_step (Stmt-F.Alloc p x e) = t.Alloc p x (plain_expr e)
stmt_step (Stmt-F.AllocArray p x e n) = t.AllocArray p x (plain_expr e) (plain_expr n)
stmt_step (Stmt-F.AllocAtomic p x e) = t.AllocAtomic p x (plain_expr e)
stmt_step (Stmt-F.New p x s inits) = t.New p x s (map plain_init inits)
stmt_step (Stmt-F.Free p base) = t.Free p base
stmt_step (Stmt-F.FreeArray p base) = t.FreeArray p base
stmt_step (Stmt-F.AtomicRead p x base) = t.AtomicRead p x base
stmt_step (Stmt-F.AtomicWrite p base e) = t.AtomicWrite p base (plain_expr e)
stmt_step (Stmt-F.Cas p x base old new) = t.Cas p x base (plain_expr old) (plain_expr new)
stmt_step (Stmt-F.NewLock p x i) = t.NewLock p x (plain_instance i)
stmt_step (Stmt-F.Acquire p lock) = t.Acquire p lock
stmt_step (Stmt-F.Release p lock) = t.Release p lock
stmt_step (Stmt-F.FreeLock p lock) = t.FreeLock p lock
stmt_step (Stmt-F.Read p x) = t.Read p x
stmt_step (Stmt-F.Print p e) = t.Print p (plain_expr e)
stmt_step (Stmt-F.Call p x f args) = t.Call p x f (map plain_expr args)
stmt_step (Stmt-F.Par p f args g others) = t.Par p f (map plain_expr args) g (map plain_expr others)
stmt_step (Stmt-F.If p e first second after) = t.If p (plain_expr e) first (otherwise second) (option_map plain_prop after)
stmt_step (Stmt-F.While p loads e kept body) = t.While p (chain loads) (plain_expr e) (plain_prop kept) body
stmt_step (Stmt-F.LetMut p x e) = t.LetMut p x (plain_expr e)
stmt_step (Stmt-F.Return p e) = t.Return p (plain_expr e)
stmt_step (Stmt-F.With p name body after) = t.With p name body (option_map plain_prop after)
stmt_step (Stmt-F.GLet p x e) = t.GLet p x (plain_expr e)
stmt_step (Stmt-F.GAlloc p x e) = t.GAlloc p x (plain_expr e)
stmt_step (Stmt-F.NewInv p x i) = t.NewInv p x (plain_instance i)
stmt_step (Stmt-F.Fold p i) = t.Fold p (plain_instance i)
stmt_step (Stmt-F.Unfold p i) = t.Unfold p (plain_instance i)
stmt_step (Stmt-F.Rewrite p a b) = t.Rewrite p (plain_prop a) (plain_prop b)
stmt_step (Stmt-F.Share p key) = t.Share p (plain_key key)
stmt_step (Stmt-F.Gather p key) = t.Gather p (plain_key key)
stmt_step (Stmt-F.Split p a lo hi m) = t.Split p (plain_expr a) (plain_expr lo) (plain_expr hi) (plain_expr m)
stmt_step (Stmt-F.Join p a lo m hi) = t.Join p (plain_expr a) (plain_expr lo) (plain_expr m) (plain_expr hi)
stmt_step (Stmt-F.Focus p base index) = t.Focus p base (plain_expr index)
stmt_step (Stmt-F.Unfocus p base index) = t.Unfocus p base (plain_expr index)
stmt_step (Stmt-F.Assert p label e hint) = t.Assert p label (plain_expr e) hint
stmt_step (Stmt-F.WithAssert p binders a) = t.WithAssert p binders (plain_prop a)
stmt_step (Stmt-F.Drop p a) = t.Drop p (plain_prop a)

abbrev pub plain_stmt : Stmt → t.Stmt
plain_stmt = fold-Stmt t.Stmt t.Braced stmt_step stmts_step

abbrev pub plain_block : Stmts → t.Braced
plain_block = fold-Stmts t.Stmt t.Braced stmt_step stmts_step

abbrev pub plain_stmts : List Stmt → t.Stmts
plain_stmts list = chain (map plain_stmt list)

abbrev pub plain_pred : pred.PredDecl → t.PredDecl
plain_pred p = record { pos = p.pos; name = p.name; params = p.params; body = plain_body p.body }

abbrev pub plain_fun : fun.FunDecl → t.FunDecl
plain_fun f = record {
  pos = f.pos;
  is_ghost = f.is_ghost;
  name = f.name;
  params = f.params;
  opens = f.opens;
  before = plain_prop f.before;
  result = f.result;
  after = plain_prop f.after;
  measure = option_map plain_expr f.measure;
  body = plain_block f.body;
}

abbrev pub plain_decl : decl.Decl → t.Decl
plain_decl (d.Struct s) = t.Struct s
plain_decl (d.Pred p) = t.Pred (plain_pred p)
plain_decl (d.Fun f) = t.Fun (plain_fun f)

abbrev pub plain_program : program.Program → t.Program
plain_program p = record { decls = map plain_decl p.decls }
