-- Trees without places: each place is the same one.
use Rattle.std.specs.Prelude.{map}
use Rattle.std.specs.Option.{option_map}
use Rattle.pl_base.specs.declared.pos.Pos.{Pos}
use Rattle.pl_syntax.specs.declared.expr.Binder.{Binder}
use Rattle.pl_syntax.specs.declared.expr.PermExpr.{PermExpr}
use Rattle.pl_syntax.specs.declared.program.StructDecl.{StructDecl}
use Rattle.pl_syntax.specs.Tree as t
use Rattle.pl_syntax.specs.Tree.{Expr, CellExpr, Instance, Prop, Body, Init, Key, Stmt, Stmts, Braced, Else, PredDecl, FunDecl, Decl, Program}

abbrev pub nowhere : Pos
nowhere = record { line = 1; col = 1; byte = 0 }

abbrev pub bare : Expr → Expr
bare (t.Int at n) = t.Int nowhere n
bare (t.Truth at b) = t.Truth nowhere b
bare (t.Null at) = t.Null nowhere
bare (t.Var at x) = t.Var nowhere x
bare (t.Neg at e) = t.Neg nowhere (bare e)
bare (t.Not at e) = t.Not nowhere (bare e)
bare (t.Bin at o a b) = t.Bin nowhere o (bare a) (bare b)

abbrev pub bare_cell : CellExpr → CellExpr
bare_cell (t.Whole base) = t.Whole base
bare_cell (t.At base index) = t.At base (bare index)
bare_cell (t.Field base field) = t.Field base field

abbrev pub bare_instance : Instance → Instance
bare_instance i = record { pos = nowhere; pred = i.pred; args = map bare i.args }

abbrev pub bare_perm : PermExpr → PermExpr
bare_perm q = record { pos = nowhere; part = q.part; var = q.var }

abbrev pub bare_binder : Binder → Binder
bare_binder b = record { pos = nowhere; class = b.class; name = b.name; sort = b.sort }

abbrev pub bare_prop : Prop → Prop
bare_prop (t.Emp at) = t.Emp nowhere
bare_prop (t.Pure at label e) = t.Pure nowhere label (bare e)
bare_prop (t.Star p q) = t.Star (bare_prop p) (bare_prop q)
bare_prop (t.Exists at binders p) = t.Exists nowhere (map bare_binder binders) (bare_prop p)
bare_prop (t.Points at cell perm e) = t.Points nowhere (bare_cell cell) (bare_perm perm) (bare e)
bare_prop (t.Slice at a lo hi perm) = t.Slice nowhere (bare a) (bare lo) (bare hi) (bare_perm perm)
bare_prop (t.Block at a n) = t.Block nowhere (bare a) (bare n)
bare_prop (t.Alive at l perm i) = t.Alive nowhere (bare l) (bare_perm perm) (bare_instance i)
bare_prop (t.Held at l) = t.Held nowhere (bare l)
bare_prop (t.Inv at name i) = t.Inv nowhere (bare name) (bare_instance i)
bare_prop (t.App i) = t.App (bare_instance i)

abbrev pub bare_body : Body → Body
bare_body (t.Plain p) = t.Plain (bare_prop p)
bare_body (t.Cond e p q) = t.Cond (bare e) (bare_prop p) (bare_prop q)

abbrev pub bare_init : Init → Init
bare_init i = record { name = i.name; value = bare i.value }

abbrev pub bare_key : Key → Key
bare_key (t.Cell cell) = t.Cell (bare_cell cell)
bare_key (t.Range a lo hi) = t.Range (bare a) (bare lo) (bare hi)

abbrev mutual
  pub bare_stmt : Stmt → Stmt
  bare_stmt (t.Let at x e) = t.Let nowhere x (bare e)
  bare_stmt (t.Load at x cell is_ghost) = t.Load nowhere x (bare_cell cell) is_ghost
  bare_stmt (t.Store at cell e) = t.Store nowhere (bare_cell cell) (bare e)
  bare_stmt (t.Alloc at x e) = t.Alloc nowhere x (bare e)
  bare_stmt (t.AllocArray at x e n) = t.AllocArray nowhere x (bare e) (bare n)
  bare_stmt (t.AllocAtomic at x e) = t.AllocAtomic nowhere x (bare e)
  bare_stmt (t.New at x structure inits) = t.New nowhere x structure (map bare_init inits)
  bare_stmt (t.Free at base) = t.Free nowhere base
  bare_stmt (t.FreeArray at base) = t.FreeArray nowhere base
  bare_stmt (t.AtomicRead at x base) = t.AtomicRead nowhere x base
  bare_stmt (t.AtomicWrite at base e) = t.AtomicWrite nowhere base (bare e)
  bare_stmt (t.Cas at x base old new) = t.Cas nowhere x base (bare old) (bare new)
  bare_stmt (t.NewLock at x i) = t.NewLock nowhere x (bare_instance i)
  bare_stmt (t.Acquire at lock) = t.Acquire nowhere lock
  bare_stmt (t.Release at lock) = t.Release nowhere lock
  bare_stmt (t.FreeLock at lock) = t.FreeLock nowhere lock
  bare_stmt (t.Read at x) = t.Read nowhere x
  bare_stmt (t.Print at e) = t.Print nowhere (bare e)
  bare_stmt (t.Call at x f args) = t.Call nowhere x f (map bare args)
  bare_stmt (t.Par at f args g others) = t.Par nowhere f (map bare args) g (map bare others)
  bare_stmt (t.If at e first second after) = t.If nowhere (bare e) (bare_block first) (bare_else second) (option_map bare_prop after)
  bare_stmt (t.While at loads e kept body) = t.While nowhere (bare_stmts loads) (bare e) (bare_prop kept) (bare_block body)
  bare_stmt (t.LetMut at x e) = t.LetMut nowhere x (bare e)
  bare_stmt (t.Return at e) = t.Return nowhere (bare e)
  bare_stmt (t.With at name body after) = t.With nowhere name (bare_block body) (option_map bare_prop after)
  bare_stmt (t.GLet at x e) = t.GLet nowhere x (bare e)
  bare_stmt (t.GAlloc at x e) = t.GAlloc nowhere x (bare e)
  bare_stmt (t.NewInv at x i) = t.NewInv nowhere x (bare_instance i)
  bare_stmt (t.Fold at i) = t.Fold nowhere (bare_instance i)
  bare_stmt (t.Unfold at i) = t.Unfold nowhere (bare_instance i)
  bare_stmt (t.Rewrite at p q) = t.Rewrite nowhere (bare_prop p) (bare_prop q)
  bare_stmt (t.Share at key) = t.Share nowhere (bare_key key)
  bare_stmt (t.Gather at key) = t.Gather nowhere (bare_key key)
  bare_stmt (t.Split at a lo hi m) = t.Split nowhere (bare a) (bare lo) (bare hi) (bare m)
  bare_stmt (t.Join at a lo m hi) = t.Join nowhere (bare a) (bare lo) (bare m) (bare hi)
  bare_stmt (t.Focus at base index) = t.Focus nowhere base (bare index)
  bare_stmt (t.Unfocus at base index) = t.Unfocus nowhere base (bare index)
  bare_stmt (t.Assert at label e hint) = t.Assert nowhere label (bare e) hint
  bare_stmt (t.WithAssert at binders p) = t.WithAssert nowhere (map bare_binder binders) (bare_prop p)
  bare_stmt (t.Drop at p) = t.Drop nowhere (bare_prop p)

  pub bare_stmts : Stmts → Stmts
  bare_stmts t.end = t.end
  bare_stmts (t.more s rest) = t.more (bare_stmt s) (bare_stmts rest)

  pub bare_block : Braced → Braced
  bare_block (t.braces list close) = t.braces (bare_stmts list) nowhere

  pub bare_else : Else → Else
  bare_else t.no_else = t.no_else
  bare_else (t.else second) = t.else (bare_block second)

abbrev pub bare_struct : StructDecl → StructDecl
bare_struct s = record { pos = nowhere; name = s.name; fields = map bare_binder s.fields }

abbrev pub bare_pred : PredDecl → PredDecl
bare_pred p = record { pos = nowhere; name = p.name; params = map bare_binder p.params; body = bare_body p.body }

abbrev pub bare_fun : FunDecl → FunDecl
bare_fun f = record {
  pos = nowhere;
  is_ghost = f.is_ghost;
  name = f.name;
  params = map bare_binder f.params;
  opens = f.opens;
  before = bare_prop f.before;
  result = option_map bare_binder f.result;
  after = bare_prop f.after;
  measure = option_map bare f.measure;
  body = bare_block f.body;
}

abbrev pub bare_decl : Decl → Decl
bare_decl (t.Struct s) = t.Struct (bare_struct s)
bare_decl (t.Pred p) = t.Pred (bare_pred p)
bare_decl (t.Fun f) = t.Fun (bare_fun f)

-- a program, with no places in it
unfoldable pub bare_program : Program → Program
bare_program p = record { decls = map bare_decl p.decls }
