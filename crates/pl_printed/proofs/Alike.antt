-- Trees that differ in places alone are printed alike.
use Rattle.std.proofs.Common.{◌≡◌, ◌∙◌, ℕ, ◌+◌, nat_lt, Bool, true, false, List, [], ◌∷◌, ◌++◌, map, flat_map, Option, Some, None, refl, sym, ap}
use Rattle.std.specs.Prelude.{codes, is_some}
use Rattle.std.specs.Option.{option_map}
use Rattle.pl_syntax.specs.declared.expr.Binder.{Binder}
use Rattle.pl_syntax.specs.Tree as t
use Rattle.pl_syntax.specs.Tree.{Expr, CellExpr, Instance, Prop, Body, Init, Key, Stmt, Stmts, Braced, Else, FunDecl, Decl, Program}
use Rattle.pl_print.specs.Lists.{in_brackets}
use Rattle.pl_print.specs.ExprText.{tightness, left_place, right_place, operator, expr_text, value_text, sum_text, cell_text, instance_text, binder_text}
use Rattle.pl_print.specs.PropText.{prop_text, body_text}
use Rattle.pl_print.specs.StmtText.{init_text, key_text, after_text, kept_text, stmt_text, loads_text, lines_text, block_text, else_text}
use Rattle.pl_print.specs.ProgramText.{param_text, is_emp, has_clauses, prop_clause, result_clause, measure_clause, fun_text, decl_text, program_text}
use Rattle.pl_printed.specs.Bare.{bare, bare_cell, bare_instance, bare_binder, bare_prop, bare_body, bare_init, bare_key, bare_stmt, bare_stmts, bare_block, bare_else, bare_fun, bare_decl, bare_program}

expr : (place : ℕ) (e : Expr) → expr_text place (bare e) ≡ expr_text place e
expr place (t.Int at n) = refl
expr place (t.Truth at b) = refl
expr place (t.Null at) = refl
expr place (t.Var at x) = refl
expr place (t.Neg at e) = ap (λ (z : List ℕ). codes "-" ++ z) (expr 7 e)
expr place (t.Not at e) = ap (λ (z : List ℕ). codes "not " ++ z) (expr 6 e)
expr place (t.Bin at o a b) =
    ap (λ (z : List ℕ). in_brackets (nat_lt (tightness o) place) (z ++ operator o ++ expr_text (right_place o) (bare b))) (expr (left_place o) a)
    ∙ ap (λ (z : List ℕ). in_brackets (nat_lt (tightness o) place) (expr_text (left_place o) a ++ operator o ++ z)) (expr (right_place o) b)

value : (e : Expr) → value_text (bare e) ≡ value_text e
value e = expr 0 e

sum : (e : Expr) → sum_text (bare e) ≡ sum_text e
sum e = expr 4 e

values : (es : List Expr) → map value_text (map bare es) ≡ map value_text es
values [] = refl
values (e ∷ es) = ap (λ (z : List ℕ). z ∷ map value_text (map bare es)) (value e) ∙ ap (λ (z : List (List ℕ)). value_text e ∷ z) (values es)

cell : (s : CellExpr) → cell_text (bare_cell s) ≡ cell_text s
cell (t.Whole base) = refl
cell (t.At base index) = rw (sum index) refl
cell (t.Field base field) = refl

instance : (i : Instance) → instance_text (bare_instance i) ≡ instance_text i
instance i = rw (values i.args) refl

binders : (bs : List Binder) → map binder_text (map bare_binder bs) ≡ map binder_text bs
binders [] = refl
binders (b ∷ bs) = ap (λ (z : List (List ℕ)). binder_text b ∷ z) (binders bs)

prop : (b : Bool) (p : Prop) → prop_text b (bare_prop p) ≡ prop_text b p
prop b (t.Emp at) = refl
prop b (t.Pure at label e) = rw (value e) refl
prop b (t.Star p q) = rw (prop true p, prop false q) refl
prop b (t.Exists at bs p) = rw (binders bs, prop false p) refl
prop b (t.Points at s q e) = rw (cell s, sum e) refl
prop b (t.Slice at a lo hi q) = rw (value a, value lo, value hi) refl
prop b (t.Block at a n) = rw (value a, value n) refl
prop b (t.Alive at l q i) = rw (value l, instance i) refl
prop b (t.Held at l) = rw (value l) refl
prop b (t.Inv at e i) = rw (value e, instance i) refl
prop b (t.App i) = instance i

body : (b : Body) → body_text (bare_body b) ≡ body_text b
body (t.Plain p) = prop false p
body (t.Cond e p q) = rw (value e, prop false p, prop false q) refl

inits : (is : List Init) → map init_text (map bare_init is) ≡ map init_text is
inits [] = refl
inits (i ∷ is) = rw (value i.value, inits is) refl

key : (s : Key) → key_text (bare_key s) ≡ key_text s
key (t.Cell s) = cell s
key (t.Range a lo hi) = rw (value a, value lo, value hi) refl

after : (o : Option Prop) → after_text (option_map bare_prop o) ≡ after_text o
after None = refl
after (Some p) = rw (prop false p) refl

kept : (e : Expr) (p : Prop) → kept_text (bare e) (bare_prop p) ≡ kept_text e p
unfolding kept_text
kept e p = rw (value e, prop false p) refl

mutual
  stmt : (n : ℕ) (s : Stmt) → stmt_text n (bare_stmt s) ≡ stmt_text n s
  stmt n (t.Let at x e) = rw (value e) refl
  stmt n (t.Load at x s false) = rw (cell s) refl
  stmt n (t.Load at x s true) = rw (cell s) refl
  stmt n (t.Store at s e) = rw (cell s, value e) refl
  stmt n (t.Alloc at x e) = rw (value e) refl
  stmt n (t.AllocArray at x e m) = rw (value e, value m) refl
  stmt n (t.AllocAtomic at x e) = rw (value e) refl
  stmt n (t.New at x s is) = rw (inits is) refl
  stmt n (t.Free at x) = refl
  stmt n (t.FreeArray at x) = refl
  stmt n (t.AtomicRead at x y) = refl
  stmt n (t.AtomicWrite at x e) = rw (value e) refl
  stmt n (t.Cas at x y e m) = rw (value e, value m) refl
  stmt n (t.NewLock at x i) = rw (instance i) refl
  stmt n (t.Acquire at x) = refl
  stmt n (t.Release at x) = refl
  stmt n (t.FreeLock at x) = refl
  stmt n (t.Read at x) = refl
  stmt n (t.Print at e) = rw (value e) refl
  stmt n (t.Call at None f es) = rw (values es) refl
  stmt n (t.Call at (Some x) f es) = rw (values es) refl
  stmt n (t.Par at f es g ds) = rw (values es, values ds) refl
  stmt n (t.If at e first second o) = rw (value e, block n first, otherwise n second, after o) refl
  stmt n (t.While at ls e p b) = rw (loads n ls, kept e p, block n b) refl
  stmt n (t.LetMut at x e) = rw (value e) refl
  stmt n (t.Return at e) = rw (value e) refl
  stmt n (t.With at x b o) = rw (block n b, after o) refl
  stmt n (t.GLet at x e) = rw (value e) refl
  stmt n (t.GAlloc at x e) = rw (value e) refl
  stmt n (t.NewInv at x i) = rw (instance i) refl
  stmt n (t.Fold at i) = rw (instance i) refl
  stmt n (t.Unfold at i) = rw (instance i) refl
  stmt n (t.Rewrite at p q) = rw (prop false p, prop false q) refl
  stmt n (t.Share at s) = rw (key s) refl
  stmt n (t.Gather at s) = rw (key s) refl
  stmt n (t.Split at a lo hi m) = rw (value a, value lo, value hi, value m) refl
  stmt n (t.Join at a lo m hi) = rw (value a, value lo, value m, value hi) refl
  stmt n (t.Focus at x e) = rw (sum e) refl
  stmt n (t.Unfocus at x e) = rw (sum e) refl
  stmt n (t.Assert at l e o) = rw (value e) refl
  stmt n (t.WithAssert at bs p) = rw (binders bs, prop false p) refl
  stmt n (t.Drop at p) = rw (prop false p) refl

  loads : (n : ℕ) (list : Stmts) → loads_text n (bare_stmts list) ≡ loads_text n list
  loads n t.end = refl
  loads n (t.more s rest) = rw (stmt n s, loads n rest) refl

  lines : (n : ℕ) (list : Stmts) → lines_text n (bare_stmts list) ≡ lines_text n list
  lines n t.end = refl
  lines n (t.more s rest) = rw (stmt n s, lines n rest) refl

  block : (n : ℕ) (b : Braced) → block_text n (bare_block b) ≡ block_text n b
  block n (t.braces list close) = rw (lines (n + 1) list) refl

  otherwise : (n : ℕ) (e : Else) → else_text n (bare_else e) ≡ else_text n e
  otherwise n t.no_else = refl
  otherwise n (t.else second) = rw (block n second) refl

params : (g : Bool) (bs : List Binder) → map (param_text g) (map bare_binder bs) ≡ map (param_text g) bs
params g [] = refl
params g (b ∷ bs) = ap (λ (z : List (List ℕ)). param_text g b ∷ z) (params g bs)

emp : (p : Prop) → is_emp (bare_prop p) ≡ is_emp p
emp (t.Emp at) = refl
emp (t.Pure at l e) = refl
emp (t.Star p q) = refl
emp (t.Exists at bs p) = refl
emp (t.Points at s q e) = refl
emp (t.Slice at a lo hi q) = refl
emp (t.Block at a n) = refl
emp (t.Alive at l q i) = refl
emp (t.Held at l) = refl
emp (t.Inv at e i) = refl
emp (t.App i) = refl

shown : (word : List ℕ) (p : Prop) → prop_clause word (bare_prop p) ≡ prop_clause word p
shown word p = rw (emp p, prop false p) refl

result : (o : Option Binder) → result_clause (option_map bare_binder o) ≡ result_clause o
result None = refl
result (Some b) = refl

measure : (o : Option Expr) → measure_clause (option_map bare o) ≡ measure_clause o
measure None = refl
measure (Some e) = rw (value e) refl

there : {A : Type 0} (f : A → A) (o : Option A) → is_some (option_map f o) ≡ is_some o
there f None = refl
there f (Some x) = refl

clauses : (f : FunDecl) → has_clauses (bare_fun f) ≡ has_clauses f
clauses f = rw (emp f.before, there bare_binder f.result, emp f.after, there bare f.measure) refl

function : (f : FunDecl) → fun_text (bare_fun f) ≡ fun_text f
function f = rw (clauses f, params f.is_ghost f.params, shown (codes "requires ") f.before, result f.result, shown (codes "ensures ") f.after, measure f.measure, block 0 f.body) refl

decl : (d : Decl) → decl_text (bare_decl d) ≡ decl_text d
decl (t.Struct s) = rw (binders s.fields) refl
decl (t.Pred p) = rw (binders p.params, body p.body) refl
decl (t.Fun f) = function f

decls : (ds : List Decl) → flat_map decl_text (map bare_decl ds) ≡ flat_map decl_text ds
decls [] = refl
decls (d ∷ ds) = rw (decl d, decls ds) refl

program : (p : Program) → program_text (bare_program p) ≡ program_text p
unfolding bare_program program_text
program p = decls p.decls

-- Programs that differ in places alone have the same text.
pub printed_alike : (p q : Program) → bare_program q ≡ bare_program p → program_text q ≡ program_text p
printed_alike p q h = sym (program q) ∙ ap program_text h ∙ program p
