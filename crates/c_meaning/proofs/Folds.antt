-- The statements of a list of C, one at a time.
use Rattle.std.proofs.Common.{◌≡◌, ℕ, List, ◌∷◌, ◌+◌, ◌<◌, length, drop, map, sym, ap, ◌∙◌, refl}
use Rattle.std.proofs.Math.Seq.{drop-cons}
use Rattle.std.proofs.Math.ListN.{get_or}
use native.Mathlib.Numerals.{unary_clauses}
use Rattle.c_syntax.specs.Tree as c
use Rattle.c_syntax.specs.Plain as p
use Rattle.c_syntax.specs.Plain.{plain_stmt, plain_stmts, stmt_step, chain}
use Rattle.c_syntax.specs.declared.expr.CExpr.{CExpr}
use denote.Hole.Carrier
use Rattle.c_syntax.specs.declared.stmt.CStmt.{CStmt, CStmt-F}
use Rattle.c_syntax.specs.declared.stmt.CStmt.TheOpen as Open
use Rattle.c_syntax.specs.declared.stmt.CStmt.TheViews as view
use Rattle.c_syntax.specs.declared.stmt.CStmt.TheVariants.{rolls-If, rolls-While, Par}
use Rattle.c_syntax.specs.declared.stmt.CStmt.TheFolds.{fold-roll-CStmt}
use Rattle.c_meaning.specs.Tree.{both, more}
use Rattle.c_meaning.specs.Local.{nest}
use Rattle.c_meaning.specs.Tree.{greatest}
use Rattle.c_meaning.specs.Resolve.{Names, before_last, last_of, resolved}

pub plain_if : (e : CExpr) (a b : List CStmt) → plain_stmt (view.If e a b) ≡ c.If (p.plain_expr e) (plain_stmts a) (plain_stmts b)
plain_if e a b = ap plain_stmt (sym (rolls-If e a b)) ∙ fold-roll-CStmt c.Stmt stmt_step (Open.CStmt-F.If e a b)

pub plain_while : (l : List CStmt) (e : CExpr) (b : List CStmt) → plain_stmt (view.While l e b) ≡ c.While (plain_stmts l) (p.plain_expr e) (plain_stmts b)
plain_while l e b = ap plain_stmt (sym (rolls-While l e b)) ∙ fold-roll-CStmt c.Stmt stmt_step (Open.CStmt-F.While l e b)

pub plain_par : (f : c.Name) (a : List CExpr) (g : c.Name) (o : List CExpr) → plain_stmt (Par f a g o) ≡ c.Par f (map p.plain_expr a) g (map p.plain_expr o)
unfolding view.roll-CStmt denote.Hole.Carrier.roll
plain_par f a g o = fold-roll-CStmt c.Stmt stmt_step (Open.CStmt-F.Par f a g o)

-- the statement of a turn, and those after it
pub step_in : (N : Names) (list : List CStmt) (i : ℕ) (s : CStmt) → s ≡ get_or list i s → i < length list → resolved N (plain_stmts (drop i list)) ≡ both (before_last N (plain_stmt s)) (more (last_of N (plain_stmt s)) (resolved N (plain_stmts (drop (i + 1) list))))
step_in N list i s is lt =
    let d : drop i list ≡ get_or list i s ∷ drop (i + 1) list = simp unary_clauses (drop-cons list i s lt) in
    ap (λ z. resolved N (plain_stmts z)) d ∙ ap (λ z. resolved N (c.more (plain_stmt z) (plain_stmts (drop (i + 1) list)))) (sym is)

pub flat_before : (N : Names) (s : c.Stmt) → nest (before_last N s) ≡ 0
flat_before N (c.Let k x e) = refl
flat_before N (c.Load k x c) = refl
flat_before N (c.Store c e) = refl
flat_before N (c.New k x e) = refl
flat_before N (c.NewArray k x e n) = refl
flat_before N (c.NewAtomic x e) = refl
flat_before N (c.NewStruct x n i) = refl
flat_before N (c.Free b) = refl
flat_before N (c.AtomicLoad x b) = refl
flat_before N (c.AtomicStore b e) = refl
flat_before N (c.Cas x b o n) = refl
flat_before N (c.NewLock x) = refl
flat_before N (c.Acquire l) = refl
flat_before N (c.Release l) = refl
flat_before N (c.Read x) = refl
flat_before N (c.Print e) = refl
flat_before N (c.Call f a) = refl
flat_before N (c.CallLet k x f a) = refl
flat_before N (c.Par f a g o) = refl
flat_before N (c.If e a b) = refl
flat_before N (c.While l e b) = refl
flat_before N (c.Return e) = refl

pub unbound_before : (N : Names) (s : c.Stmt) → greatest (before_last N s) ≡ 0
unbound_before N (c.Let k x e) = refl
unbound_before N (c.Load k x c) = refl
unbound_before N (c.Store c e) = refl
unbound_before N (c.New k x e) = refl
unbound_before N (c.NewArray k x e n) = refl
unbound_before N (c.NewAtomic x e) = refl
unbound_before N (c.NewStruct x n i) = refl
unbound_before N (c.Free b) = refl
unbound_before N (c.AtomicLoad x b) = refl
unbound_before N (c.AtomicStore b e) = refl
unbound_before N (c.Cas x b o n) = refl
unbound_before N (c.NewLock x) = refl
unbound_before N (c.Acquire l) = refl
unbound_before N (c.Release l) = refl
unbound_before N (c.Read x) = refl
unbound_before N (c.Print e) = refl
unbound_before N (c.Call f a) = refl
unbound_before N (c.CallLet k x f a) = refl
unbound_before N (c.Par f a g o) = refl
unbound_before N (c.If e a b) = refl
unbound_before N (c.While l e b) = refl
unbound_before N (c.Return e) = refl
