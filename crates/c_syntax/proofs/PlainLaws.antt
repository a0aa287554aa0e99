-- The plain statement of each statement.
use Rattle.std.proofs.Common.{◌≡◌, ◌∙◌, sym, ap, List, map}
use Rattle.c_syntax.specs.declared.kind.CType.{CType}
use Rattle.c_syntax.specs.declared.kind.Local.{Local}
use Rattle.c_syntax.specs.declared.expr.CExpr.{CExpr}
use Rattle.c_syntax.specs.declared.expr.CCell.{CCell}
use Rattle.c_syntax.specs.declared.stmt.CInit.{CInit}
use Rattle.c_syntax.specs.declared.stmt.CStmt.{CStmt}
use Rattle.c_syntax.specs.declared.stmt.CStmt.TheVariants as v
use Rattle.c_syntax.specs.declared.stmt.CStmt.TheOpen.{CStmt-F}
use Rattle.c_syntax.specs.declared.stmt.CStmt.TheFolds.{fold-roll-CStmt}
use Rattle.c_syntax.specs.Plain.{plain_expr, plain_cell, plain_init, plain_stmt, plain_stmts, stmt_step}
use Rattle.c_syntax.specs.Tree as t
use Rattle.c_syntax.specs.Tree.{Name}

pub plain_stmt-Let : (kind : CType) (x : Local) (e : CExpr) → plain_stmt (v.Let kind x e) ≡ t.Let kind x (plain_expr e)
plain_stmt-Let kind x e = ap plain_stmt (sym (v.rolls-Let kind x e)) ∙ fold-roll-CStmt t.Stmt stmt_step (CStmt-F.Let kind x e)

pub plain_stmt-Load : (kind : CType) (x : Local) (c : CCell) → plain_stmt (v.Load kind x c) ≡ t.Load kind x (plain_cell c)
plain_stmt-Load kind x c = ap plain_stmt (sym (v.rolls-Load kind x c)) ∙ fold-roll-CStmt t.Stmt stmt_step (CStmt-F.Load kind x c)

pub plain_stmt-Store : (c : CCell) (e : CExpr) → plain_stmt (v.Store c e) ≡ t.Store (plain_cell c) (plain_expr e)
plain_stmt-Store c e = ap plain_stmt (sym (v.rolls-Store c e)) ∙ fold-roll-CStmt t.Stmt stmt_step (CStmt-F.Store c e)

pub plain_stmt-New : (kind : CType) (x : Local) (e : CExpr) → plain_stmt (v.New kind x e) ≡ t.New kind x (plain_expr e)
plain_stmt-New kind x e = ap plain_stmt (sym (v.rolls-New kind x e)) ∙ fold-roll-CStmt t.Stmt stmt_step (CStmt-F.New kind x e)

pub plain_stmt-NewArray : (kind : CType) (x : Local) (e count : CExpr) → plain_stmt (v.NewArray kind x e count) ≡ t.NewArray kind x (plain_expr e) (plain_expr count)
plain_stmt-NewArray kind x e count = ap plain_stmt (sym (v.rolls-NewArray kind x e count)) ∙ fold-roll-CStmt t.Stmt stmt_step (CStmt-F.NewArray kind x e count)

pub plain_stmt-NewAtomic : (x : Local) (e : CExpr) → plain_stmt (v.NewAtomic x e) ≡ t.NewAtomic x (plain_expr e)
plain_stmt-NewAtomic x e = ap plain_stmt (sym (v.rolls-NewAtomic x e)) ∙ fold-roll-CStmt t.Stmt stmt_step (CStmt-F.NewAtomic x e)

pub plain_stmt-NewStruct : (x : Local) (s : Name) (inits : List CInit) → plain_stmt (v.NewStruct x s inits) ≡ t.NewStruct x s (map plain_init inits)
plain_stmt-NewStruct x s inits = ap plain_stmt (sym (v.rolls-NewStruct x s inits)) ∙ fold-roll-CStmt t.Stmt stmt_step (CStmt-F.NewStruct x s inits)

pub plain_stmt-Free : (base : Local) → plain_stmt (v.Free base) ≡ t.Free base
plain_stmt-Free base = ap plain_stmt (sym (v.rolls-Free base)) ∙ fold-roll-CStmt t.Stmt stmt_step (CStmt-F.Free base)

pub plain_stmt-AtomicLoad : (x base : Local) → plain_stmt (v.AtomicLoad x base) ≡ t.AtomicLoad x base
plain_stmt-AtomicLoad x base = ap plain_stmt (sym (v.rolls-AtomicLoad x base)) ∙ fold-roll-CStmt t.Stmt stmt_step (CStmt-F.AtomicLoad x base)

pub plain_stmt-AtomicStore : (base : Local) (e : CExpr) → plain_stmt (v.AtomicStore base e) ≡ t.AtomicStore base (plain_expr e)
plain_stmt-AtomicStore base e = ap plain_stmt (sym (v.rolls-AtomicStore base e)) ∙ fold-roll-CStmt t.Stmt stmt_step (CStmt-F.AtomicStore base e)

pub plain_stmt-Cas : (x base : Local) (old new : CExpr) → plain_stmt (v.Cas x base old new) ≡ t.Cas x base (plain_expr old) (plain_expr new)
plain_stmt-Cas x base old new = ap plain_stmt (sym (v.rolls-Cas x base old new)) ∙ fold-roll-CStmt t.Stmt stmt_step (CStmt-F.Cas x base old new)

pub plain_stmt-NewLock : (x : Local) → plain_stmt (v.NewLock x) ≡ t.NewLock x
plain_stmt-NewLock x = ap plain_stmt (sym (v.rolls-NewLock x)) ∙ fold-roll-CStmt t.Stmt stmt_step (CStmt-F.NewLock x)

pub plain_stmt-Acquire : (lock : Local) → plain_stmt (v.Acquire lock) ≡ t.Acquire lock
plain_stmt-Acquire lock = ap plain_stmt (sym (v.rolls-Acquire lock)) ∙ fold-roll-CStmt t.Stmt stmt_step (CStmt-F.Acquire lock)

pub plain_stmt-Release : (lock : Local) → plain_stmt (v.Release lock) ≡ t.Release lock
plain_stmt-Release lock = ap plain_stmt (sym (v.rolls-Release lock)) ∙ fold-roll-CStmt t.Stmt stmt_step (CStmt-F.Release lock)

pub plain_stmt-Read : (x : Local) → plain_stmt (v.Read x) ≡ t.Read x
plain_stmt-Read x = ap plain_stmt (sym (v.rolls-Read x)) ∙ fold-roll-CStmt t.Stmt stmt_step (CStmt-F.Read x)

pub plain_stmt-Print : (e : CExpr) → plain_stmt (v.Print e) ≡ t.Print (plain_expr e)
plain_stmt-Print e = ap plain_stmt (sym (v.rolls-Print e)) ∙ fold-roll-CStmt t.Stmt stmt_step (CStmt-F.Print e)

pub plain_stmt-Call : (f : Name) (args : List CExpr) → plain_stmt (v.Call f args) ≡ t.Call f (map plain_expr args)
plain_stmt-Call f args = ap plain_stmt (sym (v.rolls-Call f args)) ∙ fold-roll-CStmt t.Stmt stmt_step (CStmt-F.Call f args)

pub plain_stmt-CallLet : (kind : CType) (x : Local) (f : Name) (args : List CExpr) → plain_stmt (v.CallLet kind x f args) ≡ t.CallLet kind x f (map plain_expr args)
plain_stmt-CallLet kind x f args = ap plain_stmt (sym (v.rolls-CallLet kind x f args)) ∙ fold-roll-CStmt t.Stmt stmt_step (CStmt-F.CallLet kind x f args)

pub plain_stmt-Par : (f : Name) (args : List CExpr) (g : Name) (others : List CExpr) → plain_stmt (v.Par f args g others) ≡ t.Par f (map plain_expr args) g (map plain_expr others)
plain_stmt-Par f args g others = ap plain_stmt (sym (v.rolls-Par f args g others)) ∙ fold-roll-CStmt t.Stmt stmt_step (CStmt-F.Par f args g others)

pub plain_stmt-If : (e : CExpr) (first second : List CStmt) → plain_stmt (v.If e first second) ≡ t.If (plain_expr e) (plain_stmts first) (plain_stmts second)
plain_stmt-If e first second = ap plain_stmt (sym (v.rolls-If e first second)) ∙ fold-roll-CStmt t.Stmt stmt_step (CStmt-F.If e first second)

pub plain_stmt-While : (loads : List CStmt) (e : CExpr) (body : List CStmt) → plain_stmt (v.While loads e body) ≡ t.While (plain_stmts loads) (plain_expr e) (plain_stmts body)
plain_stmt-While loads e body = ap plain_stmt (sym (v.rolls-While loads e body)) ∙ fold-roll-CStmt t.Stmt stmt_step (CStmt-F.While loads e body)

pub plain_stmt-Return : (e : CExpr) → plain_stmt (v.Return e) ≡ t.Return (plain_expr e)
plain_stmt-Return e = ap plain_stmt (sym (v.rolls-Return e)) ∙ fold-roll-CStmt t.Stmt stmt_step (CStmt-F.Return e)
