-- The plain statements of an atomic store and of blocks.
use Rattle.std.proofs.Common.{◌≡◌, ◌∙◌, sym, ap, List, map}
use Rattle.c_forms.specs.declared.word.Expr.{Expr}
use Rattle.c_forms.specs.declared.word.Local.{Local}
use Rattle.c_forms.specs.declared.stmt.Load.{Load}
use Rattle.c_forms.specs.declared.stmt.Stmt.{Stmt}
use Rattle.c_forms.specs.declared.stmt.Stmt.TheVariants as v
use Rattle.c_forms.specs.declared.stmt.Stmt.TheOpen.{Stmt-F}
use Rattle.c_forms.specs.declared.stmt.Stmt.TheFolds.{fold-roll-Stmt}
use Rattle.c_forms.specs.Plain.{plain_expr, plain_load, plain_stmt, plain_stmts, stmt_step}
use Rattle.c_forms.specs.Tree as t

pub plain_atomic_store : (base : Local) (e : Expr) → plain_stmt (v.AtomicStore base e) ≡ t.AtomicStore base (plain_expr e)
plain_atomic_store base e = ap plain_stmt (sym (v.rolls-AtomicStore base e)) ∙ fold-roll-Stmt t.Stmt stmt_step (Stmt-F.AtomicStore base e)

pub plain_if : (e : Expr) (first second : List Stmt) → plain_stmt (v.If e first second) ≡ t.If (plain_expr e) (plain_stmts first) (plain_stmts second)
plain_if e first second = ap plain_stmt (sym (v.rolls-If e first second)) ∙ fold-roll-Stmt t.Stmt stmt_step (Stmt-F.If e first second)

pub plain_while : (loads : List Load) (e : Expr) (body : List Stmt) → plain_stmt (v.While loads e body) ≡ t.While (map plain_load loads) (plain_expr e) (plain_stmts body)
plain_while loads e body = ap plain_stmt (sym (v.rolls-While loads e body)) ∙ fold-roll-Stmt t.Stmt stmt_step (Stmt-F.While loads e body)
