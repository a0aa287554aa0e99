-- Statements with blocks as plain data.
use Rattle.std.proofs.Common.{◌≡◌, ◌∙◌, sym, ap, List, Option, Some, None, option_map}
use Rattle.pl_base.specs.declared.pos.Pos.{Pos}
use Rattle.pl_syntax.specs.declared.expr.Expr.{Expr}
use Rattle.pl_syntax.specs.declared.prop.Prop.{Prop}
use Rattle.pl_syntax.specs.declared.stmt.Stmt.{Stmt}
use Rattle.pl_syntax.specs.declared.stmt.Stmt.TheVariants as v
use Rattle.pl_syntax.specs.declared.stmt.Stmt.TheOpen.{Stmt-F}
use Rattle.pl_syntax.specs.declared.stmt.Stmt.TheFolds.{fold-roll-Stmt}
use Rattle.pl_syntax.specs.declared.stmt.Stmts.{Stmts}
use Rattle.pl_syntax.specs.Plain.{otherwise, plain_block, plain_expr, plain_prop, plain_stmt, plain_stmts, stmt_step, stmts_step}
use Rattle.pl_syntax.specs.Tree as t
use Rattle.pl_syntax.specs.Tree.{Name}

pub plain_stmt-If : (p : Pos) (e : Expr) (first : Stmts) (second : Option Stmts) (after : Option Prop) →
    plain_stmt (v.If p e first second after) ≡ t.If p (plain_expr e) (plain_block first) (otherwise (option_map plain_block second)) (option_map plain_prop after)
plain_stmt-If p e first None after = ap plain_stmt (sym (v.rolls-If p e first None after)) ∙ fold-roll-Stmt t.Stmt t.Braced stmt_step stmts_step (Stmt-F.If p e first None after)
plain_stmt-If p e first (Some second) after =
    ap plain_stmt (sym (v.rolls-If p e first (Some second) after)) ∙ fold-roll-Stmt t.Stmt t.Braced stmt_step stmts_step (Stmt-F.If p e first (Some second) after)

pub plain_stmt-While : (p : Pos) (loads : List Stmt) (e : Expr) (kept : Prop) (body : Stmts) →
    plain_stmt (v.While p loads e kept body) ≡ t.While p (plain_stmts loads) (plain_expr e) (plain_prop kept) (plain_block body)
plain_stmt-While p loads e kept body = ap plain_stmt (sym (v.rolls-While p loads e kept body)) ∙ fold-roll-Stmt t.Stmt t.Braced stmt_step stmts_step (Stmt-F.While p loads e kept body)

pub plain_stmt-With : (p : Pos) (name : Name) (body : Stmts) (after : Option Prop) →
    plain_stmt (v.With p name body after) ≡ t.With p name (plain_block body) (option_map plain_prop after)
plain_stmt-With p name body after = ap plain_stmt (sym (v.rolls-With p name body after)) ∙ fold-roll-Stmt t.Stmt t.Braced stmt_step stmts_step (Stmt-F.With p name body after)
