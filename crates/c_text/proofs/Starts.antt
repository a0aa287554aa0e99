-- Laws of the functions with which threads begin.
use Rattle.std.proofs.Common.{◌≡◌, ◌∙◌, sym, ap, ℕ, suc, ◌+◌, ◌<◌, List, ◌∷◌, ◌++◌, length, drop, get_or, map, add-one}
use Rattle.std.proofs.Math.Seq.{drop-cons}
use Rattle.c_syntax.specs.declared.stmt.CStmt.{CStmt}
use Rattle.c_syntax.specs.declared.expr.CExpr.{CExpr}
use Rattle.c_syntax.specs.declared.stmt.CStmt.TheVariants as v
use Rattle.c_syntax.specs.declared.program.CFun.{CFun}
use Rattle.c_syntax.specs.Plain.{plain_fun, plain_stmt, plain_stmts}
use Rattle.c_syntax.proofs.PlainLaws.{plain_stmt-If, plain_stmt-While}
use Rattle.c_syntax.specs.Text.{funs_starts, stmt_starts, stmts_starts}

-- the element at i and those behind it
pub dropped : {X : Type 0} (list : List X) (i : ℕ) (x : X) → i < length list → x ≡ get_or list i x → drop i list ≡ x ∷ drop (i + 1) list
dropped list i x h e = drop-cons list i x h ∙ ap (λ y. y ∷ drop (suc i) list) (sym e) ∙ ap (λ n. x ∷ drop n list) (sym (add-one i))

pub stmts_starts-drop : (list : List CStmt) (i : ℕ) (s : CStmt) → i < length list → s ≡ get_or list i s →
    stmts_starts (plain_stmts (drop i list)) ≡ stmt_starts (plain_stmt s) ++ stmts_starts (plain_stmts (drop (i + 1) list))
stmts_starts-drop list i s h e = ap (λ more. stmts_starts (plain_stmts more)) (dropped list i s h e)

pub funs_starts-drop : (funs : List CFun) (i : ℕ) (f : CFun) → i < length funs → f ≡ get_or funs i f →
    funs_starts (map plain_fun (drop i funs)) ≡ stmts_starts (plain_stmts f.body) ++ funs_starts (map plain_fun (drop (i + 1) funs))
funs_starts-drop funs i f h e = ap (λ more. funs_starts (map plain_fun more)) (dropped funs i f h e)

pub stmt_starts-If : (e : CExpr) (first second : List CStmt) → stmt_starts (plain_stmt (v.If e first second)) ≡ stmts_starts (plain_stmts first) ++ stmts_starts (plain_stmts second)
stmt_starts-If e first second = ap stmt_starts (plain_stmt-If e first second)

pub stmt_starts-While : (loads : List CStmt) (e : CExpr) (body : List CStmt) → stmt_starts (plain_stmt (v.While loads e body)) ≡ stmts_starts (plain_stmts loads) ++ stmts_starts (plain_stmts body)
stmt_starts-While loads e body = ap stmt_starts (plain_stmt-While loads e body)
