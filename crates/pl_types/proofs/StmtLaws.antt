-- Laws of statements in a row.
use Rattle.std.proofs.Common.{◌≡◌, ◌∙◌, sym, ap, refl, ℕ, suc, arith, ◌+◌, ◌==◌, ◌&&◌, Bool, true, false, Option, None, if◌then◌else◌, List, [], ◌∷◌, length}
use Rattle.std.proofs.lemmas.Bool.Decides.{nat_tests}
use Rattle.pl_syntax.specs.declared.expr.Sort.{Sort}
use Rattle.pl_syntax.specs.declared.stmt.Stmt as stmt
use Rattle.pl_syntax.specs.Plain.{plain_stmt, plain_stmts}
use Rattle.pl_syntax.specs.declared.rules.Breach.{Breach}
use Rattle.pl_syntax.specs.declared.rules.Spot.{Spot}
use Rattle.pl_syntax.specs.Breaches.{earlier, least}
use Rattle.pl_syntax.specs.Known.{Known}
use Rattle.pl_syntax.specs.Scopes.{Scope}
use Rattle.pl_syntax.specs.StmtRules.{at_end, is_ghost, are_ghost, behind, behind_all, stmt_breaches, stmts_breaches}
use Rattle.pl_types.proofs.Leasts.{fold_least}

two_more : (n : ℕ) → (1 + suc n == 1) ≡ false
two_more n = grind (arith, nat_tests)

-- the sort of the result where one statement or more are left
pub end_wants : (rest : List stmt.Stmt) (last : Option Sort) → at_end (plain_stmts rest) last ≡ (if 1 + length rest == 1 then last else None)
end_wants [] last = refl
end_wants (s ∷ rest) last = sym (ap (λ b. if b then last else None) (two_more (length rest)))

-- one statement, and the rest: their breaches
pub step_least : (known : Known) (spot : Spot) (last here : Option Sort) (x : stmt.Stmt) (rest whole : List stmt.Stmt) (scope next : Scope) (part one total : Option Breach) →
    whole ≡ x ∷ rest → here ≡ at_end (plain_stmts rest) last → next ≡ behind known (plain_stmt x) scope →
    one ≡ least (stmt_breaches known spot here scope (plain_stmt x)) →
    earlier part (least (stmts_breaches known spot last scope (plain_stmts whole))) ≡ total →
    earlier (earlier part one) (least (stmts_breaches known spot last next (plain_stmts rest))) ≡ total
step_least known spot last here x rest whole scope next part one total w e n o t =
    fold_least part one total (stmt_breaches known spot (at_end (plain_stmts rest) last) scope (plain_stmt x))
    (stmts_breaches known spot last (behind known (plain_stmt x) scope) (plain_stmts rest))
    (stmts_breaches known spot last scope (plain_stmts whole)) (stmts_breaches known spot last next (plain_stmts rest))
    (ap (λ xs. stmts_breaches known spot last scope (plain_stmts xs)) w)
    (o ∙ ap (λ s. least (stmt_breaches known spot s scope (plain_stmt x))) e)
    (ap (λ s. stmts_breaches known spot last s (plain_stmts rest)) n) t

and_assoc : (a b c : Bool) → ((a && b) && c) ≡ (a && (b && c))
and_assoc true b c = refl
and_assoc false b c = refl

-- whether they are ghost
pub step_ghost : (known : Known) (x : stmt.Stmt) (rest whole : List stmt.Stmt) (scope next : Scope) (part one total : Bool) →
    whole ≡ x ∷ rest → next ≡ behind known (plain_stmt x) scope → one ≡ is_ghost known (plain_stmt x) scope →
    (part && are_ghost known (plain_stmts whole) scope) ≡ total → ((part && one) && are_ghost known (plain_stmts rest) next) ≡ total
step_ghost known x rest whole scope next part one total w n o t =
    and_assoc part one (are_ghost known (plain_stmts rest) next)
    ∙ ap (λ a. part && (a && are_ghost known (plain_stmts rest) next)) o
    ∙ ap (λ s. part && (is_ghost known (plain_stmt x) scope && are_ghost known (plain_stmts rest) s)) n
    ∙ sym (ap (λ xs. part && are_ghost known (plain_stmts xs) scope) w)
    ∙ t

-- the names that are in scope behind them
pub step_scope : (known : Known) (x : stmt.Stmt) (rest whole : List stmt.Stmt) (scope next total : Scope) →
    whole ≡ x ∷ rest → next ≡ behind known (plain_stmt x) scope → behind_all known (plain_stmts whole) scope ≡ total → behind_all known (plain_stmts rest) next ≡ total
step_scope known x rest whole scope next total w n t =
    ap (behind_all known (plain_stmts rest)) n ∙ sym (ap (λ xs. behind_all known (plain_stmts xs) scope) w) ∙ t
