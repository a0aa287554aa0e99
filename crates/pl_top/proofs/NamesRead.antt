-- The names of an accepted file are names that the reader of C takes.
use Rattle.std.proofs.Common.{ℕ, List, [], ◌∷◌, ◌++◌}
use Rattle.std.specs.Prelude.{flat_map}
use Rattle.std.specs.List.{AllByRecursion}
use Rattle.pl_syntax.specs.Tree.{Name, Expr, Int, Var, Whole, Stmt, Load, Alloc, Free, Print, FunDecl, list_of}
use Rattle.pl_syntax.specs.Straight.{Scope, AreSorted, IsMain}
use Rattle.pl_files.specs.Names.{value_names, stmt_names, program_names}
use Rattle.pl_lexer.specs.Proper.{IsName}
use Rattle.c_syntax.specs.Plain.{chain}
use Rattle.c_syntax.specs.Names.{ExprNames, StmtsNames, ProgramNames}
use Rattle.pl_erase.specs.Emitted.{Numbers, no_numbers, emitted, emitted_all, emitted_expr, program_of}

abbrev AreNames : List Name → Type 0
AreNames = AllByRecursion IsName

both_named : (xs ys : List Name) → AreNames (xs ++ ys) → AreNames xs × AreNames ys
both_named [] ys h = (tt, h)
both_named (x ∷ xs) ys h = let p = both_named xs ys h.1 in ((h.0, p.0), p.1)

expr_named : (numbers : Numbers) (e : Expr) → AreNames (value_names e) → ExprNames IsName (emitted_expr numbers e)
expr_named numbers (Int p n) h = tt
expr_named numbers (Var p x) h = h.0
expr_named numbers _ h = tt

-- the names of the rows of sorted statements
rows_named : (list : List Stmt) (scope : Scope) (n : ℕ) (numbers : Numbers) → AreSorted scope list → AreNames (flat_map stmt_names list) → StmtsNames IsName (chain (emitted_all n numbers list))
rows_named [] scope n numbers sorted h = tt
rows_named (Load p x (Whole c) is_ghost ∷ rest) scope n numbers sorted h = ((tt, h.0, h.1.0), rows_named rest _ _ _ sorted.2 h.1.1)
rows_named (Load p x _ is_ghost ∷ rest) scope n numbers sorted h = absurd sorted.1
rows_named (Alloc p x e ∷ rest) scope n numbers sorted h =
    let k = both_named (value_names e) (flat_map stmt_names rest) h.1 in
    ((tt, h.0, expr_named numbers e k.0), rows_named rest _ _ _ sorted.1 k.1)
rows_named (Free p x ∷ rest) scope n numbers sorted h = (h.0, rows_named rest scope _ _ sorted.1 h.1)
rows_named (Print p e ∷ rest) scope n numbers sorted h =
    let k = both_named (value_names e) (flat_map stmt_names rest) h in
    (expr_named numbers e k.0, rows_named rest scope _ _ sorted.1 k.1)
rows_named (_ ∷ rest) scope n numbers sorted h = absurd sorted

-- the names of a function's program in C
pub program_named : (main : FunDecl) → IsMain main → AreNames (program_names (program_of main)) → ProgramNames IsName (emitted (program_of main))
program_named main is h =
    let body = (both_named (flat_map stmt_names (list_of main.body)) [] h.1).0 in
    (tt, ((h.0, tt, tt, rows_named (list_of main.body) [] 1 no_numbers is.statements body), tt))
