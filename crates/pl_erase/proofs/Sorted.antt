-- What keeps the sort rules is of the forms that have a row.
use Rattle.std.proofs.Common.{List, [], ◌∷◌, map, subst}
use Rattle.std.specs.List.{All}
use Rattle.std.proofs.lemmas.List.Elements.{All-nil, All-cons}
use Rattle.pl_syntax.specs.declared.stmt.Stmt as code
use Rattle.pl_syntax.specs.declared.program.FunDecl as fun
use Rattle.pl_syntax.specs.Plain.{plain_stmt, plain_fun}
use Rattle.pl_syntax.specs.Tree.{Expr, Int, Var, Whole, At, Field, Stmt, Load, Alloc, Free, Print}
use Rattle.pl_syntax.specs.Straight.{Scope, IsInteger, AreSorted, IsMain}
use Rattle.pl_syntax.proofs.TreeLaws.{block_list}
use Rattle.pl_erase.specs.Built.{IsBuiltExpr, IsBuilt}

pub expr_built : (scope : Scope) (e : Expr) → IsInteger scope e → IsBuiltExpr e
expr_built scope (Int place n) h = h
expr_built scope (Var place x) h = tt
expr_built scope _ h = absurd h

pub first_built : (scope : Scope) (st : Stmt) (rest : List Stmt) → AreSorted scope (st ∷ rest) → IsBuilt st
first_built scope (Load place x (Whole base) is_ghost) rest h = tt
first_built scope (Load place x (At base index) is_ghost) rest h = absurd h.1
first_built scope (Load place x (Field base field) is_ghost) rest h = absurd h.1
first_built scope (Alloc place x e) rest h = expr_built scope e h.0
first_built scope (Free place x) rest h = tt
first_built scope (Print place e) rest h = expr_built scope e h.0
first_built scope _ rest h = absurd h

pub rest_sorted : (scope : Scope) (st : Stmt) (rest : List Stmt) → AreSorted scope (st ∷ rest) → (after : Scope) × AreSorted after rest
rest_sorted scope (Load place x cell is_ghost) rest h = (_, h.2)
rest_sorted scope (Alloc place x e) rest h = (_, h.1)
rest_sorted scope (Free place x) rest h = (scope, h.1)
rest_sorted scope (Print place e) rest h = (scope, h.1)
rest_sorted scope _ rest h = absurd h

pub all_built : (scope : Scope) (list : List code.Stmt) → AreSorted scope (map plain_stmt list) → All (λ s. IsBuilt (plain_stmt s)) list
all_built scope [] h = All-nil (λ s. IsBuilt (plain_stmt s))
all_built scope (s ∷ rest) h =
    let r = rest_sorted scope (plain_stmt s) (map plain_stmt rest) h in
    All-cons (λ s. IsBuilt (plain_stmt s)) s rest (first_built scope (plain_stmt s) (map plain_stmt rest) h) (all_built r.0 rest r.1)

-- the statements of `main` have rows
pub main_built : (f : fun.FunDecl) → IsMain (plain_fun f) → All (λ s. IsBuilt (plain_stmt s)) f.body.list
main_built f m = all_built [] f.body.list (subst (AreSorted []) (block_list f.body) m.statements)
