-- Breaches in declarations, and all breaches of a program.
use Rattle.std.specs.Prelude.{ℕ, ◌+◌, ◌==◌, ◌&&◌, not, Bool, true, false, Option, Some, None, List, [], ◌∷◌, ◌++◌, length, codes}
use Rattle.std.specs.Option.{is_some}
use Rattle.pl_base.specs.declared.pos.Pos.{Pos}
use Rattle.pl_syntax.specs.declared.expr.Binder.{Binder}
use Rattle.pl_syntax.specs.Tree as t
use Rattle.pl_syntax.specs.Tree.{Name, Expr, Prop, Stmt, Stmts, Braced, FunDecl, PredDecl, Decl, Program}
use Rattle.pl_syntax.specs.declared.rules.Breach.{Breach}
use Rattle.pl_syntax.specs.declared.rules.Rule.TheVariants.{Twice, IllTyped}
use Rattle.pl_syntax.specs.declared.rules.Role.TheVariants as role
use Rattle.pl_syntax.specs.declared.rules.Spot.{Spot}
use Rattle.pl_syntax.specs.declared.rules.Inside.TheVariants.{Outside}
use Rattle.pl_syntax.specs.Breaches.{unless}
use Rattle.pl_syntax.specs.Scopes.{Scope}
use Rattle.pl_syntax.specs.Known.{Known, Placed, Taken, nothing, put, known_in}
use Rattle.pl_syntax.specs.PropRules.{binder_breaches, binders_breaches, bind_all, prop_breaches, body_breaches}
use Rattle.pl_syntax.specs.StmtRules.{read, integer, result_of, stmts_breaches}

-- ---- functions

abbrev pub as_list : Option Binder → List Binder
as_list None = []
as_list (Some b) = b ∷ []

-- a result is one of real code, and ghost functions have none
abbrev pub result_breaches : Known → Bool → Option Binder → List Breach
result_breaches known is_ghost None = []
result_breaches known is_ghost (Some b) = binder_breaches known role.Field b ++ unless (not is_ghost) IllTyped b.pos

abbrev pub measure_breaches : Scope → Option Expr → List Breach
measure_breaches scope None = []
measure_breaches scope (Some e) = read scope integer e

abbrev pub is_return : Stmt → Bool
is_return (t.Return place e) = true
is_return _ = false

-- whether the last statement is a `return`
abbrev pub last_returns : Bool → Stmts → Bool
last_returns before t.end = before
last_returns before (t.more s rest) = last_returns (is_return s) rest

abbrev pub returns : Braced → Bool
returns (t.braces list close) = last_returns false list

-- a function with a result ends in a `return`
abbrev pub ends_well : Option Binder → Braced → Bool
ends_well None body = true
ends_well (Some b) body = returns body

abbrev pub function_spot : ℕ → FunDecl → Spot
function_spot place f = record { place = place; is_ghost = f.is_ghost; opens = f.opens; measured = is_some f.measure; inside = Outside }

-- the name of the result is in scope in `ensures` alone
abbrev pub ensures_breaches : Known → FunDecl → Scope → List Breach
ensures_breaches known f scope = prop_breaches known (bind_all role.Field (as_list f.result) scope) f.after

abbrev pub list_in : Braced → Stmts
list_in (t.braces list close) = list

-- the body of the function at that place among all declarations
abbrev pub function_body : Known → ℕ → FunDecl → Scope → List Breach
function_body known place f scope = stmts_breaches known (function_spot place f) (result_of f.result) scope (list_in f.body)

-- what stands in front of the body, and a `return` that is missing
abbrev pub head_breaches : Known → FunDecl → Scope → List Breach
head_breaches known f scope =
    prop_breaches known scope f.before ++ result_breaches known f.is_ghost f.result ++ ensures_breaches known f scope ++ measure_breaches scope f.measure
    ++ unless (ends_well f.result f.body) IllTyped f.pos

-- the function at that place
abbrev pub fun_breaches : Known → ℕ → FunDecl → List Breach
fun_breaches known place f =
    binders_breaches known role.Parameter nothing f.params ++ head_breaches known f (bind_all role.Parameter f.params [])
    ++ function_body known place f (bind_all role.Parameter f.params [])

abbrev pub pred_breaches : Known → PredDecl → List Breach
pred_breaches known p = binders_breaches known role.Bound nothing p.params ++ body_breaches known (bind_all role.Bound p.params []) p.body

-- ---- declarations

abbrev pub name_of : Decl → Name
name_of (t.Struct s) = s.name
name_of (t.Pred p) = p.name
name_of (t.Fun f) = f.name

abbrev pub place_of : Decl → Pos
place_of (t.Struct s) = s.pos
place_of (t.Pred p) = p.pos
place_of (t.Fun f) = f.pos

abbrev pub decl_breaches : Known → ℕ → Decl → List Breach
decl_breaches known place (t.Struct s) = binders_breaches known role.Field nothing s.fields
decl_breaches known place (t.Pred p) = pred_breaches known p
decl_breaches known place (t.Fun f) = fun_breaches known place f

-- declarations of which the first has that place
abbrev pub decls_breaches : Known → Taken → ℕ → List Decl → List Breach
decls_breaches known taken place [] = []
decls_breaches known taken place (d ∷ rest) =
    unless (not (taken (name_of d))) Twice (place_of d) ++ decl_breaches known place d ++ decls_breaches known (put (name_of d) taken) (place + 1) rest

-- all breaches of the rules with a place
abbrev pub breaches : Program → List Breach
breaches p = decls_breaches (known_in p.decls) nothing 0 p.decls

-- ---- main

abbrev pub is_emp : Prop → Bool
is_emp (t.Emp place) = true
is_emp _ = false

-- a real function without parameters, result and `requires`
abbrev pub is_main : Option Placed → Bool
is_main None = false
is_main (Some f) = not f.fun.is_ghost && (length f.fun.params == 0) && not (is_some f.fun.result) && is_emp f.fun.before

-- whether there is such a function `main`
abbrev pub has_main : Program → Bool
has_main p = is_main ((known_in p.decls).funs (codes "main"))
