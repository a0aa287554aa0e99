-- A program that keeps the rules and has no form that isn't handled is straight, and a straight program is such a one.
use Rattle.std.proofs.Common.{◌≡◌, ℤ, pos, negsuc, ◌^◌, Bool, true, false, Option, Some, None, List, [], ◌∷◌, ◌++◌, refl, sym, ap, subst, ◌∙◌}
use Rattle.std.specs.Prelude.{FitsSigned, ◌&&◌, ◌==◌, not, if◌then◌else◌, length, codes}
use Rattle.std.specs.Option.{is_some}
use Rattle.std.specs.Int.{w64}
use Rattle.std.specs.Str.{bytes_eq}
use Rattle.std.proofs.lemmas.Bool.{ltb-true, lt-ltb, eqb-true}
use Rattle.std.proofs.lemmas.List.{nil_from_length}
use Rattle.std.proofs.lemmas.Slice.Eq.{bytes_eq-Decides}
use Rattle.pl_base.specs.declared.pos.Pos.{Pos}
use Rattle.pl_syntax.specs.declared.expr.Binder.{Binder}
use Rattle.pl_syntax.specs.declared.expr.Class.TheVariants as class
use Rattle.pl_syntax.specs.declared.expr.Sort.{Sort}
use Rattle.pl_syntax.specs.declared.expr.Sort.TheVariants as sort
use Rattle.pl_syntax.specs.declared.rules.Rule.TheVariants.{IllTyped}
use Rattle.pl_syntax.specs.declared.rules.Mode.TheVariants as mode
use Rattle.pl_syntax.specs.declared.rules.CellUse.TheVariants as cell
use Rattle.pl_syntax.specs.declared.rules.Role.TheVariants as role
use Rattle.pl_syntax.specs.declared.rules.Spot.{Spot}
use Rattle.pl_syntax.specs.Tree as t
use Rattle.pl_syntax.specs.Tree.{Name, Expr, Int, Var, CellExpr, Whole, Prop, Emp, Stmt, Stmts, Braced, FunDecl, Decl, Program, listed, list_of}
use Rattle.pl_syntax.specs.Breaches.{unless}
use Rattle.pl_syntax.specs.Scopes.{Bound, Scope, look, read_as}
use Rattle.pl_syntax.specs.Known.{Known, known_in, nothing}
use Rattle.pl_syntax.specs.ExprRules as x
use Rattle.pl_syntax.specs.ExprRules.{Want, own, own_name, takes, fits, fits_i64, fitted, use_breaches, wanted, named}
use Rattle.pl_syntax.specs.PropRules.{content_by, is_right, binders_breaches, bind_all, prop_breaches}
use Rattle.pl_syntax.specs.StmtRules.{integer, sort_of_content, pointer_to, real_breaches, real_cell, real, real_name, stmts_breaches, result_of}
use Rattle.pl_syntax.specs.DeclRules.{as_list, result_breaches, measure_breaches, ends_well, decl_breaches, decls_breaches, fun_breaches, head_breaches, is_emp, is_main, list_in, function_spot}
use Rattle.pl_syntax.specs.Typing.{IsTyped}
use Rattle.pl_syntax.specs.Straight as s
use Rattle.pl_syntax.specs.Straight.{sort_of, IsInteger, IsCell, AreSorted, IsEmp, IsBare, IsMain, IsStraight}
use Rattle.pl_syntax.specs.Unbuilt.{is_value, first_other, is_bare, unbuilt_in_fun, either, first_unbuilt_of, first_unbuilt}

-- ---- tests and lists

-- both tests of a conjunction pass
both_true : (a b : Bool) → a && b ≡ true → (a ≡ true) × (b ≡ true)
both_true true b h = (refl, h)
both_true false b h = absurd cc

not_true : (b : Bool) → not b ≡ true → b ≡ false
not_true true h = absurd cc
not_true false h = refl

none_there : {A : Type 0} (o : Option A) → not (is_some o) ≡ true → o ≡ None
none_there None h = refl
none_there (Some a) h = absurd cc

no_length : {A : Type 0} (xs : List A) → length xs == 0 ≡ true → xs ≡ []
no_length xs h = nil_from_length xs (eqb-true (length xs) 0 h)

-- lists that are empty together
both_empty : {A : Type 0} (xs ys : List A) → xs ++ ys ≡ [] → (xs ≡ []) × (ys ≡ [])
both_empty [] ys h = (refl, h)
both_empty (a ∷ as_) ys h = absurd cc

-- a test that holds where no breach is found
no_breach : (b : Bool) (place : Pos) → unless b IllTyped place ≡ [] → b ≡ true
no_breach true place h = refl
no_breach false place h = absurd cc

-- a place that isn't there
handled : (b : Bool) (o : Option Pos) (place : Pos) → (if b then o else Some place) ≡ None → (b ≡ true) × (o ≡ None)
handled true o place h = (refl, h)
handled false o place h = absurd cc

-- ---- names in scope

-- the names of a straight program; true with those that are pointers
abbrev Names : Type 0
Names = List (Name × Bool)

abbrev sort_for : Bool → Sort
sort_for true = sort.RefI64
sort_for false = sort.I64

abbrev bound_for : Name → Bool → Bound
bound_for y pointer = record { name = y; class = class.Real; sort = Some (read_as (sort_for pointer)) }

-- as straight programs have them, and as the rules do
abbrev small : Names → s.Scope
small [] = []
small (b ∷ bs) = (b.0, sort_for b.1) ∷ small bs

abbrev wide : Names → Scope
wide [] = []
wide (b ∷ bs) = bound_for b.0 b.1 ∷ wide bs

-- both look-ups find nothing, a number or a pointer
looked : (P : Option Sort → Option Bound → Type 0) (y : Name) (bs : Names) → P None None → ((z : Name) (pointer : Bool) → P (Some (sort_for pointer)) (Some (bound_for z pointer))) → P (sort_of y (small bs)) (look y (wide bs))
looked P y [] none some = none
looked P y (b ∷ bs) none some =
    elim (bytes_eq y b.0) as (λ found. P (if found then Some (sort_for b.1) else sort_of y (small bs)) (if found then Some (bound_for b.0 b.1) else look y (wide bs))) [
      | true ↦ some b.0 b.1
      | false ↦ looked P y bs none some
    ]

-- ---- expressions and cells

literal_fits : (n : ℤ) → fits_i64 n ≡ true → FitsSigned w64 n
literal_fits (pos n) e = record { sfits = ltb-true n (2 ^ 63) e }
literal_fits (negsuc n) e = record { sfits = ltb-true n (2 ^ 63) e }

literal_fits' : (n : ℤ) → FitsSigned w64 n → fits_i64 n ≡ true
literal_fits' (pos n) f = lt-ltb n (2 ^ 63) f.sfits
literal_fits' (negsuc n) f = lt-ltb n (2 ^ 63) f.sfits

-- what a place wants that takes numbers and no pointers
record TakesNumbers (want : Want) : Type 0 where
  number : takes want sort.Int ≡ true
  pointer : takes want sort.RefI64 ≡ false

-- a number, whose own sort is that of whole numbers
abbrev IsNumber : Names → Expr → Type 0
IsNumber bs e = IsInteger (small bs) e × (own (wide bs) e ≡ x.of sort.Int)

-- a name in such a place is a number
abbrev NameGoes : Want → Pos → Option Sort → Option Bound → Type 0
NameGoes want place found b = use_breaches mode.Real place b ++ fitted [] (fits want (own_name b)) place ≡ [] → (found ≡ Some sort.I64) × (own_name b ≡ x.of sort.Int)

name_goes : (want : Want) → TakesNumbers want → (place : Pos) (z : Name) (pointer : Bool) → NameGoes want place (Some (sort_for pointer)) (Some (bound_for z pointer))
name_goes want takes place z false h = (refl, refl)
name_goes want takes place z true h = let k = no_breach (x.takes want sort.RefI64) place h in let l = takes.pointer in absurd cc

value_goes : (want : Want) → TakesNumbers want → (bs : Names) (e : Expr) → is_value e ≡ true → real (wide bs) want e ≡ [] → IsNumber bs e
value_goes want takes bs (Int place n) v h = (literal_fits n (no_breach (fits_i64 n) place (both_empty (unless (fits_i64 n) IllTyped place) _ h).0), refl)
value_goes want takes bs (Var place y) v h = looked (NameGoes want place) y bs (λ k. absurd cc) (name_goes want takes place) h
value_goes want takes bs _ v h = absurd cc

-- what a load takes
abbrev LoadGoes : Known → Pos → Name → Option Sort → Option Bound → Type 0
LoadGoes known place base found b =
    use_breaches mode.Real place b ++ unless (is_right (content_by known cell.Plain (Whole base) (own_name b))) IllTyped place ++ [] ≡ []
    → (found ≡ Some sort.RefI64) × (sort_of_content (content_by known cell.Plain (Whole base) (own_name b)) ≡ Some sort.Int)

load_goes : (known : Known) (place : Pos) (base : Name) (bs : Names) → LoadGoes known place base (sort_of base (small bs)) (look base (wide bs))
load_goes known place base bs = looked (LoadGoes known place base) base bs (λ k. absurd cc) each
  where
    each : (z : Name) (pointer : Bool) → LoadGoes known place base (Some (sort_for pointer)) (Some (bound_for z pointer))
    each z true h = (refl, refl)
    each z false h = absurd cc

-- what a free takes
abbrev FreeGoes : Pos → Option Sort → Option Bound → Type 0
FreeGoes place found b = named mode.Real x.block place b ≡ [] → found ≡ Some sort.RefI64

free_goes : (place : Pos) (base : Name) (bs : Names) → FreeGoes place (sort_of base (small bs)) (look base (wide bs))
free_goes place base bs = looked (FreeGoes place) base bs (λ k. absurd cc) each
  where
    each : (z : Name) (pointer : Bool) → FreeGoes place (Some (sort_for pointer)) (Some (bound_for z pointer))
    each z true h = refl
    each z false h = absurd cc

-- numbers and truth values, of which straight programs have numbers
takes_integer : TakesNumbers integer
takes_integer = record { number = refl; pointer = refl }

takes_scalar : TakesNumbers x.scalar
takes_scalar = record { number = refl; pointer = refl }

-- ---- statements

pub statements_go : (known : Known) (spot : Spot) (last : Option Sort) (bs : Names) (list : Stmts) → first_other (listed list) ≡ None → stmts_breaches known spot last (wide bs) list ≡ [] → AreSorted (small bs) (listed list)
statements_go known spot last bs t.end o h = tt
statements_go known spot last bs (t.more (t.Load place y (Whole base) false) rest) o h =
    let whole = both_empty (real_breaches spot place ++ real_cell known (wide bs) place (Whole base)) _ h in
    let load = load_goes known place base bs (both_empty (real_breaches spot place) _ whole.0).1 in
    (refl, load.0, statements_go known spot last ((y, false) ∷ bs) rest o (subst (λ (found : Option Sort). stmts_breaches known spot last (record { name = y; class = class.Real; sort = found } ∷ wide bs) rest ≡ []) load.1 whole.1))
statements_go known spot last bs (t.more (t.Alloc place y e) rest) o h =
    let found = handled (is_value e) (first_other (listed rest)) place o in
    let whole = both_empty (real_breaches spot place ++ real (wide bs) x.scalar e) _ h in
    let number = value_goes x.scalar takes_scalar bs e found.0 (both_empty (real_breaches spot place) _ whole.0).1 in
    (number.0, statements_go known spot last ((y, true) ∷ bs) rest found.1 (subst (λ (own_sort : x.Own). stmts_breaches known spot last (record { name = y; class = class.Real; sort = pointer_to own_sort } ∷ wide bs) rest ≡ []) number.1 whole.1))
statements_go known spot last bs (t.more (t.Free place base) rest) o h =
    let whole = both_empty (real_breaches spot place ++ real_name (wide bs) x.block place base) _ h in
    (free_goes place base bs (both_empty (real_breaches spot place) _ whole.0).1, statements_go known spot last bs rest o whole.1)
statements_go known spot last bs (t.more (t.Print place e) rest) o h =
    let found = handled (is_value e) (first_other (listed rest)) place o in
    let whole = both_empty (real_breaches spot place ++ real (wide bs) integer e) _ h in
    ((value_goes integer takes_integer bs e found.0 (both_empty (real_breaches spot place) _ whole.0).1).0, statements_go known spot last bs rest found.1 whole.1)
statements_go known spot last bs (t.more _ rest) o h = absurd cc

body_goes : (known : Known) (spot : Spot) (last : Option Sort) (b : Braced) → first_other (list_of b) ≡ None → stmts_breaches known spot last [] (list_in b) ≡ [] → AreSorted [] (list_of b)
body_goes known spot last (t.braces list close) o h = statements_go known spot last [] list o h

-- ---- declarations

emp_is : (q : Prop) → is_emp q ≡ true → IsEmp q
emp_is (Emp place) e = tt
emp_is _ e = absurd cc

bare_is : (f : FunDecl) → is_bare f ≡ true → IsBare f
bare_is f h =
    let measure = both_true _ _ h in
    let after = both_true _ _ measure.0 in
    let result = both_true _ _ after.0 in
    let before = both_true _ _ result.0 in
    let opens = both_true _ _ before.0 in
    let params = both_true _ _ opens.0 in
    record {
      real = not_true f.is_ghost params.0;
      params = no_length f.params params.1;
      opens = not_true f.opens opens.1;
      before = emp_is f.before before.1;
      result = none_there f.result result.1;
      after = emp_is f.after after.1;
      measure = none_there f.measure measure.1;
    }

main_is : (f : FunDecl) (known : Known) → unbuilt_in_fun f ≡ None → stmts_breaches known (function_spot 0 f) (result_of f.result) (bind_all role.Parameter f.params []) (list_in f.body) ≡ [] → IsMain f
main_is f known o h =
    let found = handled (bytes_eq f.name (codes "main") && is_bare f) (first_other (list_of f.body)) f.pos o in
    let tests = both_true (bytes_eq f.name (codes "main")) (is_bare f) found.0 in
    let bare = bare_is f tests.1 in
    record {
      name = (bytes_eq-Decides f.name (codes "main")).0 tests.0;
      bare = bare;
      statements = body_goes known (function_spot 0 f) (result_of f.result) f.body found.1 (subst (λ (scope : List Binder). stmts_breaches known (function_spot 0 f) (result_of f.result) (bind_all role.Parameter scope []) (list_in f.body) ≡ []) bare.params h);
    }

none_either : (o : Option Pos) (place : Pos) → either o (Some place) ≡ None → ⊥
none_either None place h = absurd cc
none_either (Some q) place h = absurd cc

none_first : (o : Option Pos) → either o None ≡ None → o ≡ None
none_first None h = refl
none_first (Some q) h = absurd cc

decls_go : (known : Known) (decls : List Decl) → decls_breaches known nothing 0 decls ≡ [] → is_main ((known_in decls).funs (codes "main")) ≡ true → first_unbuilt_of decls ≡ None → (f : FunDecl) × (decls ≡ t.Fun f ∷ []) × IsMain f
decls_go known [] h main o = absurd cc
decls_go known (t.Struct d ∷ rest) h main o = absurd cc
decls_go known (t.Pred d ∷ rest) h main o = absurd cc
decls_go known (t.Fun f ∷ d ∷ rest) h main o = absurd (none_either (unbuilt_in_fun f) _ o)
decls_go known (t.Fun f ∷ []) h main o =
    let whole = both_empty (decl_breaches known 0 (t.Fun f)) [] h in
    (f, refl, main_is f known (none_first (unbuilt_in_fun f) o) (both_empty (binders_breaches known role.Parameter nothing f.params ++ head_breaches known f (bind_all role.Parameter f.params [])) _ whole.0).1)

pub typed_built : (q : Program) → IsTyped q → first_unbuilt q ≡ None → IsStraight q
typed_built q typed o = decls_go (known_in q.decls) q.decls typed.rules typed.main o

-- ---- a straight program is typed, and all its forms are handled

pub all_true : (a b : Bool) → a ≡ true → b ≡ true → a && b ≡ true
all_true true true g h = refl
all_true true false g h = absurd cc
all_true false b g h = absurd cc

no_more : {A : Type 0} (xs ys : List A) → xs ≡ [] → ys ≡ [] → xs ++ ys ≡ []
no_more [] ys g h = h
no_more (a ∷ as_) ys g h = absurd cc

passes : (b : Bool) (place : Pos) → b ≡ true → unless b IllTyped place ≡ []
passes true place h = refl
passes false place h = absurd cc

-- what is found of a number where numbers are taken
record Keeps (want : Want) (bs : Names) (e : Expr) : Type 0 where
  breaches : real (wide bs) want e ≡ []
  sort : own (wide bs) e ≡ x.of sort.Int
  value : is_value e ≡ true

abbrev NameKeeps : Want → Pos → Option Sort → Option Bound → Type 0
NameKeeps want place found b = found ≡ Some sort.I64 → (use_breaches mode.Real place b ++ fitted [] (fits want (own_name b)) place ≡ []) × (own_name b ≡ x.of sort.Int)

name_keeps : (want : Want) → TakesNumbers want → (place : Pos) (z : Name) (pointer : Bool) → NameKeeps want place (Some (sort_for pointer)) (Some (bound_for z pointer))
name_keeps want takes place z false h = (passes (x.takes want sort.Int) place takes.number, refl)
name_keeps want takes place z true h = absurd cc

value_keeps : (want : Want) → TakesNumbers want → (bs : Names) (e : Expr) → IsInteger (small bs) e → Keeps want bs e
value_keeps want takes bs (Int place n) h = record {
  breaches = no_more _ _ (passes (fits_i64 n) place (literal_fits' n h)) (passes (x.takes want sort.Int) place takes.number);
  sort = refl;
  value = refl;
}
value_keeps want takes bs (Var place y) h =
    let k = looked (NameKeeps want place) y bs (λ e. absurd cc) (name_keeps want takes place) h in record { breaches = k.0; sort = k.1; value = refl }
value_keeps want takes bs _ h = absurd h

abbrev LoadKeeps : Known → Pos → Name → Option Sort → Option Bound → Type 0
LoadKeeps known place base found b =
    found ≡ Some sort.RefI64
    → (use_breaches mode.Real place b ++ unless (is_right (content_by known cell.Plain (Whole base) (own_name b))) IllTyped place ++ [] ≡ []) × (sort_of_content (content_by known cell.Plain (Whole base) (own_name b)) ≡ Some sort.Int)

load_keeps : (known : Known) (place : Pos) (base : Name) (bs : Names) → LoadKeeps known place base (sort_of base (small bs)) (look base (wide bs))
load_keeps known place base bs = looked (LoadKeeps known place base) base bs (λ k. absurd cc) each
  where
    each : (z : Name) (pointer : Bool) → LoadKeeps known place base (Some (sort_for pointer)) (Some (bound_for z pointer))
    each z true h = (refl, refl)
    each z false h = absurd cc

abbrev FreeKeeps : Pos → Option Sort → Option Bound → Type 0
FreeKeeps place found b = found ≡ Some sort.RefI64 → named mode.Real x.block place b ≡ []

free_keeps : (place : Pos) (base : Name) (bs : Names) → FreeKeeps place (sort_of base (small bs)) (look base (wide bs))
free_keeps place base bs = looked (FreeKeeps place) base bs (λ k. absurd cc) each
  where
    each : (z : Name) (pointer : Bool) → FreeKeeps place (Some (sort_for pointer)) (Some (bound_for z pointer))
    each z true h = refl
    each z false h = absurd cc

-- real statements may stand there
abbrev IsReal : Spot → Type 0
IsReal spot = (place : Pos) → real_breaches spot place ≡ []

statements_keep : (known : Known) (spot : Spot) (last : Option Sort) → IsReal spot → (bs : Names) (list : Stmts) → AreSorted (small bs) (listed list) → (stmts_breaches known spot last (wide bs) list ≡ []) × (first_other (listed list) ≡ None)
statements_keep known spot last quiet bs t.end h = (refl, refl)
statements_keep known spot last quiet bs (t.more (t.Load place y (Whole base) false) rest) h =
    let k = load_keeps known place base bs h.1 in
    let r = statements_keep known spot last quiet ((y, false) ∷ bs) rest h.2 in (
      no_more _ _ (no_more _ _ (quiet place) k.0) (subst (λ (found : Option Sort). stmts_breaches known spot last (record { name = y; class = class.Real; sort = found } ∷ wide bs) rest ≡ []) (sym k.1) r.0),
      r.1,
    )
statements_keep known spot last quiet bs (t.more (t.Load place y (Whole base) true) rest) h = absurd (let e = h.0 in cc)
statements_keep known spot last quiet bs (t.more (t.Load place y (t.At base e) is_ghost) rest) h = absurd h.1
statements_keep known spot last quiet bs (t.more (t.Load place y (t.Field base f) is_ghost) rest) h = absurd h.1
statements_keep known spot last quiet bs (t.more (t.Alloc place y e) rest) h =
    let k = value_keeps x.scalar takes_scalar bs e h.0 in
    let r = statements_keep known spot last quiet ((y, true) ∷ bs) rest h.1 in (
      no_more _ _ (no_more _ _ (quiet place) k.breaches) (subst (λ (found : x.Own). stmts_breaches known spot last (record { name = y; class = class.Real; sort = pointer_to found } ∷ wide bs) rest ≡ []) (sym k.sort) r.0),
      ap (λ b. if b then first_other (listed rest) else Some place) k.value ∙ r.1,
    )
statements_keep known spot last quiet bs (t.more (t.Free place base) rest) h =
    let r = statements_keep known spot last quiet bs rest h.1 in (no_more _ _ (no_more _ _ (quiet place) (free_keeps place base bs h.0)) r.0, r.1)
statements_keep known spot last quiet bs (t.more (t.Print place e) rest) h =
    let k = value_keeps integer takes_integer bs e h.0 in
    let r = statements_keep known spot last quiet bs rest h.1 in
    (no_more _ _ (no_more _ _ (quiet place) k.breaches) r.0, ap (λ b. if b then first_other (listed rest) else Some place) k.value ∙ r.1)
statements_keep known spot last quiet bs (t.more _ rest) h = absurd h

body_keeps : (known : Known) (spot : Spot) (last : Option Sort) → IsReal spot → (b : Braced) → AreSorted [] (list_of b) → (stmts_breaches known spot last [] (list_in b) ≡ []) × (first_other (list_of b) ≡ None)
body_keeps known spot last quiet (t.braces list close) h = statements_keep known spot last quiet [] list h

emp_tests : (q : Prop) → IsEmp q → is_emp q ≡ true
emp_tests (Emp place) h = refl
emp_tests _ h = absurd h

emp_keeps : (known : Known) (scope : Scope) (q : Prop) → IsEmp q → prop_breaches known scope q ≡ []
emp_keeps known scope (Emp place) h = refl
emp_keeps known scope _ h = absurd h

no_params : {A : Type 0} (xs : List A) → xs ≡ [] → length xs == 0 ≡ true
no_params xs h = ap (λ ys. length ys == 0) h

nothing_there : {A : Type 0} (o : Option A) → o ≡ None → not (is_some o) ≡ true
nothing_there o h = ap (λ q. not (is_some q)) h

bare_tests : (f : FunDecl) → IsBare f → is_bare f ≡ true
bare_tests f b =
    all_true _ _ (all_true _ _ (all_true _ _ (all_true _ _ (all_true _ _ (all_true _ _ (ap not b.real) (no_params f.params b.params)) (ap not b.opens)) (emp_tests f.before b.before)) (nothing_there f.result b.result)) (emp_tests f.after b.after)) (nothing_there f.measure b.measure)

fun_keeps : (known : Known) (f : FunDecl) → IsMain f → fun_breaches known 0 f ≡ []
fun_keeps known f main =
    let quiet : IsReal (function_spot 0 f) = λ place. ap (λ g. unless (not g) IllTyped place ++ []) main.bare.real in
    let body = (body_keeps known (function_spot 0 f) (result_of f.result) quiet f.body main.statements).0 in
    let scope : Scope = bind_all role.Parameter f.params [] in
    no_more _ _
    (
    no_more _ _ (ap (binders_breaches known role.Parameter nothing) main.bare.params)
    (
    no_more _ _
    (
    no_more _ _
    (
    no_more _ _ (no_more _ _ (emp_keeps known scope f.before main.bare.before) (ap (result_breaches known f.is_ghost) main.bare.result))
    (emp_keeps known (bind_all role.Field (as_list f.result) scope) f.after main.bare.after)
    )
    (ap (measure_breaches scope) main.bare.measure)
    )
    (ap (λ r. unless (ends_well r f.body) IllTyped f.pos) main.bare.result)
    )
    )
    (subst (λ (params : List Binder). stmts_breaches known (function_spot 0 f) (result_of f.result) (bind_all role.Parameter params []) (list_in f.body) ≡ []) (sym main.bare.params) body)

main_there : (f : FunDecl) → IsMain f → is_main ((known_in (t.Fun f ∷ [])).funs (codes "main")) ≡ true
main_there f main =
    let there : is_main (Some (record { place = 0; fun = f })) ≡ true = all_true _ _ (all_true _ _ (all_true _ _ (ap not main.bare.real) (no_params f.params main.bare.params)) (nothing_there f.result main.bare.result)) (emp_tests f.before main.bare.before) in
    subst (λ (name : Name). is_main (if bytes_eq (codes "main") name then Some (record { place = 0; fun = f }) else None) ≡ true) (sym main.name) there

pub straight_typed : (q : Program) → IsStraight q → IsTyped q
straight_typed q h =
    record {
      rules = subst (λ (decls : List Decl). decls_breaches (known_in decls) nothing 0 decls ≡ []) (sym h.1) (no_more _ _ (fun_keeps (known_in (t.Fun h.0 ∷ [])) h.0 h.2) refl);
      main = subst (λ (decls : List Decl). is_main ((known_in decls).funs (codes "main")) ≡ true) (sym h.1) (main_there h.0 h.2);
    }

-- one function that is such a `main`
main_built : (f : FunDecl) → IsMain f → unbuilt_in_fun f ≡ None
main_built f main =
    let quiet : IsReal (function_spot 0 f) = λ place. ap (λ g. unless (not g) IllTyped place ++ []) main.bare.real in
    let body = (body_keeps (known_in []) (function_spot 0 f) None quiet f.body main.statements).1 in
    ap (λ b. if b then first_other (list_of f.body) else Some f.pos) (all_true _ _ (ap (λ n. bytes_eq n (codes "main")) main.name) (bare_tests f main.bare)) ∙ body

pub straight_built : (q : Program) → IsStraight q → first_unbuilt q ≡ None
straight_built q h = subst (λ (decls : List Decl). first_unbuilt_of decls ≡ None) (sym h.1) (ap (λ o. either o None) (main_built h.0 h.2))
