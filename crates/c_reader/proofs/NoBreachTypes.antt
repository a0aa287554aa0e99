-- Types, cells, arguments and calls that keep the rules have no breaches where they are written.
use Rattle.std.proofs.Common.{◌≡◌, ◌∙◌, sym, ap, refl, subst, ℕ, ◌+◌, ◌==◌, ◌&&◌, Bool, true, false, cond, Option, Some, None, List, [], ◌∷◌, ◌++◌, length, map}
use Rattle.std.specs.Prelude.{IsSome, option_and_then}
use Rattle.std.specs.Cmp.{unsigned_Decides}
use Rattle.std.specs.List.{AllByRecursion}
use Rattle.std.specs.Str.{bytes_eq}
use Rattle.std.proofs.lemmas.Bool.{and_from}
use Rattle.c_syntax.specs.declared.kind.CType.{CType}
use Rattle.c_syntax.specs.declared.kind.CType.TheVariants as kind
use Rattle.c_syntax.specs.declared.kind.Local.{Local}
use Rattle.c_syntax.specs.declared.expr.COp.{COp}
use Rattle.c_syntax.specs.declared.expr.COp.TheVariants as op
use Rattle.c_syntax.specs.declared.program.CMember.{CMember}
use Rattle.c_syntax.specs.declared.program.CParam.{CParam}
use Rattle.c_syntax.specs.declared.program.CStruct.{CStruct}
use Rattle.c_syntax.specs.Rules.{ArgumentsFit, CallFits, CellHasType, Fits, HasType, IsValueType, StructFits, element, function_of, is_same, members_of, outcome, type_of, type_of_member}
use Rattle.c_syntax.specs.Text.{function_name, type_text}
use Rattle.c_syntax.specs.Tree as t
use Rattle.c_syntax.specs.Tree.{Name}
use Rattle.c_forms.specs.declared.source.Head.{Head}
use Rattle.c_forms.specs.Text.{expr_text, local_text}
use Rattle.c_rules.specs.Kinds.{same_type}
use Rattle.c_rules.specs.Lines.{agrees, argument_breaches, argument_found, binder_breaches, call_breaches, call_of, load_breaches, type_breaches, value_breaches}
use Rattle.c_rules.specs.Sorts.{cell_breaches, field_breaches, fitting, held, is_type, local_wanted, members_at, named_at, pointed, unless, unless_some, wanted}
use Rattle.c_reader.proofs.Breachless.{is_its_type, join_none, no_breach, same_self, some_there}
use Rattle.c_reader.proofs.TypedExprs.{fit_found, type_found}
use Rattle.c_reader.proofs.Written as written

-- ---- types of values

some_found : {X : Type 0} (o : Option X) (at : ℕ) → IsSome o → unless_some o at ≡ []
some_found None at h = cc
some_found (Some x) at h = refl

pub declared : (structs : List CStruct) (at : ℕ) (type : CType) → IsValueType structs type → type_breaches (members_of structs) at type ≡ []
declared structs at (kind.PtrStruct s) h = some_found (members_of structs s) (at + 7) h
declared structs at kind.Void h = refl
declared structs at kind.I64 h = refl
declared structs at kind.Bool h = refl
declared structs at kind.PtrI64 h = refl
declared structs at kind.PtrBool h = refl
declared structs at kind.PtrAtomic h = refl
declared structs at kind.PtrLock h = refl

pub valued : (structs : List CStruct) (name : ℕ) (type : CType) → IsValueType structs type → value_breaches name type ≡ []
valued structs name kind.Void h = absurd h
valued structs name kind.I64 h = refl
valued structs name kind.Bool h = refl
valued structs name kind.PtrI64 h = refl
valued structs name kind.PtrBool h = refl
valued structs name (kind.PtrStruct s) h = refl
valued structs name kind.PtrAtomic h = refl
valued structs name kind.PtrLock h = refl

-- a binder with the next number
pub binder_found : (structs : List CStruct) (next at : ℕ) (type : CType) (x : Local) → IsValueType structs type → x.number ≡ next → binder_breaches (members_of structs) next at type (written.local x) ≡ []
binder_found structs next at type x value number =
    let name = at + length (type_text type) in
    let A = type_breaches (members_of structs) at type in
    let B = value_breaches name type in
    join_none (A ++ B) (unless (x.number == next) name) (join_none A B (declared structs at type value) (valued structs name type value))
    (no_breach (x.number == next) name ((unsigned_Decides x.number next).1 number))

-- ---- what is bound has the type of a value

abbrev pub Values : List CStruct → List CParam → Type 0
Values structs bound = (x : Local) (type : CType) → type_of bound x ≡ Some type → IsValueType structs type

first_value : (structs : List CStruct) (b : Bool) (type u : CType) (o : Option CType) → IsValueType structs type → (o ≡ Some u → IsValueType structs u) → cond b (Some type) o ≡ Some u → IsValueType structs u
first_value structs true type u o value rest h = let e : type ≡ u = cc in subst (IsValueType structs) e value
first_value structs false type u o value rest h = rest h

pub more_values : (structs : List CStruct) (bound : List CParam) (c : CParam) → IsValueType structs c.kind → Values structs bound → Values structs (c ∷ bound)
more_values structs bound c value values = λ x u h. first_value structs (is_same x c.local) c.kind u (type_of bound x) value (values x u) h

pub all_values : (structs : List CStruct) (ps : List CParam) → AllByRecursion (λ q. IsValueType structs q.kind) ps → Values structs ps
all_values structs [] h = λ x u e. cc
all_values structs (p ∷ ps) h = more_values structs ps p h.0 (all_values structs ps h.1)

-- so has each expression
outcome_value : (structs : List CStruct) (o : COp) → IsValueType structs (outcome o)
outcome_value structs op.Add = tt
outcome_value structs op.Sub = tt
outcome_value structs op.Mul = tt
outcome_value structs op.Div = tt
outcome_value structs op.Rem = tt
outcome_value structs op.Lt = tt
outcome_value structs op.Le = tt
outcome_value structs op.Gt = tt
outcome_value structs op.Ge = tt
outcome_value structs op.Eq = tt
outcome_value structs op.Ne = tt
outcome_value structs op.And = tt
outcome_value structs op.Or = tt

pub has_value : (structs : List CStruct) (bound : List CParam) → Values structs bound → (e : t.Expr) (type : CType) → HasType bound e type → IsValueType structs type
has_value structs bound values (t.Int n) type h = subst (IsValueType structs) (sym h) tt
has_value structs bound values (t.Truth b) type h = subst (IsValueType structs) (sym h) tt
has_value structs bound values t.Null type h = absurd h
has_value structs bound values (t.Var x) type h = values x type h
has_value structs bound values (t.Neg e) type h = subst (IsValueType structs) (sym h.0) tt
has_value structs bound values (t.Not e) type h = subst (IsValueType structs) (sym h.0) tt
has_value structs bound values (t.Bin o a b) type h = subst (IsValueType structs) (sym h.0) (outcome_value structs o)

-- and so has what a cell holds
element_value : (structs : List CStruct) (o : Option CType) (type : CType) → option_and_then element o ≡ Some type → IsValueType structs type
element_value structs None type h = cc
element_value structs (Some kind.PtrI64) type h = let e : kind.I64 ≡ type = cc in subst (IsValueType structs) e tt
element_value structs (Some kind.PtrBool) type h = let e : kind.Bool ≡ type = cc in subst (IsValueType structs) e tt
element_value structs (Some kind.Void) type h = cc
element_value structs (Some kind.I64) type h = cc
element_value structs (Some kind.Bool) type h = cc
element_value structs (Some (kind.PtrStruct s)) type h = cc
element_value structs (Some kind.PtrAtomic) type h = cc
element_value structs (Some kind.PtrLock) type h = cc

member_value : (structs : List CStruct) (ms : List CMember) → AllByRecursion (λ m. IsValueType structs m.kind) ms → (name : Name) (type : CType) → type_of_member ms name ≡ Some type → IsValueType structs type
member_value structs [] h name type e = cc
member_value structs (m ∷ ms) h name type e =
    first_value structs (bytes_eq name m.name) m.kind type (type_of_member ms name) h.0 (λ k. member_value structs ms h.1 name type k) e

-- the members of each structure that is found are values
abbrev pub MembersFit : List CStruct → Type 0
MembersFit structs = (s : Name) (ms : List CMember) → members_of structs s ≡ Some ms → AllByRecursion (λ m. IsValueType structs m.kind) ms

pub members_fit : (p : t.Program) (ss : List CStruct) → AllByRecursion (StructFits p) ss → (s : Name) (ms : List CMember) → members_of ss s ≡ Some ms → AllByRecursion (λ m. IsValueType p.structs m.kind) ms
members_fit p [] h s ms e = cc
members_fit p (d ∷ ds) h s ms e = at (bytes_eq s d.name) e (λ k. members_fit p ds h.1 s ms k)
  where
    at : (b : Bool) → cond b (Some d.members) (members_of ds s) ≡ Some ms → (members_of ds s ≡ Some ms → AllByRecursion (λ m. IsValueType p.structs m.kind) ms) →
        AllByRecursion (λ m. IsValueType p.structs m.kind) ms
    at true k rest = let same : d.members ≡ ms = cc in subst (AllByRecursion (λ m. IsValueType p.structs m.kind)) same h.0.1
    at false k rest = rest k

pub cell_value : (structs : List CStruct) → MembersFit structs → (bound : List CParam) (c : t.Cell) (type : CType) → CellHasType structs bound c type → IsValueType structs type
cell_value structs fit bound (t.Whole base) type h = element_value structs (type_of bound base) type h
cell_value structs fit bound (t.At base index) type h = element_value structs (type_of bound base) type h.0
cell_value structs fit bound (t.Field base member) type h = member_value structs h.1 (fit h.0 h.1 h.3) member type h.4

-- ---- cells

pub local_found : (bound : List CParam) (want : CType) (at : ℕ) (x : Local) → type_of bound x ≡ Some want → local_wanted bound want at (written.local x) ≡ []
local_found bound want at x h = no_breach (is_type want (type_of bound x)) at (is_its_type want (type_of bound x) h)

members_there : (structs : List CStruct) (bound : List CParam) (base : Local) (s : Name) (ms : List CMember) → type_of bound base ≡ Some (kind.PtrStruct s) → members_of structs s ≡ Some ms →
    members_at (members_of structs) bound (written.local base) ≡ Some ms
members_there structs bound base s ms h k = ap (λ o. option_and_then (members_of structs) (option_and_then pointed o)) h ∙ k

pub cell_found : (structs : List CStruct) (bound : List CParam) (at : ℕ) (c : t.Cell) (type : CType) → CellHasType structs bound c type → cell_breaches (members_of structs) bound at (written.cell c) ≡ []
cell_found structs bound at (t.Whole base) type h = some_there (option_and_then element (type_of bound base)) type (at + 1) h
cell_found structs bound at (t.At base index) type h =
    let place = at + length (local_text (written.local base)) + 1 in
    join_none (unless_some (option_and_then element (type_of bound base)) at) (wanted bound kind.I64 place (written.expr index))
    (some_there (option_and_then element (type_of bound base)) type at h.0) (type_found bound kind.I64 place index h.1)
cell_found structs bound at (t.Field base member) type h =
    let place = at + length (local_text (written.local base)) + 2 in
    ap (λ o. field_breaches o member at place) (members_there structs bound base h.0 h.1 h.2 h.3) ∙ some_there (type_of_member h.1 member) type place h.4

pub cell_is : (structs : List CStruct) (bound : List CParam) (c : t.Cell) (type : CType) → CellHasType structs bound c type → held (members_of structs) bound (written.cell c) ≡ Some type
cell_is structs bound (t.Whole base) type h = h
cell_is structs bound (t.At base index) type h = h.0
cell_is structs bound (t.Field base member) type h = ap (option_and_then (λ ms. type_of_member ms member)) (members_there structs bound base h.0 h.1 h.2 h.3) ∙ h.4

pub load_found : (structs : List CStruct) (bound : List CParam) (type : CType) (at : ℕ) (c : t.Cell) → CellHasType structs bound c type → load_breaches (members_of structs) bound type at (written.cell c) ≡ []
load_found structs bound type at c h =
    let o = held (members_of structs) bound (written.cell c) in
    join_none (cell_breaches (members_of structs) bound at (written.cell c)) (unless (agrees type o) (named_at at (written.cell c))) (cell_found structs bound at c type h)
    (no_breach (agrees type o) (named_at at (written.cell c)) (ap (agrees type) (cell_is structs bound c type h) ∙ same_self type))

-- a value for a cell
pub value_found : (bound : List CParam) (o : Option CType) (type : CType) (at : ℕ) (e : t.Expr) → o ≡ Some type → Fits bound e type → argument_found bound o at (written.expr e) ≡ []
value_found bound o type at e k h = ap (λ x. argument_found bound x at (written.expr e)) k ∙ fit_found bound type at e h

-- ---- calls

pub arguments_found : (bound : List CParam) (at : ℕ) (es : List t.Expr) (ps : List CParam) → ArgumentsFit bound es ps →
    argument_breaches bound at (map written.expr es) (map (λ p. p.kind) (map written.param ps)) ≡ []
arguments_found bound at [] [] h = refl
arguments_found bound at [] (p ∷ ps) h = absurd h
arguments_found bound at (e ∷ es) [] h = absurd h
arguments_found bound at (e ∷ es) (p ∷ ps) h =
    let behind = at + length (expr_text (written.expr e)) + 2 in
    join_none (fitting bound p.kind at (written.expr e)) (argument_breaches bound behind (map written.expr es) (map (λ p. p.kind) (map written.param ps)))
    (fit_found bound p.kind at e h.0) (arguments_found bound behind es ps h.1)

arguments_count : (bound : List CParam) (es : List t.Expr) (ps : List CParam) → ArgumentsFit bound es ps → length (map written.expr es) ≡ length (map written.param ps)
arguments_count bound [] [] h = refl
arguments_count bound [] (p ∷ ps) h = absurd h
arguments_count bound (e ∷ es) [] h = absurd h
arguments_count bound (e ∷ es) (p ∷ ps) h = let k = arguments_count bound es ps h.1 in cc

-- the head of each function that is found
abbrev pub HeadsOf : t.Program → (Name → Option Head) → Type 0
HeadsOf p heads = (f : Name) (g : t.Fun) → function_of p.funs f ≡ Some g → heads f ≡ Some (written.head g)

pub call_found : (p : t.Program) (heads : Name → Option Head) → HeadsOf p heads → (bound : List CParam) (want : CType) (at : ℕ) (f : Name) (args : List t.Expr) → CallFits p bound f args want →
    call_breaches heads bound want at f (map written.expr args) ≡ []
call_found p heads known bound want at f args h =
    let g = h.0 in
    let place = at + length (function_name f) + 1 in
    let as' = map written.expr args in
    let qs = map written.param g.params in
    let same = same_type g.result want in
    let count = length as' == length qs in
    ap (λ o. call_of bound o want at f as') (known f g h.1)
    ∙ join_none (unless (same && count) at) (argument_breaches bound place as' (map (λ q. q.kind) qs))
    (no_breach (same && count) at (and_from same count (ap (λ r. same_type r want) h.2 ∙ same_self want) ((unsigned_Decides (length as') (length qs)).1 (arguments_count bound args g.params h.3))))
    (arguments_found bound place args g.params h.3)
