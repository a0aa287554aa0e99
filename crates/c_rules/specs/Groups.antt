-- Breaches in structures, prototypes, threads and functions, and all breaches of a text.
use Rattle.std.specs.Prelude.{ℕ, ◌+◌, ◌==◌, ◌&&◌, ◌||◌, not, nat_lt, Bool, true, false, Option, Some, None, if◌then◌else◌, List, [], ◌∷◌, ◌++◌, length, map, filter, drop, flat_map, codes}
use Rattle.std.specs.List.{slice_get}
use Rattle.std.specs.Str.{bytes_eq}
use Rattle.c_syntax.specs.declared.kind.CType.{CType}
use Rattle.c_syntax.specs.declared.kind.CType.TheVariants as kind
use Rattle.c_syntax.specs.declared.program.CStruct.{CStruct}
use Rattle.c_syntax.specs.PreludeText.{prelude}
use Rattle.c_syntax.specs.Rules.{Scope, members_of}
use Rattle.c_syntax.specs.Text.{line, statement, type_text, struct_name, member_name, function_name}
use Rattle.std.specs.Option.{is_some}
use Rattle.c_forms.specs.declared.word.Number.{Number}
use Rattle.c_forms.specs.declared.word.Number.TheVariants.{Small, Long}
use Rattle.c_forms.specs.declared.source.Member.{Member}
use Rattle.c_forms.specs.declared.source.Struct.{Struct}
use Rattle.c_forms.specs.declared.source.Param.{Param}
use Rattle.c_forms.specs.declared.source.Head.{Head}
use Rattle.c_forms.specs.declared.source.Slot.{Slot}
use Rattle.c_forms.specs.declared.source.Starter.{Starter}
use Rattle.c_forms.specs.Tree as w
use Rattle.c_forms.specs.Tree.{Name, Stmt, Stmts, Fun, Source}
use Rattle.c_forms.specs.Text.{slot_name, struct_text, param_text, head_text, prototype_text, fun_text, arguments_struct, starter_text}
use Rattle.c_rules.specs.Kinds.{same_type}
use Rattle.c_rules.specs.Lines.{Known, type_breaches, value_breaches, binder_breaches, bind, member_of, settled, stmts_found}
use Rattle.c_rules.specs.Sorts.{Structs, number_of, unless, unless_some}

-- ---- structures

-- the names that were declared before, and one more
abbrev pub Taken : Type 0
Taken = Name → Bool

abbrev pub nothing : Taken
nothing q = false

abbrev pub put : Name → Taken → Taken
put x taken = λ q. if bytes_eq x q then true else taken q

-- and several more
abbrev pub put_all : List Name → Taken → Taken
put_all [] taken = taken
put_all (x ∷ xs) taken = put_all xs (put x taken)

-- a name that was declared before
abbrev pub twice_breaches : Taken → ℕ → Name → List ℕ
twice_breaches taken at x = unless (not (taken x)) at

-- a member
abbrev pub member_text : Member → List ℕ
member_text m = statement 1 (type_text m.kind ∷ member_name m.name ∷ [])

abbrev pub member_breaches : Structs → Taken → ℕ → Member → List ℕ
member_breaches structs taken at m =
    let name = at + 2 + length (type_text m.kind) in
    type_breaches structs (at + 2) m.kind ++ value_breaches name m.kind ++ twice_breaches taken name m.name

-- the members of a structure
abbrev pub members_breaches : Structs → Taken → ℕ → List Member → List ℕ
members_breaches structs taken at [] = []
members_breaches structs taken at (m ∷ ms) =
    member_breaches structs taken at m ++ members_breaches structs (put m.name taken) (at + length (member_text m)) ms

abbrev pub struct_breaches : Structs → Taken → ℕ → Struct → List ℕ
struct_breaches structs taken at d =
    twice_breaches taken (at + 7) d.name ++ members_breaches structs nothing (at + length (line 0 (struct_name d.name ∷ codes " {" ∷ []))) d.members

-- the structures of a text
abbrev pub structs_breaches : Structs → Taken → ℕ → List Struct → List ℕ
structs_breaches structs taken at [] = []
structs_breaches structs taken at (d ∷ ds) = struct_breaches structs taken at d ++ structs_breaches structs (put d.name taken) (at + length (struct_text d)) ds

-- ---- prototypes

-- a parameter that begins at `at` and has the number k
abbrev pub param_breaches : Structs → Taken → ℕ → ℕ → Param → List ℕ
param_breaches structs taken k at p =
    binder_breaches structs k at p.kind p.local ++ twice_breaches taken (at + length (type_text p.kind)) p.local.name

-- parameters, the first of which begins at `at` and has the number k
abbrev pub params_breaches : Structs → Taken → ℕ → ℕ → List Param → List ℕ
params_breaches structs taken k at [] = []
params_breaches structs taken k at (p ∷ ps) =
    param_breaches structs taken k at p ++ params_breaches structs (put p.local.name taken) (k + 1) (at + length (param_text p) + 2) ps

-- whether two numbers are the same
abbrev pub same_number : Number → Number → Bool
same_number (Small a) (Small b) = a == b
same_number (Long a) (Long b) = bytes_eq a b
same_number _ _ = false

-- whether a parameter is the same as another that is there
abbrev pub same_param : Param → Option Param → Bool
same_param p None = false
same_param p (Some q) = same_type p.kind q.kind && bytes_eq p.local.name q.local.name && same_number p.local.number q.local.number

-- whether two heads are the same
abbrev pub same_params : List Param → List Param → Bool
same_params [] qs = not (is_some (slice_get qs 0))
same_params (p ∷ ps) qs = same_param p (slice_get qs 0) && same_params ps (drop 1 qs)

abbrev pub same_head : Head → Head → Bool
same_head a b = same_type a.result b.result && bytes_eq a.name b.name && same_params a.params b.params

-- whether the last statement is a `return`
abbrev pub is_return : Stmt → Bool
is_return (w.Return e) = true
is_return _ = false

abbrev pub last_returns : Bool → Stmts → Bool
last_returns before w.end = before
last_returns before (w.more s rest) = last_returns (is_return s) rest

abbrev pub returns : Stmts → Bool
returns list = last_returns false list

abbrev pub is_void : CType → Bool
is_void type = same_type type kind.Void

-- a function with a result ends in a `return`, and `main` has no parameter and no result
abbrev pub ends_well : Fun → Bool
ends_well f = is_void f.head.result || returns f.body

abbrev pub is_plain : Head → Bool
is_plain h = is_void h.result && (length h.params == 0)

abbrev pub begins_well : Fun → Bool
begins_well f = not (bytes_eq f.head.name (codes "main")) || is_plain f.head

-- a prototype, where that function stands at its place
abbrev pub prototype_breaches : Structs → Taken → ℕ → Head → Option Fun → List ℕ
prototype_breaches structs taken at p None = at ∷ []
prototype_breaches structs taken at p (Some f) =
    let name = at + 7 + length (type_text p.result) in
    unless (same_head p f.head && ends_well f && begins_well f) at ++ type_breaches structs (at + 7) p.result ++ twice_breaches taken name p.name
    ++ params_breaches structs nothing 1 (name + length (function_name p.name) + 1) p.params

-- the prototypes of a text, compared with its functions
abbrev pub prototypes_breaches : Structs → Taken → ℕ → List Head → List Fun → List ℕ
prototypes_breaches structs taken at [] funs = []
prototypes_breaches structs taken at (p ∷ ps) funs =
    prototype_breaches structs taken at p (slice_get funs 0) ++ prototypes_breaches structs (put p.name taken) (at + length (prototype_text p)) ps (drop 1 funs)

-- ---- threads

abbrev mutual
  -- the functions that are first in a `par` of a statement
  pub stmt_starts : Stmt → List Name
  stmt_starts (w.Par lines) = lines.structure ∷ []
  stmt_starts (w.If e first second) = stmts_starts first ++ stmts_starts second
  stmt_starts (w.While loads e body) = stmts_starts body
  stmt_starts _ = []

  -- the functions that are first in a `par` of statements
  pub stmts_starts : Stmts → List Name
  stmts_starts w.end = []
  stmts_starts (w.more s rest) = stmt_starts s ++ stmts_starts rest

-- the functions that are first in a `par` of functions
abbrev pub funs_starts : List Fun → List Name
funs_starts funs = flat_map (λ f. stmts_starts f.body) funs

-- whether a name is among these
abbrev pub among : List Name → Taken
among names = put_all names nothing

-- the heads of the functions with which threads begin
abbrev pub started : List Fun → List Head
started funs = map (λ f. f.head) (filter (λ f. among (funs_starts funs) f.head.name) funs)

-- a member of the structure of arguments, and an argument that is taken out of it
abbrev pub slot_text : Slot → List ℕ
slot_text m = statement 1 (type_text m.kind ∷ slot_name m.number ∷ [])

abbrev pub handed_text : Number → List ℕ
handed_text k = codes "c." ++ slot_name k

-- a member for a parameter of the number k
abbrev pub same_slot : ℕ → Slot → Option Param → Bool
same_slot k s None = false
same_slot k s (Some p) = same_type s.kind p.kind && (number_of s.number == k)

-- a member for each parameter, numbered from k on
abbrev pub same_slots : ℕ → List Slot → List Param → Bool
same_slots k [] ps = not (is_some (slice_get ps 0))
same_slots k (s ∷ ss) ps = same_slot k s (slice_get ps 0) && same_slots (k + 1) ss (drop 1 ps)

abbrev pub has_struct : Starter → Head → Bool
has_struct s h = bytes_eq s.structure h.name && same_slots 1 s.slots h.params

-- numbers from k on
abbrev pub are_numbered : ℕ → List Number → Bool
are_numbered k [] = true
are_numbered k (n ∷ ns) = (number_of n == k) && are_numbered (k + 1) ns

abbrev pub has_function : Starter → Head → Bool
has_function s h =
    bytes_eq s.name h.name && bytes_eq s.pointer h.name && bytes_eq s.copy h.name && bytes_eq s.function h.name && are_numbered 1 s.arguments
    && (length s.arguments == length h.params)

-- a structure of arguments and a starter, where a thread of that function is next
abbrev pub starter_breaches : ℕ → Starter → Option Head → List ℕ
starter_breaches at s None = at ∷ []
starter_breaches at s (Some h) = if has_struct s h then unless (has_function s h) (at + length (arguments_struct s)) else at ∷ []

abbrev pub starters_breaches : ℕ → List Starter → List Head → List ℕ
starters_breaches at [] heads = []
starters_breaches at (s ∷ ss) heads = starter_breaches at s (slice_get heads 0) ++ starters_breaches (at + length (starter_text s)) ss (drop 1 heads)

-- ---- functions

-- the parameters are bound one after the other
abbrev pub bind_params : Scope → List Param → Scope
bind_params scope [] = scope
bind_params scope (p ∷ ps) = bind_params (bind scope p.local.name p.kind) ps

-- what the last `return` is wanted to give
abbrev pub last_of : CType → Option CType
last_of result = if is_void result then None else Some result

abbrev pub body_breaches : Known → ℕ → Fun → List ℕ
body_breaches known at f =
    (stmts_found known (last_of f.head.result) 1 at f.body (settled (bind_params (record { bound = []; next = 1 }) f.head.params))).places

-- a function, which is the k-th where there are so many prototypes
abbrev pub fun_breaches : Known → ℕ → ℕ → ℕ → Fun → List ℕ
fun_breaches known count k at f =
    unless (nat_lt k count) (at + 7 + length (type_text f.head.result)) ++ body_breaches known (at + length (line 0 (head_text f.head ∷ codes " {" ∷ []))) f

abbrev pub funs_breaches : Known → ℕ → ℕ → ℕ → List Fun → List ℕ
funs_breaches known count k at [] = []
funs_breaches known count k at (f ∷ fs) = fun_breaches known count k at f ++ funs_breaches known count (k + 1) (at + length (fun_text f)) fs

-- ---- texts

-- a structure that is written, as one of the fragment
abbrev pub struct_of : Struct → CStruct
struct_of d = record { name = d.name; members = map member_of d.members }

-- the first head of that name
abbrev pub head_of : List Head → Name → Option Head
head_of [] f = None
head_of (d ∷ ds) f = if bytes_eq f d.name then Some d else head_of ds f

-- the functions with which threads begin that have no starter
abbrev pub missing : Source → List Name
missing s = map (λ h. h.name) (drop (length s.starters) (started s.funs))

-- what a text declares
abbrev pub known_in : Source → Known
known_in s = record {
  structs = members_of (map struct_of s.structs);
  heads = head_of (map (λ f. f.head) s.funs);
  missing = among (missing s);
}

-- all breaches of the rules that compare places of a text; without `f_main` that name in the fixed `main` is one
unfoldable pub breaches : Source → List ℕ
breaches s =
    let known = known_in s in
    let first = length prelude in
    let second = first + length (flat_map struct_text s.structs) in
    let third = second + length (flat_map prototype_text s.prototypes) in
    let fourth = third + length (flat_map starter_text s.starters) in
    let last = fourth + length (flat_map fun_text s.funs) in
    structs_breaches known.structs nothing first s.structs
    ++ prototypes_breaches known.structs (put_all (map (λ d. d.name) s.structs) nothing) second s.prototypes s.funs
    ++ starters_breaches third s.starters (started s.funs)
    ++ funs_breaches known (length s.prototypes) 0 fourth s.funs
    ++ unless_some (known.heads (codes "main")) (last + 19)
