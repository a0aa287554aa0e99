-- Breaches in statements.
use Rattle.std.specs.Prelude.{ℕ, ◌+◌, ◌==◌, ◌&&◌, not, Bool, true, false, Option, Some, None, if◌then◌else◌, List, [], ◌∷◌, ◌++◌, length, map, drop, flat_map, codes}
use Rattle.std.specs.List.{slice_get}
use Rattle.std.specs.Str.{bytes_eq}
use Rattle.c_syntax.specs.declared.kind.CType.{CType}
use Rattle.c_syntax.specs.declared.kind.CType.TheVariants as kind
use Rattle.c_syntax.specs.declared.program.CMember.{CMember}
use Rattle.c_syntax.specs.declared.program.CParam.{CParam}
use Rattle.c_syntax.specs.Rules.{Scope, is_same, typed}
use Rattle.c_syntax.specs.Text.{indent, joined, line, statement, type_text, function_name, member_name, arguments_name, starter_name}
use Rattle.c_forms.specs.declared.source.Head.{Head}
use Rattle.c_forms.specs.declared.source.Member.{Member}
use Rattle.c_forms.specs.declared.stmt.Maker.{Maker}
use Rattle.c_forms.specs.declared.stmt.Maker.TheVariants as maker
use Rattle.c_forms.specs.declared.word.Local.{Local}
use Rattle.c_forms.specs.Tree as w
use Rattle.c_forms.specs.Tree.{Name, Expr, Cell, Right, LoadLine, Argument, ParLines, Stmt, Stmts}
use Rattle.c_forms.specs.Text.{local_text, slot_name, expr_text, cell_text, maker_text, load_text, argument_text, call_text, stmt_text, stmts_text}
use Rattle.c_rules.specs.Kinds.{same_type, is_pointer}
use Rattle.c_rules.specs.Sorts.{Structs, number_of, local_of, kind_at, unless, unless_some, wanted, fitting, local_wanted, held, named_at, cell_breaches}

-- a member that is written, as one of the fragment
abbrev pub member_of : Member → CMember
member_of m = record { name = m.name; kind = m.kind }

-- what the whole text declares, by name: the members of structures, the heads of functions, and whether a function lacks what
-- the threads need that begin with a call of it
pub record Known : Type 0 where
  pub structs : Structs
  pub heads : Name → Option Head
  pub missing : Name → Bool

-- ---- types and binders

-- a type in front of a name: its structure is declared
abbrev pub type_breaches : Structs → ℕ → CType → List ℕ
type_breaches structs at (kind.PtrStruct s) = unless_some (structs s) (at + 7)
type_breaches structs at _ = []

-- the name behind a type isn't of type `void`
abbrev pub value_breaches : ℕ → CType → List ℕ
value_breaches at type = unless (not (same_type type kind.Void)) at

-- a binder with a type in front: it has the next number
abbrev pub binder_breaches : Structs → ℕ → ℕ → CType → Local → List ℕ
binder_breaches structs next at type x =
    let name = at + length (type_text type) in
    type_breaches structs at type ++ value_breaches name type ++ unless (number_of x.number == next) name

-- ---- calls

-- an argument for a parameter, or a value for a cell, of that type; where there is none it isn't looked at
abbrev pub argument_found : List CParam → Option CType → ℕ → Expr → List ℕ
argument_found bound None at e = []
argument_found bound (Some want) at e = fitting bound want at e

-- arguments, the first of which begins there
abbrev pub argument_breaches : List CParam → ℕ → List Expr → List CType → List ℕ
argument_breaches bound at [] wants = []
argument_breaches bound at (e ∷ es) wants =
    argument_found bound (slice_get wants 0) at e ++ argument_breaches bound (at + length (expr_text e) + 2) es (drop 1 wants)

-- a call of a function whose name begins there: of another result or with another count of arguments
abbrev pub call_of : List CParam → Option Head → CType → ℕ → Name → List Expr → List ℕ
call_of bound None want at f args = at ∷ []
call_of bound (Some g) want at f args =
    unless (same_type g.result want && (length args == length g.params)) at ++ argument_breaches bound (at + length (function_name f) + 1) args (map (λ p. p.kind) g.params)

abbrev pub call_breaches : (Name → Option Head) → List CParam → CType → ℕ → Name → List Expr → List ℕ
call_breaches heads bound want at f args = call_of bound (heads f) want at f args

-- ---- lines that bind a local

-- a right side begins at `at`, behind a name that begins at `name` and is bound with that type

-- the type of a pointer to what is made, and of what it is made of
abbrev pub made : Maker → CType
made maker.I64 = kind.PtrI64
made maker.Bool = kind.PtrBool
made maker.Atomic = kind.PtrAtomic

abbrev pub given : Maker → CType
given maker.I64 = kind.I64
given maker.Bool = kind.Bool
given maker.Atomic = kind.I64

-- whether that type is no other, where it is known
abbrev pub agrees : CType → Option CType → Bool
agrees want None = true
agrees want (Some type) = same_type type want

-- a load of that type
abbrev pub load_breaches : Structs → List CParam → CType → ℕ → Cell → List ℕ
load_breaches structs bound type at cell = cell_breaches structs bound at cell ++ unless (agrees type (held structs bound cell)) (named_at at cell)

-- a block for a structure: the pointer is to that one
abbrev pub pointer_breaches : Name → CType → ℕ → ℕ → List ℕ
pointer_breaches s (kind.PtrStruct t) name at = unless (bytes_eq t s) at
pointer_breaches s _ name at = name ∷ []

abbrev pub structure_breaches : Structs → CType → ℕ → ℕ → Name → List ℕ
structure_breaches structs type name at s = pointer_breaches s type name (at + 20) ++ unless_some (structs s) (at + 20)

-- a block of one cell, and one of several
abbrev pub made_breaches : List CParam → CType → ℕ → ℕ → Maker → Expr → List ℕ
made_breaches bound type name at maker e = unless (same_type type (made maker)) name ++ wanted bound (given maker) (at + length (maker_text maker)) e

abbrev pub array_breaches : List CParam → CType → ℕ → ℕ → Expr → Expr → List ℕ
array_breaches bound type name at e count =
    unless (same_type type kind.PtrI64) name ++ wanted bound kind.I64 (at + 8) e ++ wanted bound kind.I64 (at + 8 + length (expr_text e) + 2) count

-- an atomic load, and a compare-and-swap
abbrev pub atomic_breaches : List CParam → CType → ℕ → ℕ → Local → List ℕ
atomic_breaches bound type name at base = unless (same_type type kind.I64) name ++ local_wanted bound kind.PtrAtomic (at + 12) base

abbrev pub swap_breaches : List CParam → CType → ℕ → ℕ → Local → Expr → Expr → List ℕ
swap_breaches bound type name at base old new =
    let second = at + 6 + length (local_text base) + 2 in
    unless (same_type type kind.Bool) name ++ local_wanted bound kind.PtrAtomic (at + 6) base
    ++ wanted bound kind.I64 second old ++ wanted bound kind.I64 (second + length (expr_text old) + 2) new

abbrev pub right_breaches : Known → List CParam → CType → ℕ → ℕ → Right → List ℕ
right_breaches known bound type name at (w.Value e) = wanted bound type at e
right_breaches known bound type name at (w.Load cell) = load_breaches known.structs bound type at cell
right_breaches known bound type name at (w.New maker e) = made_breaches bound type name at maker e
right_breaches known bound type name at (w.Array e count) = array_breaches bound type name at e count
right_breaches known bound type name at (w.Structure s) = structure_breaches known.structs type name at s
right_breaches known bound type name at w.Lock = unless (same_type type kind.PtrLock) name
right_breaches known bound type name at (w.Call f args) = call_breaches known.heads bound type at f args
right_breaches known bound type name at (w.AtomicLoad base) = atomic_breaches bound type name at base
right_breaches known bound type name at w.Read = unless (same_type type kind.I64) name
right_breaches known bound type name at (w.Cas base old new) = swap_breaches bound type name at base old new

-- the line `T x = right;`, whose type begins at `at`
abbrev pub bind_breaches : Known → Scope → ℕ → CType → Local → Right → List ℕ
bind_breaches known scope at type x right =
    let name = at + length (type_text type) in
    binder_breaches known.structs scope.next at type x ++ right_breaches known scope.bound type name (name + length (local_text x) + 3) right

-- the next local is bound, with that name and type
abbrev pub bind : Scope → Name → CType → Scope
bind scope x type = record {
  bound = typed type (record { name = x; number = scope.next }) ∷ scope.bound;
  next = scope.next + 1;
}

-- the loads in the head of a loop, n levels deep
abbrev pub loads_breaches : Known → Scope → ℕ → ℕ → List LoadLine → List ℕ
loads_breaches known scope n at [] = []
loads_breaches known scope n at (l ∷ ls) =
    bind_breaches known scope (at + length (indent n)) l.kind l.local (w.Load l.cell)
    ++ loads_breaches known (bind scope l.local.name l.kind) n (at + length (load_text n l)) ls

-- what is bound behind them
abbrev pub bind_loads : Scope → List LoadLine → Scope
bind_loads scope [] = scope
bind_loads scope (l ∷ ls) = bind_loads (bind scope l.local.name l.kind) ls

-- ---- lines that bind none

abbrev pub store_breaches : Known → List CParam → ℕ → Cell → Expr → List ℕ
store_breaches known bound at cell e =
    cell_breaches known.structs bound at cell ++ argument_found bound (held known.structs bound cell) (at + length (cell_text cell) + 3) e

abbrev pub atomic_store_breaches : List CParam → ℕ → Local → Expr → List ℕ
atomic_store_breaches bound at base e =
    local_wanted bound kind.PtrAtomic (at + 13) base ++ wanted bound kind.I64 (at + 13 + length (local_text base) + 2) e

-- whether it is a pointer
abbrev pub is_freed : Option CType → Bool
is_freed None = false
is_freed (Some type) = is_pointer type

-- ---- threads

-- a line that hands argument k over, for a parameter of that type; one past the parameters is a breach at its `a_k`
abbrev pub handed_found : List CParam → Option CType → ℕ → ℕ → Argument → List ℕ
handed_found bound None k at a = at ∷ []
handed_found bound (Some want) k at a = unless (number_of a.number == k) at ++ fitting bound want (at + length (slot_name a.number) + 3) a.value

-- a parameter that is left is a breach at `first`
abbrev pub unless_none : Option CType → ℕ → List ℕ
unless_none None first = []
unless_none (Some want) first = first ∷ []

-- lines n levels deep that hand arguments over, from argument k on
abbrev pub handed_breaches : List CParam → ℕ → ℕ → ℕ → ℕ → List Argument → List CType → List ℕ
handed_breaches bound first n k at [] wants = unless_none (slice_get wants 0) first
handed_breaches bound first n k at (a ∷ as') wants =
    handed_found bound (slice_get wants 0) k (at + length (indent n) + 3) a
    ++ handed_breaches bound first n (k + 1) (at + length (argument_text n a)) as' (drop 1 wants)

-- the first call of a thread, whose function's name first stands at `first`
abbrev pub thread_breaches : Known → List CParam → Option Head → ℕ → ℕ → ℕ → ParLines → List ℕ
thread_breaches known bound None first n at p = first ∷ []
thread_breaches known bound (Some g) first n at p =
    unless (same_type g.result kind.Void && not (known.missing p.structure)) first
    ++ handed_breaches bound first n 1 at p.arguments (map (λ q. q.kind) g.params)

-- the line that makes the block of the arguments, and the one that starts the thread
abbrev pub made_text : ℕ → ParLines → List ℕ
made_text n p = statement n (arguments_name p.structure ∷ codes " *q = p_get(sizeof(" ∷ arguments_name p.size ∷ codes "))" ∷ [])

abbrev pub fork_text : ℕ → ParLines → List ℕ
fork_text n p = statement n (codes "thrd_t t = p_fork(" ∷ starter_name p.starter ∷ codes ", q)" ∷ [])

-- the lines between the braces
abbrev pub par_lines : ℕ → ParLines → List ℕ
par_lines n p =
    joined (
    made_text n p ∷
    flat_map (argument_text n) p.arguments ∷
    fork_text n p ∷
    statement n (call_text p.other p.others ∷ []) ∷ [])
    (statement n (codes "p_join(t)" ∷ []))

-- the lines of a `par` n levels deep that stand between the braces; the first begins at `at`
abbrev pub par_breaches : Known → List CParam → ℕ → ℕ → ParLines → List ℕ
par_breaches known bound n at p =
    let first = at + length (indent n) + 7 in
    let handed = at + length (made_text n p) in
    let fork = handed + length (flat_map (argument_text n) p.arguments) in
    let call = fork + length (fork_text n p) in
    thread_breaches known bound (known.heads p.structure) first n handed p
    ++ unless (bytes_eq p.size p.structure) (first + length (arguments_name p.structure) + 19)
    ++ unless (bytes_eq p.starter p.structure) (fork + length (indent n) + 18)
    ++ call_breaches known.heads bound kind.Void (call + length (indent n)) p.other p.others

-- ---- statements

-- a local whose structure's first values are still to come: where its name stands, its type, and the members that are left
pub record Waiting : Type 0 where
  pub name : ℕ
  pub local : Local
  pub kind : CType
  pub members : List CMember

-- what is bound where a line stands, and what waits for first values
pub record State : Type 0 where
  pub scope : Scope
  pub waiting : Option Waiting

-- breaches that were found, and what is bound behind
pub record Found : Type 0 where
  pub places : List ℕ
  pub state : State

-- nothing waits
abbrev pub settled : Scope → State
settled scope = record { scope = scope; waiting = None }

-- what is found, and what is left
abbrev pub found : List ℕ → State → Found
found places state = record { places = places; state = state }

-- the local is bound at once, unless members are left
abbrev pub awaiting : Scope → Waiting → List CMember → State
awaiting scope wait [] = settled (bind scope wait.local.name wait.kind)
awaiting scope wait (m ∷ ms) = record { scope = scope; waiting = Some (record wait { members = m ∷ ms }) }

-- the members of a structure, if it is declared
abbrev pub members_or_none : Option (List CMember) → List CMember
members_or_none None = []
members_or_none (Some members) = members

-- what is bound behind a line that binds a local; where it gets a structure's block, the members wait
abbrev pub behind_bind : Known → Scope → ℕ → CType → Local → Right → State
behind_bind known scope name type x (w.Structure s) =
    awaiting scope (record { name = name; local = x; kind = type; members = [] }) (members_or_none (known.structs s))
behind_bind known scope name type x _ = settled (bind scope x.name type)

-- a `return` is last in a function with a result, and there the result's type is wanted of it
abbrev pub return_breaches : List CParam → Option CType → ℕ → Expr → List ℕ
return_breaches bound None at e = at ∷ []
return_breaches bound (Some want) at e = fitting bound want at e

-- what still waits at the end of a block
abbrev pub left_waiting : Option Waiting → List ℕ
left_waiting None = []
left_waiting (Some wait) = wait.name ∷ []

-- what a `return` is wanted to give in front of these statements
abbrev pub at_end : Stmts → Option CType → Option CType
at_end w.end last = last
at_end (w.more s rest) last = None

-- a line `x->m_f = e;`
pub record FirstValue : Type 0 where
  pub base : Local
  pub member : Name
  pub value : Expr

-- the first value of a member of that local, if the line is one
abbrev pub value_line : Local → Stmt → Option FirstValue
value_line x (w.Store (w.Field y member) e) =
    if is_same (local_of y) (local_of x) then Some (record { base = y; member = member; value = e }) else None
value_line x _ = None

-- what it gives for the member that waits, where the line begins at `at` behind its blanks
abbrev pub value_places : List CParam → CMember → ℕ → FirstValue → List ℕ
value_places bound m at v =
    let place = at + length (local_text v.base) + 2 in
    unless (bytes_eq v.member m.name) place ++ fitting bound m.kind (place + length (member_name v.member) + 3) v.value

-- another line where something waits: a breach at the name of what waits, which is bound then
abbrev pub broken : ℕ → Found → Found
broken name rest = found (name ∷ rest.places) rest.state

-- a line where something waits; `plain` is what is found of it where nothing waits
abbrev pub waiting_found : (Scope → Found) → Scope → Waiting → List CMember → ℕ → Option FirstValue → Found
waiting_found plain scope wait (m ∷ ms) at (Some v) = found (value_places scope.bound m at v) (awaiting scope wait ms)
waiting_found plain scope wait _ at _ = broken wait.name (plain (bind scope wait.local.name wait.kind))

abbrev pub line_found : (Scope → Found) → Scope → Option Waiting → ℕ → Stmt → Found
line_found plain scope None at s = plain scope
line_found plain scope (Some wait) at s = waiting_found plain scope wait wait.members at (value_line wait.local s)

-- a block in that scope ended
abbrev pub ended : Scope → State → Scope
ended scope state = record { bound = scope.bound; next = state.scope.next }

-- the lines that end a loop where its test fails
abbrev pub test_text : ℕ → Expr → List ℕ
test_text n e = joined (line n (codes "if (!" ∷ expr_text e ∷ codes ") {" ∷ []) ∷ statement (n + 1) (codes "break" ∷ []) ∷ []) (line n (codes "}" ∷ []))

abbrev mutual
  -- a statement n levels deep, which begins at `at`, where nothing waits; `last` is what a `return` there is wanted to give
  pub stmt_found : Known → Option CType → ℕ → ℕ → Stmt → Scope → Found
  stmt_found known last n at (w.Bind type x right) scope =
      let start = at + length (indent n) in
      found (bind_breaches known scope start type x right) (behind_bind known scope (start + length (type_text type)) type x right)
  stmt_found known last n at (w.Store cell e) scope = found (store_breaches known scope.bound (at + length (indent n)) cell e) (settled scope)
  stmt_found known last n at (w.Free base) scope = found (unless (is_freed (kind_at scope.bound base)) (at + length (indent n) + 5)) (settled scope)
  stmt_found known last n at (w.AtomicStore base e) scope = found (atomic_store_breaches scope.bound (at + length (indent n)) base e) (settled scope)
  stmt_found known last n at (w.Acquire lock) scope = found (local_wanted scope.bound kind.PtrLock (at + length (indent n) + 10) lock) (settled scope)
  stmt_found known last n at (w.Release lock) scope = found (local_wanted scope.bound kind.PtrLock (at + length (indent n) + 10) lock) (settled scope)
  stmt_found known last n at (w.Print e) scope = found (wanted scope.bound kind.I64 (at + length (indent n) + 8) e) (settled scope)
  stmt_found known last n at (w.CallStmt f args) scope = found (call_breaches known.heads scope.bound kind.Void (at + length (indent n)) f args) (settled scope)
  stmt_found known last n at (w.Par lines) scope = found (par_breaches known scope.bound (n + 1) (at + length (line n (codes "{" ∷ []))) lines) (settled scope)
  stmt_found known last n at (w.If e first second) scope =
      let inside = at + length (line n (codes "if (" ∷ expr_text e ∷ codes ") {" ∷ [])) in
      let other = inside + length (stmts_text (n + 1) first) + length (line n (codes "} else {" ∷ [])) in
      let one = stmts_found known None (n + 1) inside first (settled scope) in
      let two = stmts_found known None (n + 1) other second (settled (ended scope one.state)) in
      found (wanted scope.bound kind.Bool (at + length (indent n) + 4) e ++ one.places ++ two.places) (settled (ended scope two.state))
  stmt_found known last n at (w.While loads e body) scope =
      let head = at + length (line n (codes "while (1) {" ∷ [])) in
      let test = head + length (flat_map (load_text (n + 1)) loads) in
      let inside = bind_loads scope loads in
      let rest = stmts_found known None (n + 1) (test + length (test_text (n + 1) e)) body (settled inside) in
      found
      (loads_breaches known scope (n + 1) head loads ++ wanted inside.bound kind.Bool (test + length (indent (n + 1)) + 5) e ++ rest.places)
      (settled (ended scope rest.state))
  stmt_found known last n at (w.Return e) scope = found (return_breaches scope.bound last (at + length (indent n) + 7) e) (settled scope)

  -- statements in a row, the first of which begins at `at`
  pub stmts_found : Known → Option CType → ℕ → ℕ → Stmts → State → Found
  stmts_found known last n at w.end state = found (left_waiting state.waiting) state
  stmts_found known last n at (w.more s rest) state =
      let one = line_found (stmt_found known (at_end rest last) n at s) state.scope state.waiting (at + length (indent n)) s in
      let others = stmts_found known last n (at + length (stmt_text n s)) rest one.state in
      found (one.places ++ others.places) others.state
