-- A line of a statement that keeps the rules has no breach.
use Rattle.std.proofs.Common.{◌≡◌, ◌∙◌, sym, ap, refl, subst, ℕ, ◌+◌, ◌==◌, ◌&&◌, not, Bool, false, Option, Some, List, [], ◌∷◌, ◌++◌, length, map, flat_map}
use Rattle.std.specs.Prelude.{IsSome, codes}
use Rattle.std.specs.Cmp.{unsigned_Decides}
use Rattle.std.specs.List.{AllByRecursion}
use Rattle.std.specs.Str.{bytes_eq}
use Rattle.std.proofs.lemmas.Bool.{and_from}
use Rattle.std.proofs.lemmas.Slice.Eq.{bytes_eq-Decides}
use Rattle.c_syntax.specs.declared.kind.CType.{CType}
use Rattle.c_syntax.specs.declared.kind.CType.TheVariants as kind
use Rattle.c_syntax.specs.declared.kind.Local.{Local}
use Rattle.c_syntax.specs.declared.program.CMember.{CMember}
use Rattle.c_syntax.specs.declared.program.CParam.{CParam}
use Rattle.c_syntax.specs.declared.program.CStruct.{CStruct}
use Rattle.c_syntax.specs.Forms.{AreLoads}
use Rattle.c_syntax.specs.Rules.{ArgumentsFit, CallFits, CellHasType, Fits, HasType, IsPointer, IsValueType, Scope, StmtFits, StmtsFit, after, after_all, bound_by, element, members_of, type_of, typed}
use Rattle.c_syntax.specs.Text.{arguments_name, indent, type_text}
use Rattle.c_syntax.specs.Tree as t
use Rattle.c_syntax.specs.Tree.{Name}
use Rattle.c_forms.specs.declared.source.Head.{Head}
use Rattle.c_forms.specs.declared.word.Number.TheVariants.{Small}
use Rattle.c_forms.specs.Text.{argument_text, cell_text, expr_text, load_text, local_text, slot_name}
use Rattle.c_forms.specs.Tree as w
use Rattle.c_rules.specs.Kinds.{same_type}
use Rattle.c_rules.specs.Lines.{Known, argument_found, array_breaches, atomic_store_breaches, bind, bind_breaches, bind_loads, binder_breaches, call_breaches, fork_text, handed_breaches, handed_found, is_freed, loads_breaches, made_breaches, made_text, par_breaches, right_breaches, store_breaches, structure_breaches, swap_breaches, thread_breaches}
use Rattle.c_rules.specs.Sorts.{cell_breaches, fitting, held, local_wanted, unless, unless_some, wanted}
use Rattle.c_reader.proofs.Breachless.{join_none, no_breach, points, same_from, some_there}
use Rattle.c_reader.proofs.NoBreachTypes.{HeadsOf, MembersFit, Values, binder_found, call_found, cell_found, cell_is, cell_value, has_value, load_found, local_found, more_values, value_found}
use Rattle.c_reader.proofs.TypedExprs.{fit_found, type_found}
use Rattle.c_reader.proofs.Written as written

-- ---- what a statement binds

pub found_structure : (structs : List CStruct) (s : Name) (ms : List CMember) → members_of structs s ≡ Some ms → IsValueType structs (kind.PtrStruct s)
found_structure structs s ms h = subst IsSome (sym h) refl

pub pointer_value : (structs : List CStruct) (type held : CType) → element type ≡ Some held → IsValueType structs type
pointer_value structs kind.PtrI64 held h = tt
pointer_value structs kind.PtrBool held h = tt
pointer_value structs kind.Void held h = cc
pointer_value structs kind.I64 held h = cc
pointer_value structs kind.Bool held h = cc
pointer_value structs (kind.PtrStruct s) held h = cc
pointer_value structs kind.PtrAtomic held h = cc
pointer_value structs kind.PtrLock held h = cc

-- what a statement binds is a value
pub binder_values : (p : t.Program) → MembersFit p.structs → (scope : Scope) → Values p.structs scope.bound → (u : t.Stmt) → StmtFits p scope u →
    AllByRecursion (λ q. IsValueType p.structs q.kind) (bound_by u)
binder_values p fit scope values (t.Let type x e) h = (has_value p.structs scope.bound values e type h, tt)
binder_values p fit scope values (t.Load type x c) h = (cell_value p.structs fit scope.bound c type h, tt)
binder_values p fit scope values (t.Store c e) h = tt
binder_values p fit scope values (t.New type x e) h = (pointer_value p.structs type h.0 h.1, tt)
binder_values p fit scope values (t.NewArray type x e n) h = (subst (IsValueType p.structs) (sym h.0) tt, tt)
binder_values p fit scope values (t.NewAtomic x e) h = (tt, tt)
binder_values p fit scope values (t.NewStruct x s is) h = (found_structure p.structs s h.0 h.1, tt)
binder_values p fit scope values (t.Free x) h = tt
binder_values p fit scope values (t.AtomicLoad x y) h = (tt, tt)
binder_values p fit scope values (t.AtomicStore x e) h = tt
binder_values p fit scope values (t.Cas x y o n) h = (tt, tt)
binder_values p fit scope values (t.NewLock x) h = (tt, tt)
binder_values p fit scope values (t.Acquire x) h = tt
binder_values p fit scope values (t.Release x) h = tt
binder_values p fit scope values (t.Read x) h = (tt, tt)
binder_values p fit scope values (t.Print e) h = tt
binder_values p fit scope values (t.Call f args) h = tt
binder_values p fit scope values (t.CallLet type x f args) h = (h.1, tt)
binder_values p fit scope values (t.Par f args g others) h = tt
binder_values p fit scope values (t.If e a b) h = tt
binder_values p fit scope values (t.While ls e b) h = tt
binder_values p fit scope values (t.Return e) h = tt

append_values : (structs : List CStruct) (qs bound : List CParam) → AllByRecursion (λ q. IsValueType structs q.kind) qs → Values structs bound → Values structs (qs ++ bound)
append_values structs [] bound h values = values
append_values structs (q ∷ qs) bound h values = more_values structs (qs ++ bound) q h.0 (append_values structs qs bound h.1 values)

pub values_after : (p : t.Program) → MembersFit p.structs → (scope : Scope) → Values p.structs scope.bound → (u : t.Stmt) → StmtFits p scope u → Values p.structs (after scope u).bound
values_after p fit scope values u h = append_values p.structs (bound_by u) scope.bound (binder_values p fit scope values u h) values

pub values_after_all : (p : t.Program) → MembersFit p.structs → (scope : Scope) → Values p.structs scope.bound → (ts : t.Stmts) → StmtsFit p scope ts → Values p.structs (after_all scope ts).bound
values_after_all p fit scope values t.end h = values
values_after_all p fit scope values (t.more u rest) h = values_after_all p fit (after scope u) (values_after p fit scope values u h.1) rest h.2

-- a binder is bound as the rules say
pub bound_next : (scope : Scope) (type : CType) (x : Local) → x.number ≡ scope.next → bind scope x.name type ≡ record { bound = typed type x ∷ scope.bound; next = scope.next + 1 }
bound_next scope type x number = ap (λ (n : ℕ). record { bound = typed type (record { name = x.name; number = n }) ∷ scope.bound; next = scope.next + 1 }) (sym number)

-- ---- right sides

same_found : (type want : CType) (at : ℕ) → type ≡ want → unless (same_type type want) at ≡ []
same_found type want at h = no_breach (same_type type want) at (same_from type want h)

pub made_found : (bound : List CParam) (type held : CType) (name at : ℕ) (e : t.Expr) → element type ≡ Some held → HasType bound e held →
    made_breaches bound type name at (written.maker_of type) (written.expr e) ≡ []
made_found bound kind.PtrI64 held name at e h k = let same : held ≡ kind.I64 = cc in type_found bound kind.I64 (at + length (codes "p_new_i64(")) e (subst (HasType bound e) same k)
made_found bound kind.PtrBool held name at e h k = let same : held ≡ kind.Bool = cc in type_found bound kind.Bool (at + length (codes "p_new_bool(")) e (subst (HasType bound e) same k)
made_found bound kind.Void held name at e h k = cc
made_found bound kind.I64 held name at e h k = cc
made_found bound kind.Bool held name at e h k = cc
made_found bound (kind.PtrStruct s) held name at e h k = cc
made_found bound kind.PtrAtomic held name at e h k = cc
made_found bound kind.PtrLock held name at e h k = cc

pub array_found : (bound : List CParam) (type : CType) (name at : ℕ) (e count : t.Expr) → type ≡ kind.PtrI64 → HasType bound e kind.I64 → HasType bound count kind.I64 →
    array_breaches bound type name at (written.expr e) (written.expr count) ≡ []
array_found bound type name at e count h k l =
    let A = unless (same_type type kind.PtrI64) name in
    let B = wanted bound kind.I64 (at + 8) (written.expr e) in
    let place = at + 8 + length (expr_text (written.expr e)) + 2 in
    join_none (A ++ B) (wanted bound kind.I64 place (written.expr count)) (join_none A B (same_found type kind.PtrI64 name h) (type_found bound kind.I64 (at + 8) e k)) (type_found bound kind.I64 place count l)

pub structure_found : (structs : List CStruct) (s : Name) (ms : List CMember) (name at : ℕ) → members_of structs s ≡ Some ms → structure_breaches (members_of structs) (kind.PtrStruct s) name at s ≡ []
structure_found structs s ms name at h =
    join_none (unless (bytes_eq s s) (at + 20)) (unless_some (members_of structs s) (at + 20)) (no_breach (bytes_eq s s) (at + 20) ((bytes_eq-Decides s s).1 refl))
    (some_there (members_of structs s) ms (at + 20) h)

pub swap_found : (bound : List CParam) (name at : ℕ) (base : Local) (old new : t.Expr) → type_of bound base ≡ Some kind.PtrAtomic → HasType bound old kind.I64 → HasType bound new kind.I64 →
    swap_breaches bound kind.Bool name at (written.local base) (written.expr old) (written.expr new) ≡ []
swap_found bound name at base old new h k l =
    let second = at + 6 + length (local_text (written.local base)) + 2 in
    let third = second + length (expr_text (written.expr old)) + 2 in
    let B = local_wanted bound kind.PtrAtomic (at + 6) (written.local base) in
    let C = wanted bound kind.I64 second (written.expr old) in
    join_none (B ++ C) (wanted bound kind.I64 third (written.expr new)) (join_none B C (local_found bound kind.PtrAtomic (at + 6) base h) (type_found bound kind.I64 second old k))
    (type_found bound kind.I64 third new l)

-- ---- other lines

pub store_found : (known : Known) (structs : List CStruct) (bound : List CParam) (at : ℕ) (c : t.Cell) (e : t.Expr) (type : CType) → known.structs ≡ members_of structs → CellHasType structs bound c type →
    Fits bound e type → store_breaches known bound at (written.cell c) (written.expr e) ≡ []
store_found known structs bound at c e type s h k =
    let place = at + length (cell_text (written.cell c)) + 3 in
    ap (λ ms. cell_breaches ms bound at (written.cell c) ++ argument_found bound (held ms bound (written.cell c)) place (written.expr e)) s
    ∙ join_none (cell_breaches (members_of structs) bound at (written.cell c)) (argument_found bound (held (members_of structs) bound (written.cell c)) place (written.expr e))
    (cell_found structs bound at c type h) (value_found bound (held (members_of structs) bound (written.cell c)) type place e (cell_is structs bound c type h) k)

pub free_found : (o : Option CType) (type : CType) (at : ℕ) → o ≡ Some type → IsPointer type → unless (is_freed o) at ≡ []
free_found o type at h k = no_breach (is_freed o) at (ap is_freed h ∙ points type k)

pub atomic_found : (bound : List CParam) (at : ℕ) (base : Local) (e : t.Expr) → type_of bound base ≡ Some kind.PtrAtomic → HasType bound e kind.I64 →
    atomic_store_breaches bound at (written.local base) (written.expr e) ≡ []
atomic_found bound at base e h k =
    let place = at + 13 + length (local_text (written.local base)) + 2 in
    join_none (local_wanted bound kind.PtrAtomic (at + 13) (written.local base)) (wanted bound kind.I64 place (written.expr e)) (local_found bound kind.PtrAtomic (at + 13) base h)
    (type_found bound kind.I64 place e k)

-- ---- threads

pub arguments_handed : (bound : List CParam) (first n k at : ℕ) (es : List t.Expr) (ps : List CParam) → ArgumentsFit bound es ps →
    handed_breaches bound first n k at (written.arguments k es) (map (λ q. q.kind) (map written.param ps)) ≡ []
arguments_handed bound first n k at [] [] h = refl
arguments_handed bound first n k at [] (q ∷ ps) h = absurd h
arguments_handed bound first n k at (e ∷ es) [] h = absurd h
arguments_handed bound first n k at (e ∷ es) (q ∷ ps) h =
    let a : w.Argument = record { number = Small k; value = written.expr e } in
    let here = at + length (indent n) + 3 in
    let place = here + length (slot_name (Small k)) + 3 in
    let behind = at + length (argument_text n a) in
    join_none (handed_found bound (Some q.kind) k here a) (handed_breaches bound first n (k + 1) behind (written.arguments (k + 1) es) (map (λ q. q.kind) (map written.param ps)))
    (join_none (unless (k == k) here) (fitting bound q.kind place (written.expr e)) (no_breach (k == k) here ((unsigned_Decides k k).1 refl)) (fit_found bound q.kind place e h.0))
    (arguments_handed bound first n (k + 1) behind es ps h.1)

-- the bracketed lines of a thread's first call and the call beside it
abbrev pub threads : Name → List t.Expr → Name → List t.Expr → w.ParLines
threads f args g others = record { structure = f; size = f; arguments = written.arguments 1 args; starter = f; other = g; others = map written.expr others }

module _ (p : t.Program) (heads : Name → Option Head) (missing : Name → Bool) where
  abbrev known : Known
  known = record { structs = members_of p.structs; heads = heads; missing = missing }

  thread_found : HeadsOf p heads → (bound : List CParam) (first n at : ℕ) (f : Name) (args : List t.Expr) (g : Name) (others : List t.Expr) → missing f ≡ false → CallFits p bound f args kind.Void →
      thread_breaches known bound (heads f) first n at (threads f args g others) ≡ []
  thread_found of bound first n at f args g others none h =
      let fun = h.0 in
      let test = same_type fun.result kind.Void && not (missing f) in
      let qs = map (λ q. q.kind) (map written.param fun.params) in
      ap (λ o. thread_breaches known bound o first n at (threads f args g others)) (of f fun h.1)
      ∙ join_none (unless test first) (handed_breaches bound first n 1 at (written.arguments 1 args) qs)
      (no_breach test first (and_from (same_type fun.result kind.Void) (not (missing f)) (same_from fun.result kind.Void h.2) (ap not none)))
      (arguments_handed bound first n 1 at args fun.params h.3)

  pub par_found : HeadsOf p heads → (bound : List CParam) (n at : ℕ) (f : Name) (args : List t.Expr) (g : Name) (others : List t.Expr) → missing f ≡ false → CallFits p bound f args kind.Void →
      CallFits p bound g others kind.Void → par_breaches known bound n at (threads f args g others) ≡ []
  par_found of bound n at f args g others none h k =
      let lines = threads f args g others in
      let first = at + length (indent n) + 7 in
      let hand = at + length (made_text n lines) in
      let fork = hand + length (flat_map (argument_text n) lines.arguments) in
      let call = fork + length (fork_text n lines) in
      let size = first + length (arguments_name f) + 19 in
      let start = fork + length (indent n) + 18 in
      let A = thread_breaches known bound (heads f) first n hand lines in
      let B = unless (bytes_eq f f) size in
      let C = unless (bytes_eq f f) start in
      let D = call_breaches heads bound kind.Void (call + length (indent n)) g (map written.expr others) in
      let same = (bytes_eq-Decides f f).1 refl in
      join_none (A ++ B ++ C) D
      (join_none (A ++ B) C (join_none A B (thread_found of bound first n hand f args g others none h) (no_breach (bytes_eq f f) size same)) (no_breach (bytes_eq f f) start same))
      (call_found p heads of bound kind.Void (call + length (indent n)) g others k)

  -- the line that binds a local
  pub bind_found : (scope : Scope) (at : ℕ) (type : CType) (x : Local) (right : w.Right) → IsValueType p.structs type → x.number ≡ scope.next →
      ((name place : ℕ) → right_breaches known scope.bound type name place right ≡ []) → bind_breaches known scope at type (written.local x) right ≡ []
  bind_found scope at type x right value number h =
      let name = at + length (type_text type) in
      let place = name + length (local_text (written.local x)) + 3 in
      join_none (binder_breaches (members_of p.structs) scope.next at type (written.local x)) (right_breaches known scope.bound type name place right)
      (binder_found p.structs scope.next at type x value number) (h name place)

  -- the loads in the head of a loop
  pub loads_found : MembersFit p.structs → (scope : Scope) → Values p.structs scope.bound → (n at : ℕ) (ls : t.Stmts) → AreLoads ls → StmtsFit p scope ls →
      loads_breaches known scope n at (written.loads ls) ≡ []
  loads_found fit scope values n at t.end f h = refl
  loads_found fit scope values n at (t.more (t.Load type x c) rest) f h =
      let l : w.LoadLine = record { kind = type; local = written.local x; cell = written.cell c } in
      let u = t.Load type x c in
      let here = at + length (indent n) in
      let behind = at + length (load_text n l) in
      let one = bind_breaches known scope here type (written.local x) (w.Load (written.cell c)) in
      join_none one (loads_breaches known (bind scope x.name type) n behind (written.loads rest))
      (bind_found scope here type x (w.Load (written.cell c)) (cell_value p.structs fit scope.bound c type h.1) h.0.0 (λ name place. load_found p.structs scope.bound type place c h.1))
      (ap (λ q. loads_breaches known q n behind (written.loads rest)) (bound_next scope type x h.0.0)
      ∙ loads_found fit (after scope u) (values_after p fit scope values u h.1) n behind rest f h.2)
  loads_found fit scope values n at (t.more _ rest) f h = absurd f

-- and what is bound behind them
pub loads_bound : (p : t.Program) (scope : Scope) (ls : t.Stmts) → AreLoads ls → StmtsFit p scope ls → bind_loads scope (written.loads ls) ≡ after_all scope ls
loads_bound p scope t.end f h = refl
loads_bound p scope (t.more (t.Load type x c) rest) f h = ap (λ q. bind_loads q (written.loads rest)) (bound_next scope type x h.0.0) ∙ loads_bound p (after scope (t.Load type x c)) rest f h.2
loads_bound p scope (t.more _ rest) f h = absurd f
