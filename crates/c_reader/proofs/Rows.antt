-- Statements without breaches keep the rules, and are written again as they were.
use Rattle.std.proofs.Common.{◌≡◌, ◌∙◌, sym, ap, refl, subst, ℕ, ◌+◌, ◌<◌, ◌==◌, ◌&&◌, not, Bool, true, false, Option, Some, None, List, [], ◌∷◌, ◌++◌, length, map, flat_map, arith}
use Rattle.std.specs.Prelude.{codes}
use Rattle.std.specs.Str.{bytes_eq}
use Rattle.std.specs.Cmp.{unsigned_Decides}
use Rattle.std.proofs.lemmas.Bool.{and_parts}
use Rattle.std.proofs.lemmas.Slice.Eq.{bytes_eq-Decides}
use Rattle.c_syntax.specs.declared.kind.CType.{CType}
use Rattle.c_syntax.specs.declared.kind.CType.TheVariants as kind
use Rattle.c_syntax.specs.declared.program.CParam.{CParam}
use Rattle.c_syntax.specs.Rules.{ArgumentsFit, CallFits, IsPointer, Scope, StmtsFit, after, after_all, members_of, moved, stmts_binders}
use Rattle.c_syntax.specs.Text.{arguments_name, indent, line, type_text}
use Rattle.c_syntax.specs.Tree as t
use Rattle.c_syntax.specs.Tree.{Name}
use Rattle.c_forms.specs.declared.source.Head.{Head}
use Rattle.c_forms.specs.declared.source.Param.{Param}
use Rattle.c_forms.specs.declared.word.Local.{Local}
use Rattle.c_forms.specs.declared.word.Number.TheVariants.{Small, Long}
use Rattle.c_forms.specs.Text.{argument_text, cell_text, expr_text, load_text, local_text, slot_name, stmt_text, stmts_text}
use Rattle.c_forms.specs.Tree as w
use Rattle.c_rules.specs.Kinds.{same_type}
use Rattle.c_rules.specs.Lines.{Known, State, Waiting, argument_found, atomic_store_breaches, behind_bind, bind, bind_breaches, bind_loads, binder_breaches, call_breaches, call_of, ended, fork_text, handed_breaches, handed_found, is_freed, line_found, loads_breaches, made_text, par_breaches, right_breaches, settled, stmt_found, stmts_found, store_breaches, test_text, thread_breaches, value_line}
use Rattle.c_rules.specs.Sorts.{Structs, cell_breaches, fitting, held, kind_at, local_of, local_wanted, number_of, unless, wanted}
use Rattle.c_rules.specs.Lines.{at_end}
use Rattle.c_forms.specs.declared.word.Number.{Number}
use Rattle.c_rules.proofs.ExprRules.{same_is, none_both}
use Rattle.c_reader.specs.Standing.{Gathered, bind_of, cell_of, expr_of, loads_of, param_of, plain_line, stmt_of, stmts_of, structure_line}
use Rattle.c_reader.proofs.BindLines.{IsPlain, Bind_, bind_line, binder, call_same}
use Rattle.c_reader.proofs.Breachless.{holds, pointer}
use Rattle.c_reader.proofs.CellTypes.{Heads, Stands, calls, local_type, stores, cell_held}
use Rattle.c_reader.proofs.ExprTypes.{fits, has_type}
use Rattle.c_reader.proofs.Rewritten.{Counted, bound_local, fitting_expr, known_cell, wanted_expr, wanted_local}
use Rattle.c_reader.proofs.Scopes.{Good, after_all_next, good_after, good_moved}
use Rattle.c_reader.proofs.Steps.{Same, Step, front, structure_step, waiting_step}
use Rattle.c_reader.proofs.Steps.Step.{silent, emits}
use Rattle.c_reader.proofs.Written as written

-- ---- lines of one statement

not_structure : (type : CType) (x : Local) (right : w.Right) → IsPlain right → structure_line (w.Bind type x right) ≡ None
not_structure type x (w.Value e) h = refl
not_structure type x (w.Load c) h = refl
not_structure type x (w.New m e) h = refl
not_structure type x (w.Array e n) h = refl
not_structure type x (w.Structure s) h = absurd h
not_structure type x w.Lock h = refl
not_structure type x (w.Call f args) h = refl
not_structure type x (w.AtomicLoad b) h = refl
not_structure type x w.Read h = refl
not_structure type x (w.Cas b o n) h = refl

at_once : (known : Known) (scope : Scope) (name : ℕ) (type : CType) (x : Local) (right : w.Right) → IsPlain right → behind_bind known scope name type x right ≡ settled (bind scope x.name type)
at_once known scope name type x (w.Value e) h = refl
at_once known scope name type x (w.Load c) h = refl
at_once known scope name type x (w.New m e) h = refl
at_once known scope name type x (w.Array e n) h = refl
at_once known scope name type x (w.Structure s) h = absurd h
at_once known scope name type x w.Lock h = refl
at_once known scope name type x (w.Call f args) h = refl
at_once known scope name type x (w.AtomicLoad b) h = refl
at_once known scope name type x w.Read h = refl
at_once known scope name type x (w.Cas b o n) h = refl

freed : (o : Option CType) → is_freed o ≡ true → (type : CType) × (o ≡ Some type) × IsPointer type
freed None h = cc
freed (Some type) h = (type, refl, pointer type h)

-- ---- statements

-- what a row of statements stands for, and what is bound behind it
pub record Row (p : t.Program) (scope : Scope) (g : Option Gathered) (list : w.Stmts) (behind : State) : Type 0 where
  pub rules : StmtsFit p scope (stmts_of (members_of p.structs) list g)
  pub state : behind ≡ settled (after_all scope (stmts_of (members_of p.structs) list g))
  pub text : written.stmts (stmts_of (members_of p.structs) list g) ≡ front g list

-- the loads in the head of a loop
pub record Head_ (p : t.Program) (scope : Scope) (ls : List w.LoadLine) : Type 0 where
  pub rules : StmtsFit p scope (loads_of ls)
  pub inside : bind_loads scope ls ≡ after_all scope (loads_of ls)
  pub good : Good (after_all scope (loads_of ls))
  pub text : written.loads (loads_of ls) ≡ ls

-- the arguments of a thread's first call
pub record Handed (bound : List CParam) (k : ℕ) (as' : List w.Argument) (ps : List Param) : Type 0 where
  pub rules : ArgumentsFit bound (map (λ a. expr_of a.value) as') (map param_of ps)
  pub text : written.arguments k (map (λ a. expr_of a.value) as') ≡ as'

module _ (p : t.Program) (heads : Name → Option Head) (missing : Name → Bool) where
  abbrev known : Known
  known = record { structs = members_of p.structs; heads = heads; missing = missing }

  abbrev structs : Structs
  structs = members_of p.structs

  module _ (kh : Heads p known) where
    -- a line that binds a local
    bind_step : (scope : Scope) → Good scope → (at : ℕ) (type : CType) (x : Local) (right : w.Right) → bind_breaches known scope at type x right ≡ [] →
        Step p scope None (w.Bind type x right) (bind_of type (local_of x) right) (behind_bind known scope (at + length (type_text type)) type x right)
    bind_step scope good at type x right h = of right (none_both (binder_breaches structs scope.next at type x) (right_breaches known scope.bound type name (name + length (local_text x) + 3) right) h)
      where
        name : ℕ
        name = at + length (type_text type)

        plain : (right : w.Right) → IsPlain right → (binder_breaches structs scope.next at type x ≡ []) × (right_breaches known scope.bound type name (name + length (local_text x) + 3) right ≡ []) →
            Step p scope None (w.Bind type x right) (bind_of type (local_of x) right) (behind_bind known scope name type x right)
        plain right pl h =
            let b = binder p.structs scope.next at type x h.0 in
            let l : Bind_ p scope type x right = bind_line p heads missing kh scope good.before good.positive good.counted type x b.number b.value name (name + length (local_text x) + 3) right pl h.1 in
            emits (bind_of type (local_of x) right)
            (λ k. ap (λ o. plain_line structs o (bind_of type (local_of x) right) k) (not_structure type x right pl))
            l.line.numbers l.line.rules (at_once known scope name type x right pl ∙ l.state) l.line.text

        of : (right : w.Right) → (binder_breaches structs scope.next at type x ≡ []) × (right_breaches known scope.bound type name (name + length (local_text x) + 3) right ≡ []) →
            Step p scope None (w.Bind type x right) (bind_of type (local_of x) right) (behind_bind known scope name type x right)
        of (w.Structure s) h =
            structure_step p scope good type x s name (name + length (local_text x) + 3) (bind_of type (local_of x) (w.Structure s)) (binder p.structs scope.next at type x h.0).number h.1
        of (w.Value e) h = plain (w.Value e) tt h
        of (w.Load c) h = plain (w.Load c) tt h
        of (w.New m e) h = plain (w.New m e) tt h
        of (w.Array e n) h = plain (w.Array e n) tt h
        of w.Lock h = plain w.Lock tt h
        of (w.Call f args) h = plain (w.Call f args) tt h
        of (w.AtomicLoad b) h = plain (w.AtomicLoad b) tt h
        of w.Read h = plain w.Read tt h
        of (w.Cas b o n) h = plain (w.Cas b o n) tt h

    -- a line that stands for itself and binds nothing
    store_step : (scope : Scope) → Good scope → (at : ℕ) (c : w.Cell) (e : w.Expr) → store_breaches known scope.bound at c e ≡ [] →
        Step p scope None (w.Store c e) (t.Store (cell_of c) (expr_of e)) (settled scope)
    store_step scope good at c e h =
        let place = at + length (cell_text c) + 3 in
        let parts = none_both (cell_breaches structs scope.bound at c) (argument_found scope.bound (held structs scope.bound c) place e) h in
        let m = cell_held p.structs scope.bound at c parts.0 in
        let v : fitting scope.bound m.type place e ≡ [] = sym (ap (λ x. argument_found scope.bound x place e) m.is) ∙ parts.1 in
        emits (t.Store (cell_of c) (expr_of e)) (λ k. refl) tt (stores known p.structs scope.bound at c e refl h) (ap (λ (n : ℕ). settled (record { bound = scope.bound; next = n })) (omega arith))
        (λ rest. ap (λ y. w.more (w.Store y e) rest) (sym (known_cell structs scope.bound good.counted at c parts.0))
        ∙ ap (λ y. w.more (w.Store (written.cell (cell_of c)) y) rest) (sym (fitting_expr scope.bound good.counted m.type place e v)))

    -- nothing is bound
    same_scope : (scope : Scope) → settled scope ≡ settled (record { bound = scope.bound; next = scope.next + 0 })
    same_scope scope = ap (λ (n : ℕ). settled (record { bound = scope.bound; next = n })) (omega arith)

    free_step : (scope : Scope) → Good scope → (at : ℕ) (x : Local) → unless (is_freed (kind_at scope.bound x)) at ≡ [] → Step p scope None (w.Free x) (t.Free (local_of x)) (settled scope)
    free_step scope good at x h =
        let f = freed (kind_at scope.bound x) (holds (is_freed (kind_at scope.bound x)) at h) in
        emits (t.Free (local_of x)) (λ k. refl) tt f (same_scope scope) (λ rest. ap (λ y. w.more (w.Free y) rest) (sym (bound_local scope.bound good.counted x f.0 f.1)))

    atomic_step : (scope : Scope) → Good scope → (at : ℕ) (x : Local) (e : w.Expr) → atomic_store_breaches scope.bound at x e ≡ [] →
        Step p scope None (w.AtomicStore x e) (t.AtomicStore (local_of x) (expr_of e)) (settled scope)
    atomic_step scope good at x e h =
        let place = at + 13 + length (local_text x) + 2 in
        let parts = none_both (local_wanted scope.bound kind.PtrAtomic (at + 13) x) (wanted scope.bound kind.I64 place e) h in
        emits (t.AtomicStore (local_of x) (expr_of e)) (λ k. refl) tt
        (local_type scope.bound kind.PtrAtomic (at + 13) x parts.0, has_type scope.bound kind.I64 place e parts.1) (same_scope scope)
        (λ rest. ap (λ y. w.more (w.AtomicStore y e) rest) (sym (wanted_local scope.bound good.counted kind.PtrAtomic (at + 13) x parts.0))
        ∙ ap (λ y. w.more (w.AtomicStore (written.local (local_of x)) y) rest) (sym (wanted_expr scope.bound good.counted kind.I64 place e parts.1)))

    acquire_step : (scope : Scope) → Good scope → (at : ℕ) (x : Local) → local_wanted scope.bound kind.PtrLock at x ≡ [] → Step p scope None (w.Acquire x) (t.Acquire (local_of x)) (settled scope)
    acquire_step scope good at x h = emits (t.Acquire (local_of x)) (λ k. refl) tt (local_type scope.bound kind.PtrLock at x h) (same_scope scope)
        (λ rest. ap (λ y. w.more (w.Acquire y) rest) (sym (wanted_local scope.bound good.counted kind.PtrLock at x h)))

    release_step : (scope : Scope) → Good scope → (at : ℕ) (x : Local) → local_wanted scope.bound kind.PtrLock at x ≡ [] → Step p scope None (w.Release x) (t.Release (local_of x)) (settled scope)
    release_step scope good at x h = emits (t.Release (local_of x)) (λ k. refl) tt (local_type scope.bound kind.PtrLock at x h) (same_scope scope)
        (λ rest. ap (λ y. w.more (w.Release y) rest) (sym (wanted_local scope.bound good.counted kind.PtrLock at x h)))

    print_step : (scope : Scope) → Good scope → (at : ℕ) (e : w.Expr) → wanted scope.bound kind.I64 at e ≡ [] → Step p scope None (w.Print e) (t.Print (expr_of e)) (settled scope)
    print_step scope good at e h = emits (t.Print (expr_of e)) (λ k. refl) tt (has_type scope.bound kind.I64 at e h) (same_scope scope)
        (λ rest. ap (λ y. w.more (w.Print y) rest) (sym (wanted_expr scope.bound good.counted kind.I64 at e h)))

    call_again : (scope : Scope) → Good scope → (want : CType) (at : ℕ) (f : Name) (args : List w.Expr) (o : Option Head) → call_of scope.bound o want at f args ≡ [] →
        map written.expr (map expr_of args) ≡ args
    call_again scope good want at f args o h = call_same scope.bound good.counted want at f args o h

    call_step : (scope : Scope) → Good scope → (at : ℕ) (f : Name) (args : List w.Expr) → call_breaches heads scope.bound kind.Void at f args ≡ [] →
        Step p scope None (w.CallStmt f args) (t.Call f (map expr_of args)) (settled scope)
    call_step scope good at f args h = emits (t.Call f (map expr_of args)) (λ k. refl) tt (calls p known kh scope.bound kind.Void at f args h) (same_scope scope)
        (λ rest. ap (λ y. w.more (w.CallStmt f y) rest) (sym (call_again scope good kind.Void at f args (heads f) h)))

    -- ---- threads

    handed : (bound : List CParam) → Counted bound → (first n k at : ℕ) (as' : List w.Argument) (ps : List Param) → handed_breaches bound first n (k + 1) at as' (map (λ q. q.kind) ps) ≡ [] → Handed bound (k + 1) as' ps
    handed bound c first n k at [] [] h = record { rules = tt; text = refl }
    handed bound c first n k at [] (q ∷ ps) h = cc
    handed bound c first n k at (a ∷ as') [] h = cc
    handed bound c first n k at (a ∷ as') (q ∷ ps) h =
        let here = at + length (indent n) + 3 in
        let place = here + length (slot_name a.number) + 3 in
        let behind = at + length (argument_text n a) in
        let parts = none_both (handed_found bound (Some q.kind) (k + 1) here a) (handed_breaches bound first n (k + 1 + 1) behind as' (map (λ q. q.kind) ps)) h in
        let two = none_both (unless (number_of a.number == (k + 1)) here) (fitting bound q.kind place a.value) parts.0 in
        let e : number_of a.number ≡ k + 1 = (unsigned_Decides (number_of a.number) (k + 1)).0 (holds (number_of a.number == (k + 1)) here two.0) in
        let rest = handed bound c first n (k + 1) behind as' ps parts.1 in
        record {
          rules = (fits bound q.kind place a.value two.1, rest.rules);
          text = ap (λ x. x ∷ written.arguments (k + 1 + 1) (map (λ a. expr_of a.value) as'))
              (ap (λ m. record { number = m; value = written.expr (expr_of a.value) }) (digits (k + 1) a.number e (omega arith)) ∙ ap (λ x. record { number = a.number; value = x }) (fitting_expr bound c q.kind place a.value two.1))
              ∙ ap (λ xs. a ∷ xs) rest.text;
        }
      where
        digits : (m : ℕ) (d : Number) → number_of d ≡ m → 0 < m → Small m ≡ d
        digits m (Small j) e lt = ap Small (sym e)
        digits m (Long ds) e lt = absurd (omega arith)

    -- the first call of a thread
    record First (bound : List CParam) (lines : w.ParLines) : Type 0 where
      rules : CallFits p bound lines.structure (map (λ a. expr_of a.value) lines.arguments) kind.Void
      text : written.arguments 1 (map (λ a. expr_of a.value) lines.arguments) ≡ lines.arguments
      started : missing lines.structure ≡ false

    first_of : (bound : List CParam) → Counted bound → (o : Option Head) (first n at : ℕ) (lines : w.ParLines) → heads lines.structure ≡ o → thread_breaches known bound o first n at lines ≡ [] → First bound lines
    first_of bound c None first n at lines e h = cc
    first_of bound c (Some g) first n at lines e h =
        let test = same_type g.result kind.Void && not (missing lines.structure) in
        let parts = none_both (unless test first) (handed_breaches bound first n 1 at lines.arguments (map (λ q. q.kind) g.params)) h in
        let tests = and_parts (same_type g.result kind.Void) (not (missing lines.structure)) (holds test first parts.0) in
        let s : Stands p lines.structure g = kh lines.structure g e in
        let a = handed bound c first n 0 at lines.arguments g.params parts.1 in
        record {
          rules = (s.fun, s.found, s.result ∙ same_is g.result kind.Void tests.0, subst (ArgumentsFit bound (map (λ a. expr_of a.value) lines.arguments)) (sym s.params) a.rules);
          text = a.text;
          started = flip (missing lines.structure) tests.1;
        }
      where
        flip : (b : Bool) → not b ≡ true → b ≡ false
        flip true h = cc
        flip false h = refl

    par_step : (scope : Scope) → Good scope → (n at : ℕ) (lines : w.ParLines) → par_breaches known scope.bound n at lines ≡ [] →
        Step p scope None (w.Par lines) (t.Par lines.structure (map (λ a. expr_of a.value) lines.arguments) lines.other (map expr_of lines.others)) (settled scope) × (missing lines.structure ≡ false)
    par_step scope good n at lines h =
        let first = at + length (indent n) + 7 in
        let hand = at + length (made_text n lines) in
        let fork = hand + length (flat_map (argument_text n) lines.arguments) in
        let call = fork + length (fork_text n lines) in
        let A = thread_breaches known scope.bound (heads lines.structure) first n hand lines in
        let B = unless (bytes_eq lines.size lines.structure) (first + length (arguments_name lines.structure) + 19) in
        let C = unless (bytes_eq lines.starter lines.structure) (fork + length (indent n) + 18) in
        let D = call_breaches heads scope.bound kind.Void (call + length (indent n)) lines.other lines.others in
        let one = none_both (A ++ B ++ C) D h in
        let two = none_both (A ++ B) C one.0 in
        let three = none_both A B two.0 in
        let f = first_of scope.bound good.counted (heads lines.structure) first n hand lines refl three.0 in
        let size = (bytes_eq-Decides lines.size lines.structure).0 (holds (bytes_eq lines.size lines.structure) (first + length (arguments_name lines.structure) + 19) three.1) in
        let start = (bytes_eq-Decides lines.starter lines.structure).0 (holds (bytes_eq lines.starter lines.structure) (fork + length (indent n) + 18) two.1) in
        let others = call_again scope good kind.Void (call + length (indent n)) lines.other lines.others (heads lines.other) one.1 in (
          emits (t.Par lines.structure (map (λ a. expr_of a.value) lines.arguments) lines.other (map expr_of lines.others)) (λ k. refl) tt
              (f.rules, calls p known kh scope.bound kind.Void (call + length (indent n)) lines.other lines.others one.1) (same_scope scope)
              (λ rest. ap (λ q. w.more (w.Par q) rest)
              (ap (λ (q : Name). record { structure = lines.structure; size = q; arguments = lines.arguments; starter = lines.starter; other = lines.other; others = lines.others }) size
              ∙ ap (λ (q : Name). record { structure = lines.structure; size = lines.structure; arguments = lines.arguments; starter = q; other = lines.other; others = lines.others }) start
              ∙ ap (λ (q : List w.Argument). record { structure = lines.structure; size = lines.structure; arguments = q; starter = lines.structure; other = lines.other; others = lines.others }) (sym f.text)
              ∙ ap (λ (q : List w.Expr). record { structure = lines.structure; size = lines.structure; arguments = written.arguments 1 (map (λ a. expr_of a.value) lines.arguments); starter = lines.structure; other = lines.other; others = q }) (sym others))),
          f.started,
        )

    -- ---- loops

    load_head : (scope : Scope) → Good scope → (n at : ℕ) (ls : List w.LoadLine) → loads_breaches known scope n at ls ≡ [] → Head_ p scope ls
    load_head scope good n at [] h = record { rules = tt; inside = refl; good = good; text = refl }
    load_head scope good n at (l ∷ ls) h =
        let here = at + length (indent n) in
        let name = here + length (type_text l.kind) in
        let place = name + length (local_text l.local) + 3 in
        let x = local_of l.local in
        let c = cell_of l.cell in
        let one = bind_breaches known scope here l.kind l.local (w.Load l.cell) in
        let behind = bind scope l.local.name l.kind in
        let parts = none_both one (loads_breaches known behind n (at + length (load_text n l)) ls) h in
        let two = none_both (binder_breaches structs scope.next here l.kind l.local) (right_breaches known scope.bound l.kind name place (w.Load l.cell)) parts.0 in
        let b = binder p.structs scope.next here l.kind l.local two.0 in
        let s : Bind_ p scope l.kind l.local (w.Load l.cell) = bind_line p heads missing kh scope good.before good.positive good.counted l.kind l.local b.number b.value name place (w.Load l.cell) tt two.1 in
        let e : behind ≡ after scope (t.Load l.kind x c) = ap (λ (q : State). q.scope) s.state in
        let h' : loads_breaches known (after scope (t.Load l.kind x c)) n (at + length (load_text n l)) ls ≡ [] = sym (ap (λ q. loads_breaches known q n (at + length (load_text n l)) ls) e) ∙ parts.1 in
        let rest = load_head (after scope (t.Load l.kind x c)) (good_after scope (t.Load l.kind x c) good s.line.numbers) n (at + length (load_text n l)) ls h' in
        record {
          rules = (s.line.numbers, s.line.rules, rest.rules);
          inside = ap (λ q. bind_loads q ls) e ∙ rest.inside;
          good = rest.good;
          text = ap (λ q. q ∷ written.loads (loads_of ls)) (again l (s.line.text w.end)) ∙ ap (λ qs. l ∷ qs) rest.text;
        }
      where
        line_of_first : w.Stmts → w.LoadLine → w.LoadLine
        line_of_first (w.more (w.Bind type y (w.Load cell)) rest) other = record { kind = type; local = y; cell = cell }
        line_of_first _ other = other

        again : (l : w.LoadLine) → w.more (w.Bind l.kind l.local (w.Load l.cell)) w.end ≡ written.lines (t.Load l.kind (local_of l.local) (cell_of l.cell)) w.end →
            record { kind = l.kind; local = written.local (local_of l.local); cell = written.cell (cell_of l.cell) } ≡ l
        again l e = sym (ap (λ q. line_of_first q l) e)

    -- ---- rows

    -- what is bound behind two blocks
    blocks_state : (scope : Scope) (one two : State) (a b : t.Stmts) → two ≡ settled (after_all (moved scope (stmts_binders a)) b) →
        settled (ended scope two) ≡ settled (record { bound = scope.bound; next = scope.next + (stmts_binders a + stmts_binders b) })
    blocks_state scope one two a b e =
        let n : two.scope.next ≡ scope.next + stmts_binders a + stmts_binders b = ap (λ (s : State). s.scope.next) e ∙ after_all_next (moved scope (stmts_binders a)) b in
        ap (λ (n : ℕ). settled (record { bound = scope.bound; next = n })) (let m = n in omega arith)

    -- a line, where `step` is what it does where nothing waits
    pub line_step : (last : Option CType) (n at : ℕ) (s : w.Stmt) (scope : Scope) (waiting : Option Waiting) (g : Option Gathered) → Good scope → Same structs scope waiting g →
        ((stmt_found known last n at s scope).places ≡ [] → Step p scope None s (stmt_of structs s) (stmt_found known last n at s scope).state) →
        (line_found (stmt_found known last n at s) scope waiting (at + length (indent n)) s).places ≡ [] →
        Step p scope g s (stmt_of structs s) (line_found (stmt_found known last n at s) scope waiting (at + length (indent n)) s).state
    line_step last n at s scope None None good same step h = step h
    line_step last n at s scope None (Some g) good same step h = absurd same
    line_step last n at s scope (Some wait) None good same step h = absurd same
    line_step last n at s scope (Some wait) (Some g) good same step h =
        waiting_step p scope good wait g same (stmt_found known last n at s) s (stmt_of structs s) (at + length (indent n)) wait.members (value_line wait.local s) refl refl h

    pub none_last : (rest : w.Stmts) → at_end rest None ≡ None
    none_last w.end = refl
    none_last (w.more s r) = refl

    mutual
      pub stmt_step : (last : Option CType) (n at : ℕ) (s : w.Stmt) (scope : Scope) → Good scope → (last ≡ None) → (stmt_found known last n at s scope).places ≡ [] →
          Step p scope None s (stmt_of structs s) (stmt_found known last n at s scope).state
      stmt_step last n at (w.Bind type x right) scope good l h = bind_step scope good (at + length (indent n)) type x right h
      stmt_step last n at (w.Store c e) scope good l h = store_step scope good (at + length (indent n)) c e h
      stmt_step last n at (w.Free x) scope good l h = free_step scope good (at + length (indent n) + 5) x h
      stmt_step last n at (w.AtomicStore x e) scope good l h = atomic_step scope good (at + length (indent n)) x e h
      stmt_step last n at (w.Acquire x) scope good l h = acquire_step scope good (at + length (indent n) + 10) x h
      stmt_step last n at (w.Release x) scope good l h = release_step scope good (at + length (indent n) + 10) x h
      stmt_step last n at (w.Print e) scope good l h = print_step scope good (at + length (indent n) + 8) e h
      stmt_step last n at (w.CallStmt f args) scope good l h = call_step scope good (at + length (indent n)) f args h
      stmt_step last n at (w.Par lines) scope good l h = (par_step scope good (n + 1) (at + length (line n (codes "{" ∷ []))) lines h).0
      stmt_step last n at (w.If e first second) scope good l h =
          let inside = at + length (line n (codes "if (" ∷ expr_text e ∷ codes ") {" ∷ [])) in
          let other = inside + length (stmts_text (n + 1) first) + length (line n (codes "} else {" ∷ [])) in
          let one = stmts_found known None (n + 1) inside first (settled scope) in
          let two = stmts_found known None (n + 1) other second (settled (ended scope one.state)) in
          let T = wanted scope.bound kind.Bool (at + length (indent n) + 4) e in
          let parts = none_both (T ++ one.places) two.places h in
          let more = none_both T one.places parts.0 in
          let a = row (n + 1) inside first scope None None good tt more.1 in
          let A = stmts_of structs first None in
          let B = stmts_of structs second None in
          let between : ended scope one.state ≡ moved scope (stmts_binders A) =
          ap (λ (m : ℕ). record { bound = scope.bound; next = m }) (ap (λ (s : State). s.scope.next) a.state ∙ after_all_next scope A) in
          let h' : (stmts_found known None (n + 1) other second (settled (moved scope (stmts_binders A)))).places ≡ [] =
          sym (ap (λ q. (stmts_found known None (n + 1) other second (settled q)).places) between) ∙ parts.1 in
          let b = row (n + 1) other second (moved scope (stmts_binders A)) None None (good_moved scope (stmts_binders A) good) tt h' in
          let end : two.state ≡ settled (after_all (moved scope (stmts_binders A)) B) = ap (λ q. (stmts_found known None (n + 1) other second (settled q)).state) between ∙ b.state in
          emits (t.If (expr_of e) A B) (λ k. refl) tt (has_type scope.bound kind.Bool (at + length (indent n) + 4) e more.0, a.rules, b.rules)
          (blocks_state scope one.state two.state A B end)
          (λ rest. ap (λ y. w.more (w.If y first second) rest) (sym (wanted_expr scope.bound good.counted kind.Bool (at + length (indent n) + 4) e more.0))
          ∙ ap (λ y. w.more (w.If (written.expr (expr_of e)) y second) rest) (sym a.text)
          ∙ ap (λ y. w.more (w.If (written.expr (expr_of e)) (written.stmts A) y) rest) (sym b.text))
      stmt_step last n at (w.While ls e body) scope good l h =
          let head = at + length (line n (codes "while (1) {" ∷ [])) in
          let test = head + length (flat_map (load_text (n + 1)) ls) in
          let place = test + length (indent (n + 1)) + 5 in
          let begin = test + length (test_text (n + 1) e) in
          let in' = bind_loads scope ls in
          let L = loads_breaches known scope (n + 1) head ls in
          let T = wanted in'.bound kind.Bool place e in
          let rest' = stmts_found known None (n + 1) begin body (settled in') in
          let parts = none_both (L ++ T) rest'.places h in
          let more = none_both L T parts.0 in
          let a = load_head scope good (n + 1) head ls more.0 in
          let A = loads_of ls in
          let B = stmts_of structs body None in
          let inner = after_all scope A in
          let t' : wanted inner.bound kind.Bool place e ≡ [] = sym (ap (λ (q : Scope). wanted q.bound kind.Bool place e) a.inside) ∙ more.1 in
          let h' : (stmts_found known None (n + 1) begin body (settled inner)).places ≡ [] = sym (ap (λ q. (stmts_found known None (n + 1) begin body (settled q)).places) a.inside) ∙ parts.1 in
          let b = row (n + 1) begin body inner None None a.good tt h' in
          let end : rest'.state ≡ settled (after_all inner B) = ap (λ q. (stmts_found known None (n + 1) begin body (settled q)).state) a.inside ∙ b.state in
          let next : rest'.state.scope.next ≡ scope.next + (stmts_binders A + stmts_binders B) =
          let u = ap (λ (s : State). s.scope.next) end ∙ after_all_next inner B in
          let v = after_all_next scope A in
          omega arith in
          emits (t.While A (expr_of e) B) (λ k. refl) tt (a.rules, has_type inner.bound kind.Bool place e t', b.rules)
          (ap (λ (m : ℕ). settled (record { bound = scope.bound; next = m })) next)
          (λ rest. ap (λ y. w.more (w.While y e body) rest) (sym a.text)
          ∙ ap (λ y. w.more (w.While (written.loads A) y body) rest) (sym (wanted_expr inner.bound a.good.counted kind.Bool place e t'))
          ∙ ap (λ y. w.more (w.While (written.loads A) (written.expr (expr_of e)) y) rest) (sym b.text))
      stmt_step last n at (w.Return e) scope good l h = cc

      pub row : (n at : ℕ) (list : w.Stmts) (scope : Scope) (waiting : Option Waiting) (g : Option Gathered) → Good scope → Same structs scope waiting g →
          (stmts_found known None n at list (record { scope = scope; waiting = waiting })).places ≡ [] →
          Row p scope g list (stmts_found known None n at list (record { scope = scope; waiting = waiting })).state
      row n at w.end scope None None good same h = record { rules = tt; state = refl; text = refl }
      row n at w.end scope None (Some g) good same h = absurd same
      row n at w.end scope (Some wait) g good same h = cc
      row n at (w.more s rest) scope waiting g good same h =
          let one = line_found (stmt_found known (at_end rest None) n at s) scope waiting (at + length (indent n)) s in
          let behind = at + length (stmt_text n s) in
          let parts = none_both one.places (stmts_found known None n behind rest one.state).places h in
          of (λ scope waiting g good same h. row n behind rest scope waiting g good same h) (line_step (at_end rest None) n at s scope waiting g good same (λ k. stmt_step (at_end rest None) n at s scope good (none_last rest) k) parts.0) parts.1
        where
          of : ((scope : Scope) (waiting : Option Waiting) (g : Option Gathered) → Good scope → Same structs scope waiting g →
              (stmts_found known None n (at + length (stmt_text n s)) rest (record { scope = scope; waiting = waiting })).places ≡ [] →
              Row p scope g rest (stmts_found known None n (at + length (stmt_text n s)) rest (record { scope = scope; waiting = waiting })).state) →
              Step p scope g s (stmt_of structs s) (line_found (stmt_found known (at_end rest None) n at s) scope waiting (at + length (indent n)) s).state →
              (stmts_found known None n (at + length (stmt_text n s)) rest (line_found (stmt_found known (at_end rest None) n at s) scope waiting (at + length (indent n)) s).state).places ≡ [] →
              Row p scope g (w.more s rest) (stmts_found known None n (at + length (stmt_text n s)) rest (line_found (stmt_found known (at_end rest None) n at s) scope waiting (at + length (indent n)) s).state).state
          of again (silent wait next reads e same text) h =
              let behind = at + length (stmt_text n s) in
              let F = stmts_found known None n behind rest in
              let r = again scope (Some wait) (Some next) good same (sym (ap (λ q. (F q).places) e) ∙ h) in
              let list : stmts_of structs (w.more s rest) g ≡ stmts_of structs rest (Some next) = reads (stmts_of structs rest) in
              record {
                rules = subst (StmtsFit p scope) (sym list) r.rules;
                state = ap (λ q. (F q).state) e ∙ r.state ∙ sym (ap (λ ts. settled (after_all scope ts)) list);
                text = ap written.stmts list ∙ r.text ∙ sym (text rest);
              }
          of again (emits u reads numbers rules e text) h =
              let behind = at + length (stmt_text n s) in
              let F = stmts_found known None n behind rest in
              let r = again (after scope u) None None (good_after scope u good numbers) tt (sym (ap (λ q. (F q).places) e) ∙ h) in
              let list : stmts_of structs (w.more s rest) g ≡ t.more u (stmts_of structs rest None) = reads (stmts_of structs rest) in
              record {
                rules = subst (StmtsFit p scope) (sym list) (numbers, rules, r.rules);
                state = ap (λ q. (F q).state) e ∙ r.state ∙ sym (ap (λ ts. settled (after_all scope ts)) list);
                text = ap written.stmts list ∙ ap (written.lines u) r.text ∙ sym (text rest);
              }
