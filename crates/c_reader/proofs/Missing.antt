-- Where there is no breach, each function with which a thread begins has a starter.
use Rattle.std.proofs.Common.{◌≡◌, refl, ℕ, ◌+◌, ◌&&◌, not, nat_lt, Bool, true, false, flat_map, Option, Some, None, List, [], ◌∷◌, ◌++◌, length, map}
use Rattle.std.specs.Prelude.{codes}
use Rattle.std.specs.List.{AllByRecursion}
use Rattle.std.specs.Str.{bytes_eq}
use Rattle.std.proofs.lemmas.Bool.{and_parts}
use Rattle.c_syntax.specs.declared.kind.CType.{CType}
use Rattle.c_syntax.specs.declared.kind.CType.TheVariants as kind
use Rattle.c_syntax.specs.declared.program.CMember.{CMember}
use Rattle.c_syntax.specs.declared.program.CParam.{CParam}
use Rattle.c_syntax.specs.Rules.{Scope}
use Rattle.c_syntax.specs.Text.{arguments_name, indent, line, type_text}
use Rattle.c_syntax.specs.Tree.{Name}
use Rattle.c_forms.specs.declared.source.Head.{Head}
use Rattle.c_forms.specs.Text.{argument_text, expr_text, fun_text, head_text, load_text, stmt_text, stmts_text}
use Rattle.c_forms.specs.Tree as w
use Rattle.c_rules.specs.Groups.{bind_params, body_breaches, fun_breaches, funs_breaches, funs_starts, last_of, stmt_starts, stmts_starts}
use Rattle.c_rules.specs.Kinds.{same_type}
use Rattle.c_rules.specs.Lines.{FirstValue, Found, Known, State, Waiting, at_end, bind_loads, call_breaches, ended, fork_text, handed_breaches, line_found, loads_breaches, made_text, par_breaches, settled, stmt_found, stmts_found, test_text, thread_breaches, value_line, waiting_found}
use Rattle.c_rules.specs.Sorts.{unless, wanted}
use Rattle.c_rules.proofs.ExprRules.{none_both}
use Rattle.c_reader.proofs.Breachless.{holds}
use Rattle.c_reader.proofs.Starts.{value_starts}

-- each of these functions has a starter
abbrev pub Started : (Name → Bool) → List Name → Type 0
Started missing names = AllByRecursion (λ f. missing f ≡ false) names

started_append : (missing : Name → Bool) (xs ys : List Name) → Started missing xs → Started missing ys → Started missing (xs ++ ys)
started_append missing [] ys h k = k
started_append missing (x ∷ xs) ys h k = (h.0, started_append missing xs ys h.1 k)

flip : (b : Bool) → not b ≡ true → b ≡ false
flip true h = cc
flip false h = refl

module _ (known : Known) where
  -- the lines of a `par`
  thread : (bound : List CParam) (o : Option Head) (first n at : ℕ) (p : w.ParLines) → thread_breaches known bound o first n at p ≡ [] → known.missing p.structure ≡ false
  thread bound None first n at p h = cc
  thread bound (Some g) first n at p h =
      let test = same_type g.result kind.Void && not (known.missing p.structure) in
      let parts = none_both (unless test first) (handed_breaches bound first n 1 at p.arguments (map (λ q. q.kind) g.params)) h in
      flip (known.missing p.structure) (and_parts (same_type g.result kind.Void) (not (known.missing p.structure)) (holds test first parts.0)).1

  par : (bound : List CParam) (n at : ℕ) (p : w.ParLines) → par_breaches known bound n at p ≡ [] → known.missing p.structure ≡ false
  par bound n at p h =
      let first = at + length (indent n) + 7 in
      let hand = at + length (made_text n p) in
      let fork = hand + length (flat_map (argument_text n) p.arguments) in
      let call = fork + length (fork_text n p) in
      let A = thread_breaches known bound (known.heads p.structure) first n hand p in
      let B = unless (bytes_eq p.size p.structure) (first + length (arguments_name p.structure) + 19) in
      let C = unless (bytes_eq p.starter p.structure) (fork + length (indent n) + 18) in
      let D = call_breaches known.heads bound kind.Void (call + length (indent n)) p.other p.others in
      let one = none_both (A ++ B ++ C) D h in
      let two = none_both (A ++ B) C one.0 in
      thread bound (known.heads p.structure) first n hand p (none_both A B two.0).0

  -- a line, where `inside` is what is known of it where nothing waits
  waiting : (plain : Scope → Found) (scope : Scope) (wait : Waiting) (ms : List CMember) (at : ℕ) (s : w.Stmt) (v : Option FirstValue) → value_line wait.local s ≡ v →
      (waiting_found plain scope wait ms at v).places ≡ [] → Started known.missing (stmt_starts s)
  waiting plain scope wait [] at s None e h = cc
  waiting plain scope wait [] at s (Some v) e h = cc
  waiting plain scope wait (m ∷ ms) at s None e h = cc
  waiting plain scope wait (m ∷ ms) at s (Some v) e h = none (stmt_starts s) (value_starts wait.local s v e)
    where
      none : (names : List Name) → names ≡ [] → Started known.missing names
      none [] e = tt
      none (x ∷ xs) e = cc

  at_line : (plain : Scope → Found) (scope : Scope) (o : Option Waiting) (at : ℕ) (s : w.Stmt) → ((scope : Scope) → (plain scope).places ≡ [] → Started known.missing (stmt_starts s)) →
      (line_found plain scope o at s).places ≡ [] → Started known.missing (stmt_starts s)
  at_line plain scope None at s inside h = inside scope h
  at_line plain scope (Some wait) at s inside h = waiting plain scope wait wait.members at s (value_line wait.local s) refl h

  mutual
    stmt : (last : Option CType) (n at : ℕ) (s : w.Stmt) (scope : Scope) → (stmt_found known last n at s scope).places ≡ [] → Started known.missing (stmt_starts s)
    stmt last n at (w.Bind type x right) scope h = tt
    stmt last n at (w.Store c e) scope h = tt
    stmt last n at (w.Free x) scope h = tt
    stmt last n at (w.AtomicStore x e) scope h = tt
    stmt last n at (w.Acquire x) scope h = tt
    stmt last n at (w.Release x) scope h = tt
    stmt last n at (w.Print e) scope h = tt
    stmt last n at (w.CallStmt f args) scope h = tt
    stmt last n at (w.Par lines) scope h = (par scope.bound (n + 1) (at + length (line n (codes "{" ∷ []))) lines h, tt)
    stmt last n at (w.If e first second) scope h =
        let inside = at + length (line n (codes "if (" ∷ expr_text e ∷ codes ") {" ∷ [])) in
        let other = inside + length (stmts_text (n + 1) first) + length (line n (codes "} else {" ∷ [])) in
        let one = stmts_found known None (n + 1) inside first (settled scope) in
        let two = stmts_found known None (n + 1) other second (settled (ended scope one.state)) in
        let T = wanted scope.bound kind.Bool (at + length (indent n) + 4) e in
        let parts = none_both (T ++ one.places) two.places h in
        let more = none_both T one.places parts.0 in
        started_append known.missing (stmts_starts first) (stmts_starts second) (stmts None (n + 1) inside first (settled scope) more.1)
        (stmts None (n + 1) other second (settled (ended scope one.state)) parts.1)
    stmt last n at (w.While ls e body) scope h =
        let head = at + length (line n (codes "while (1) {" ∷ [])) in
        let test = head + length (flat_map (load_text (n + 1)) ls) in
        let begin = test + length (test_text (n + 1) e) in
        let inside = bind_loads scope ls in
        let L = loads_breaches known scope (n + 1) head ls in
        let T = wanted inside.bound kind.Bool (test + length (indent (n + 1)) + 5) e in
        let rest = stmts_found known None (n + 1) begin body (settled inside) in
        stmts None (n + 1) begin body (settled inside) (none_both (L ++ T) rest.places h).1
    stmt last n at (w.Return e) scope h = tt

    stmts : (last : Option CType) (n at : ℕ) (list : w.Stmts) (state : State) → (stmts_found known last n at list state).places ≡ [] → Started known.missing (stmts_starts list)
    stmts last n at w.end state h = tt
    stmts last n at (w.more s rest) state h =
        let one = line_found (stmt_found known (at_end rest last) n at s) state.scope state.waiting (at + length (indent n)) s in
        let behind = at + length (stmt_text n s) in
        let parts = none_both one.places (stmts_found known last n behind rest one.state).places h in
        started_append known.missing (stmt_starts s) (stmts_starts rest)
        (at_line (stmt_found known (at_end rest last) n at s) state.scope state.waiting (at + length (indent n)) s (λ scope k. stmt (at_end rest last) n at s scope k) parts.0)
        (stmts last n behind rest one.state parts.1)

  -- functions in a row
  pub all_started : (count k at : ℕ) (fs : List w.Fun) → funs_breaches known count k at fs ≡ [] → Started known.missing (funs_starts fs)
  all_started count k at [] h = tt
  all_started count k at (f ∷ fs) h =
      let begin = at + length (line 0 (head_text f.head ∷ codes " {" ∷ [])) in
      let parts = none_both (fun_breaches known count k at f) (funs_breaches known count (k + 1) (at + length (fun_text f)) fs) h in
      let two = none_both (unless (nat_lt k count) (at + 7 + length (type_text f.head.result))) (body_breaches known begin f) parts.0 in
      started_append known.missing (stmts_starts f.body) (funs_starts fs)
      (stmts (last_of f.head.result) 1 begin f.body (settled (bind_params (record { bound = []; next = 1 }) f.head.params)) two.1)
      (all_started count (k + 1) (at + length (fun_text f)) fs parts.1)
