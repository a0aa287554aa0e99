-- A function's statements without breaches keep the rules.
use Rattle.std.proofs.Common.{◌≡◌, ◌∙◌, sym, ap, refl, subst, ℕ, ◌+◌, Bool, true, Option, Some, None, List, [], ◌∷◌, ◌++◌, length}
use Rattle.c_syntax.specs.declared.kind.CType.{CType}
use Rattle.c_syntax.specs.declared.kind.CType.TheVariants as kind
use Rattle.c_syntax.specs.declared.program.CMember.{CMember}
use Rattle.c_syntax.specs.Rules.{AreNumbered, BodyFits, IsValueType, Scope, StmtFits, StmtsFit, after, bound_by, members_of}
use Rattle.c_syntax.specs.Text.{indent}
use Rattle.c_syntax.specs.Tree as t
use Rattle.c_syntax.specs.Tree.{Name}
use Rattle.c_forms.specs.declared.source.Head.{Head}
use Rattle.c_forms.specs.Text.{stmt_text}
use Rattle.c_forms.specs.Tree as w
use Rattle.c_rules.specs.Groups.{is_return, last_returns}
use Rattle.c_rules.specs.Lines.{Found, Known, Waiting, left_waiting, line_found, stmt_found, stmts_found, waiting_found}
use Rattle.c_rules.specs.Sorts.{Structs, fitting}
use Rattle.c_rules.proofs.ExprRules.{none_both}
use Rattle.c_reader.specs.Standing.{Gathered, stmt_of, stmts_of}
use Rattle.c_reader.proofs.CellTypes.{Heads}
use Rattle.c_reader.proofs.ExprTypes.{fits}
use Rattle.c_reader.proofs.Rewritten.{fitting_expr}
use Rattle.c_reader.proofs.Rows.{line_step, stmt_step}
use Rattle.c_reader.proofs.Scopes.{Good, good_after}
use Rattle.c_reader.proofs.Steps.{Same, Step, front}
use Rattle.c_reader.proofs.Steps.Step.{silent, emits}
use Rattle.c_reader.proofs.Written as written

-- one statement in front, which is no `return`
pub body_more : (p : t.Program) (result : CType) (scope : Scope) (u : t.Stmt) (ts : t.Stmts) → AreNumbered scope.next (bound_by u) → StmtFits p scope u → BodyFits p result (after scope u) ts →
    BodyFits p result scope (t.more u ts)
body_more p result scope (t.Let type x e) ts a b c = (a, b, c)
body_more p result scope (t.Load type x e) ts a b c = (a, b, c)
body_more p result scope (t.Store cell e) ts a b c = (a, b, c)
body_more p result scope (t.New type x e) ts a b c = (a, b, c)
body_more p result scope (t.NewArray type x e n) ts a b c = (a, b, c)
body_more p result scope (t.NewAtomic x e) ts a b c = (a, b, c)
body_more p result scope (t.NewStruct x s is) ts a b c = (a, b, c)
body_more p result scope (t.Free x) ts a b c = (a, b, c)
body_more p result scope (t.AtomicLoad x y) ts a b c = (a, b, c)
body_more p result scope (t.AtomicStore x e) ts a b c = (a, b, c)
body_more p result scope (t.Cas x y o n) ts a b c = (a, b, c)
body_more p result scope (t.NewLock x) ts a b c = (a, b, c)
body_more p result scope (t.Acquire x) ts a b c = (a, b, c)
body_more p result scope (t.Release x) ts a b c = (a, b, c)
body_more p result scope (t.Read x) ts a b c = (a, b, c)
body_more p result scope (t.Print e) ts a b c = (a, b, c)
body_more p result scope (t.Call f args) ts a b c = (a, b, c)
body_more p result scope (t.CallLet type x f args) ts a b c = (a, b, c)
body_more p result scope (t.Par f args g others) ts a b c = (a, b, c)
body_more p result scope (t.If e x y) ts a b c = (a, b, c)
body_more p result scope (t.While ls e y) ts a b c = (a, b, c)
body_more p result scope (t.Return e) ts a b c = absurd b

-- statements without a `return` are those of a function without a result
pub body_void : (p : t.Program) (scope : Scope) (ts : t.Stmts) → StmtsFit p scope ts → BodyFits p kind.Void scope ts
body_void p scope t.end h = refl
body_void p scope (t.more u rest) h = body_more p kind.Void scope u rest h.0 h.1 (body_void p (after scope u) rest h.2)

pub record Body (p : t.Program) (result : CType) (scope : Scope) (g : Option Gathered) (list : w.Stmts) : Type 0 where
  pub rules : BodyFits p result scope (stmts_of (members_of p.structs) list g)
  pub text : written.stmts (stmts_of (members_of p.structs) list g) ≡ front g list

module _ (p : t.Program) (heads : Name → Option Head) (missing : Name → Bool) (kh : Heads p (record { structs = members_of p.structs; heads = heads; missing = missing }))
    (result : CType) (value : IsValueType p.structs result) where
  abbrev known : Known
  known = record { structs = members_of p.structs; heads = heads; missing = missing }

  abbrev structs : Structs
  structs = members_of p.structs

  -- no first value is a `return`
  waits : (plain : Scope → Found) (scope : Scope) (wait : Waiting) (ms : List CMember) (at : ℕ) (others : List ℕ) → (waiting_found plain scope wait ms at None).places ++ others ≡ [] → ⊥
  waits plain scope wait [] at others h = cc
  waits plain scope wait (m ∷ ms) at others h = cc

  -- the last statement is the `return`
  last : (n at : ℕ) (s : w.Stmt) (scope : Scope) (waiting : Option Waiting) (g : Option Gathered) → Good scope → Same structs scope waiting g → is_return s ≡ true →
      (stmts_found known (Some result) n at (w.more s w.end) (record { scope = scope; waiting = waiting })).places ≡ [] → Body p result scope g (w.more s w.end)
  last n at (w.Return e) scope None None good same r h =
      let place = at + length (indent n) + 7 in
      let k = (none_both (fitting scope.bound result place e) [] h).0 in
      record {
        rules = (value, fits scope.bound result place e k);
        text = ap (λ x. w.more (w.Return x) w.end) (fitting_expr scope.bound good.counted result place e k);
      }
  last n at (w.Return e) scope None (Some g) good same r h = absurd same
  last n at (w.Return e) scope (Some wait) g good same r h =
      absurd (waits (stmt_found known (Some result) n at (w.Return e)) scope wait wait.members (at + length (indent n))
      (left_waiting (line_found (stmt_found known (Some result) n at (w.Return e)) scope (Some wait) (at + length (indent n)) (w.Return e)).state.waiting) h)
  last n at (w.Bind type x right) scope waiting g good same r h = cc
  last n at (w.Store c e) scope waiting g good same r h = cc
  last n at (w.Free x) scope waiting g good same r h = cc
  last n at (w.AtomicStore x e) scope waiting g good same r h = cc
  last n at (w.Acquire x) scope waiting g good same r h = cc
  last n at (w.Release x) scope waiting g good same r h = cc
  last n at (w.Print e) scope waiting g good same r h = cc
  last n at (w.CallStmt f args) scope waiting g good same r h = cc
  last n at (w.Par lines) scope waiting g good same r h = cc
  last n at (w.If e a b) scope waiting g good same r h = cc
  last n at (w.While ls e b) scope waiting g good same r h = cc

  pub body : (before : Bool) (n at : ℕ) (s : w.Stmt) (rest : w.Stmts) (scope : Scope) (waiting : Option Waiting) (g : Option Gathered) → Good scope → Same structs scope waiting g →
      last_returns before (w.more s rest) ≡ true → (stmts_found known (Some result) n at (w.more s rest) (record { scope = scope; waiting = waiting })).places ≡ [] → Body p result scope g (w.more s rest)
  body before n at s w.end scope waiting g good same r h = last n at s scope waiting g good same r h
  body before n at s (w.more s2 rest) scope waiting g good same r h =
      let one = line_found (stmt_found known None n at s) scope waiting (at + length (indent n)) s in
      let behind = at + length (stmt_text n s) in
      let parts = none_both one.places (stmts_found known (Some result) n behind (w.more s2 rest) one.state).places h in
      of (λ scope waiting g good same h. body (is_return s) n behind s2 rest scope waiting g good same r h)
      (line_step p heads missing kh None n at s scope waiting g good same (λ k. stmt_step p heads missing kh None n at s scope good refl k) parts.0) parts.1
    where
      of : ((scope : Scope) (waiting : Option Waiting) (g : Option Gathered) → Good scope → Same structs scope waiting g →
          (stmts_found known (Some result) n (at + length (stmt_text n s)) (w.more s2 rest) (record { scope = scope; waiting = waiting })).places ≡ [] → Body p result scope g (w.more s2 rest)) →
          Step p scope g s (stmt_of structs s) (line_found (stmt_found known None n at s) scope waiting (at + length (indent n)) s).state →
          (stmts_found known (Some result) n (at + length (stmt_text n s)) (w.more s2 rest) (line_found (stmt_found known None n at s) scope waiting (at + length (indent n)) s).state).places ≡ [] →
          Body p result scope g (w.more s (w.more s2 rest))
      of again (silent wait next reads e same text) h =
          let F = stmts_found known (Some result) n (at + length (stmt_text n s)) (w.more s2 rest) in
          let b = again scope (Some wait) (Some next) good same (sym (ap (λ q. (F q).places) e) ∙ h) in
          let list : stmts_of structs (w.more s (w.more s2 rest)) g ≡ stmts_of structs (w.more s2 rest) (Some next) = reads (stmts_of structs (w.more s2 rest)) in
          record { rules = subst (BodyFits p result scope) (sym list) b.rules; text = ap written.stmts list ∙ b.text ∙ sym (text (w.more s2 rest)) }
      of again (emits u reads numbers rules e text) h =
          let F = stmts_found known (Some result) n (at + length (stmt_text n s)) (w.more s2 rest) in
          let b = again (after scope u) None None (good_after scope u good numbers) tt (sym (ap (λ q. (F q).places) e) ∙ h) in
          let list : stmts_of structs (w.more s (w.more s2 rest)) g ≡ t.more u (stmts_of structs (w.more s2 rest) None) = reads (stmts_of structs (w.more s2 rest)) in
          record {
            rules = subst (BodyFits p result scope) (sym list) (body_more p result scope u (stmts_of structs (w.more s2 rest) None) numbers rules b.rules);
            text = ap written.stmts list ∙ ap (written.lines u) b.text ∙ sym (text (w.more s2 rest));
          }
