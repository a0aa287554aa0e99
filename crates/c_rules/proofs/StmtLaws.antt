-- Laws of a step over statements.
use Rattle.std.proofs.Common.{◌≡◌, ◌≢◌, ◌∙◌, sym, ap, refl, Box, Global, ℕ, suc, ◌+◌, ◌<◌, ◌-◌, Option, None, List, [], ◌∷◌, ◌++◌, length, map, drop, flat_map, arith}
use Rattle.std.proofs.lemmas.List.{length-append, length-drop}
use Rattle.c_syntax.specs.declared.kind.CType.{CType}
use Rattle.std.specs.Prelude.{codes}
use Rattle.c_syntax.specs.Rules.{Scope}
use Rattle.c_syntax.specs.Text.{indent, line}
use Rattle.c_syntax.specs.declared.kind.CType.TheVariants as kind
use Rattle.c_rules.specs.Sorts.{wanted}
use Rattle.c_forms.specs.declared.stmt.Load.{Load}
use Rattle.c_forms.specs.declared.stmt.Par.{Par}
use Rattle.c_forms.specs.declared.stmt.Stmt.{Stmt}
use Rattle.c_forms.specs.declared.stmt.Stmt.TheVariants as v
use Rattle.c_forms.specs.declared.stmt.Stmt.TheOpen.{Stmt-F}
use Rattle.c_forms.specs.declared.stmt.Stmt.TheFolds.{fold-roll-Stmt}
use Rattle.c_forms.specs.declared.word.Expr.{Expr}
use Rattle.c_forms.specs.Plain.{plain_expr, plain_load, plain_par, plain_stmt, plain_stmts, stmt_step}
use Rattle.c_forms.specs.Tree as w
use Rattle.c_forms.specs.Text.{expr_text, load_text, stmt_text, stmts_text}
use Rattle.c_rules.specs.Least.{earlier, least}
use Rattle.c_rules.specs.Lines.{Known, State, Found, at_end, bind_loads, ended, found, line_found, loads_breaches, settled, stmt_found, stmts_found, test_text}
use Rattle.c_rules.proofs.Leasts.{least_append, earlier_assoc}

-- what a `return` is wanted to give in front of the statements that are left
pub end_wants : (list : List Stmt) (i : ℕ) (last wants : Option CType) → i < length list → (i + 1 ≡ length list → wants ≡ last) → (i + 1 ≢ length list → wants ≡ None) →
    wants ≡ at_end (plain_stmts (drop (i + 1) list)) last
end_wants list i last wants lt h k = cases (drop (i + 1) list) (length-drop (i + 1) list)
  where
    cases : (rest : List Stmt) → length rest ≡ length list - (i + 1) → wants ≡ at_end (plain_stmts rest) last
    cases [] e = h (omega arith)
    cases (s ∷ rest) e = k (let d : suc (length rest) ≡ length list - (i + 1) = e in λ q. omega arith)

pub step_end : (n : ℕ) (s : w.Stmt) (rest all : w.Stmts) (here behind total : ℕ) → all ≡ w.more s rest → behind ≡ here + length (stmt_text n s) →
    here + length (stmts_text n all) ≡ total → behind + length (stmts_text n rest) ≡ total
step_end n s rest all here behind total p b t =
    let l : length (stmts_text n all) ≡ length (stmt_text n s) + length (stmts_text n rest) = ap (λ xs. length (stmts_text n xs)) p ∙ length-append (stmt_text n s) (stmts_text n rest) in
    omega arith

-- what is found of statements, from the first and the others
abbrev both : Known → Option CType → ℕ → w.Stmt → w.Stmts → ℕ → State → Option CType → ℕ → State → Found
both known last n s rest here before wants behind after = found
    ((line_found (stmt_found known wants n here s) before.scope before.waiting (here + length (indent n)) s).places ++ (stmts_found known last n behind rest after).places)
    (stmts_found known last n behind rest after).state

abbrev left : Known → ℕ → w.Stmt → ℕ → State → Option CType → State
left known n s here before wants = (line_found (stmt_found known wants n here s) before.scope before.waiting (here + length (indent n)) s).state

step_is : (known : Known) (last wants : Option CType) (n : ℕ) (s : w.Stmt) (rest all : w.Stmts) (here behind : ℕ) (before after : State) →
    all ≡ w.more s rest → behind ≡ here + length (stmt_text n s) → wants ≡ at_end rest last → after ≡ left known n s here before wants →
    stmts_found known last n here all before ≡ both known last n s rest here before wants behind after
step_is known last wants n s rest all here behind before after p b e st =
    ap (λ xs. stmts_found known last n here xs before) p
    ∙ ap (λ v. both known last n s rest here before v (here + length (stmt_text n s)) (left known n s here before v)) (sym e)
    ∙ ap (λ k. both known last n s rest here before wants k (left known n s here before wants)) (sym b)
    ∙ ap (both known last n s rest here before wants behind) (sym st)

pub step_state : (known : Known) (last wants : Option CType) (n : ℕ) (s : w.Stmt) (rest all : w.Stmts) (here behind : ℕ) (before after total : State) →
    all ≡ w.more s rest → behind ≡ here + length (stmt_text n s) → wants ≡ at_end rest last →
    after ≡ (line_found (stmt_found known wants n here s) before.scope before.waiting (here + length (indent n)) s).state →
    (stmts_found known last n here all before).state ≡ total → (stmts_found known last n behind rest after).state ≡ total
step_state known last wants n s rest all here behind before after total p b e st t =
    sym (ap (λ f. f.state) (step_is known last wants n s rest all here behind before after p b e st)) ∙ t

pub step_least : (known : Known) (last wants : Option CType) (n : ℕ) (s : w.Stmt) (rest all : w.Stmts) (here behind : ℕ) (before after : State) (part next total : Option ℕ) →
    all ≡ w.more s rest → behind ≡ here + length (stmt_text n s) → wants ≡ at_end rest last →
    after ≡ (line_found (stmt_found known wants n here s) before.scope before.waiting (here + length (indent n)) s).state →
    next ≡ least (line_found (stmt_found known wants n here s) before.scope before.waiting (here + length (indent n)) s).places →
    earlier part (least (stmts_found known last n here all before).places) ≡ total →
    earlier (earlier part next) (least (stmts_found known last n behind rest after).places) ≡ total
step_least known last wants n s rest all here behind before after part next total p b e st h t =
    let one = (line_found (stmt_found known wants n here s) before.scope before.waiting (here + length (indent n)) s).places in
    let others = (stmts_found known last n behind rest after).places in
    let whole : least (stmts_found known last n here all before).places ≡ earlier (least one) (least others) =
    ap (λ f. least f.places) (step_is known last wants n s rest all here behind before after p b e st) ∙ least_append one others in
    earlier_assoc part next (least others) ∙ ap (earlier part) (ap (λ r. earlier r (least others)) h ∙ sym whole) ∙ t

-- the plain statement of blocks
pub plain_stmt-If : (e : Expr) (first second : List Stmt) → plain_stmt (v.If e first second) ≡ w.If (plain_expr e) (plain_stmts first) (plain_stmts second)
plain_stmt-If e first second = ap plain_stmt (sym (v.rolls-If e first second)) ∙ fold-roll-Stmt w.Stmt stmt_step (Stmt-F.If e first second) ∙ refl

pub plain_stmt-While : (loads : List Load) (e : Expr) (body : List Stmt) → plain_stmt (v.While loads e body) ≡ w.While (map plain_load loads) (plain_expr e) (plain_stmts body)
plain_stmt-While loads e body = ap plain_stmt (sym (v.rolls-While loads e body)) ∙ fold-roll-Stmt w.Stmt stmt_step (Stmt-F.While loads e body) ∙ refl

pub plain_stmt-Par : (p : Box Par Global) → plain_stmt (v.Par p) ≡ w.Par (plain_par p.value)
plain_stmt-Par p = ap plain_stmt (sym (v.rolls-Par p)) ∙ fold-roll-Stmt w.Stmt stmt_step (Stmt-F.Par p) ∙ refl

-- what is found of an `if`
pub if_least : (known : Known) (last : Option CType) (n at : ℕ) (e : w.Expr) (first second : w.Stmts) (scope between : Scope) (inside other : ℕ) (t one two : Option ℕ) →
    inside ≡ at + length (line n (codes "if (" ∷ expr_text e ∷ codes ") {" ∷ [])) →
    other ≡ inside + length (stmts_text (n + 1) first) + length (line n (codes "} else {" ∷ [])) →
    t ≡ least (wanted scope.bound kind.Bool (at + length (indent n) + 4) e) →
    one ≡ least (stmts_found known None (n + 1) inside first (settled scope)).places →
    between ≡ ended scope (stmts_found known None (n + 1) inside first (settled scope)).state →
    two ≡ least (stmts_found known None (n + 1) other second (settled between)).places →
    earlier (earlier t one) two ≡ least (stmt_found known last n at (w.If e first second) scope).places
if_least known last n at e first second scope between inside other t one two i o h k b m =
    let place = at + length (line n (codes "if (" ∷ expr_text e ∷ codes ") {" ∷ [])) in
    let A = wanted scope.bound kind.Bool (at + length (indent n) + 4) e in
    let B = stmts_found known None (n + 1) place first (settled scope) in
    let C = stmts_found known None (n + 1) (place + length (stmts_text (n + 1) first) + length (line n (codes "} else {" ∷ []))) second (settled (ended scope B.state)) in
    let k' : one ≡ least B.places = k ∙ ap (λ p. least (stmts_found known None (n + 1) p first (settled scope)).places) i in
    let b' : between ≡ ended scope B.state = b ∙ ap (λ p. ended scope (stmts_found known None (n + 1) p first (settled scope)).state) i in
    let o' : other ≡ place + length (stmts_text (n + 1) first) + length (line n (codes "} else {" ∷ [])) = o ∙ ap (λ p. p + length (stmts_text (n + 1) first) + length (line n (codes "} else {" ∷ []))) i in
    let m' : two ≡ least C.places = m ∙ ap (λ p. least (stmts_found known None (n + 1) p second (settled between)).places) o' ∙ ap (λ s. least (stmts_found known None (n + 1) (place + length (stmts_text (n + 1) first) + length (line n (codes "} else {" ∷ []))) second (settled s)).places) b' in
    let s1 = least_append A B.places in
    let s2 = least_append (A ++ B.places) C.places in
    ap (λ r. earlier r two) (ap (λ r. earlier r one) h ∙ ap (earlier (least A)) k' ∙ sym s1) ∙ ap (earlier (least (A ++ B.places))) m' ∙ sym s2

module _ (known : Known) (last : Option CType) (n at : ℕ) (loads : List w.LoadLine) (e : w.Expr) (body : w.Stmts) (scope inside : Scope) (head test begin : ℕ)
    (h : head ≡ at + length (line n (codes "while (1) {" ∷ []))) (t : test ≡ head + length (flat_map (load_text (n + 1)) loads))
    (b : begin ≡ test + length (test_text (n + 1) e)) (s : inside ≡ bind_loads scope loads) where
  -- what is found of a loop, and what is bound behind it
  pub while_least : (one two three : Option ℕ) →
      one ≡ least (loads_breaches known scope (n + 1) head loads) →
      two ≡ least (wanted inside.bound kind.Bool (test + length (indent (n + 1)) + 5) e) →
      three ≡ least (stmts_found known None (n + 1) begin body (settled inside)).places →
      earlier (earlier one two) three ≡ least (stmt_found known last n at (w.While loads e body) scope).places
  while_least one two three h1 h2 h3 =
      let head' = at + length (line n (codes "while (1) {" ∷ [])) in
      let test' = head' + length (flat_map (load_text (n + 1)) loads) in
      let begin' = test' + length (test_text (n + 1) e) in
      let in' = bind_loads scope loads in
      let t' : test ≡ test' = t ∙ ap (λ p. p + length (flat_map (load_text (n + 1)) loads)) h in
      let b' : begin ≡ begin' = b ∙ ap (λ p. p + length (test_text (n + 1) e)) t' in
      let A = loads_breaches known scope (n + 1) head' loads in
      let B = wanted in'.bound kind.Bool (test' + length (indent (n + 1)) + 5) e in
      let C = stmts_found known None (n + 1) begin' body (settled in') in
      let k1 : one ≡ least A = h1 ∙ ap (λ p. least (loads_breaches known scope (n + 1) p loads)) h in
      let k2 : two ≡ least B = h2 ∙ ap (λ p. least (wanted inside.bound kind.Bool (p + length (indent (n + 1)) + 5) e)) t' ∙ ap (λ i. least (wanted i.bound kind.Bool (test' + length (indent (n + 1)) + 5) e)) s in
      let k3 : three ≡ least C.places = h3 ∙ ap (λ p. least (stmts_found known None (n + 1) p body (settled inside)).places) b' ∙ ap (λ i. least (stmts_found known None (n + 1) begin' body (settled i)).places) s in
      let s1 = least_append A B in
      let s2 = least_append (A ++ B) C.places in
      ap (λ r. earlier r three) (ap (λ r. earlier r two) k1 ∙ ap (earlier (least A)) k2 ∙ sym s1) ∙ ap (earlier (least (A ++ B))) k3 ∙ sym s2

  pub while_state : (after : Scope) → after ≡ record { bound = scope.bound; next = (stmts_found known None (n + 1) begin body (settled inside)).state.scope.next } →
      settled after ≡ (stmt_found known last n at (w.While loads e body) scope).state
  while_state after a =
      let head' = at + length (line n (codes "while (1) {" ∷ [])) in
      let test' = head' + length (flat_map (load_text (n + 1)) loads) in
      let begin' = test' + length (test_text (n + 1) e) in
      let t' : test ≡ test' = t ∙ ap (λ p. p + length (flat_map (load_text (n + 1)) loads)) h in
      let b' : begin ≡ begin' = b ∙ ap (λ p. p + length (test_text (n + 1) e)) t' in
      ap settled a ∙ ap (λ p. settled (ended scope (stmts_found known None (n + 1) p body (settled inside)).state)) b'
      ∙ ap (λ i. settled (ended scope (stmts_found known None (n + 1) begin' body (settled i)).state)) s
