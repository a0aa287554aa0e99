-- Statements that keep the rules have no breaches where they are written, and bind what the rules say.
use Rattle.std.proofs.Common.{◌≡◌, ◌∙◌, ap, refl, ℕ, ◌+◌, Bool, false, cond, Option, Some, None, List, [], ◌∷◌, ◌++◌, length, map, flat_map, arith}
use Rattle.std.specs.Prelude.{codes}
use Rattle.std.specs.Str.{bytes_eq}
use Rattle.std.proofs.lemmas.Slice.Eq.{bytes_eq-Decides}
use Rattle.c_syntax.specs.declared.kind.CType.{CType}
use Rattle.c_syntax.specs.declared.kind.CType.TheVariants as kind
use Rattle.c_syntax.specs.declared.kind.Local as plain
use Rattle.c_syntax.specs.declared.program.CMember.{CMember}
use Rattle.c_syntax.specs.Forms.{AreStmtForms, IsStmtForm}
use Rattle.c_syntax.specs.Rules.{AreNumbered, InitsFit, IsValueType, Scope, StmtFits, StmtsFit, after, after_all, bound_by, is_same, members_of, moved, stmts_binders, type_of, typed}
use Rattle.c_syntax.specs.Text.{indent, line, member_name, type_text}
use Rattle.c_syntax.specs.Tree as t
use Rattle.c_syntax.specs.Tree.{Name}
use Rattle.c_forms.specs.declared.source.Head.{Head}
use Rattle.c_forms.specs.declared.stmt.Maker.TheVariants as maker
use Rattle.c_forms.specs.Text.{expr_text, load_text, local_text, stmt_text, stmts_text}
use Rattle.c_forms.specs.Tree as w
use Rattle.c_rules.specs.Lines.{FirstValue, Found, Known, State, Waiting, at_end, atomic_store_breaches, awaiting, behind_bind, bind, bind_breaches, bind_loads, call_breaches, ended, found, is_freed, loads_breaches, members_or_none, par_breaches, right_breaches, settled, stmt_found, stmts_found, store_breaches, test_text, value_places, waiting_found}
use Rattle.c_rules.specs.Sorts.{fitting, local_wanted, unless, wanted}
use Rattle.c_reader.proofs.Breachless.{join_none, no_breach}
use Rattle.c_reader.proofs.NoBreachLines.{array_found, atomic_found, bind_found, binder_values, bound_next, found_structure, free_found, loads_bound, loads_found, made_found, par_found, store_found, structure_found, swap_found, threads, values_after, values_after_all}
use Rattle.c_reader.proofs.NoBreachTypes.{HeadsOf, MembersFit, Values, call_found, load_found, local_found}
use Rattle.c_reader.proofs.ReadBackLines.{same_self}
use Rattle.c_reader.proofs.Scopes.{after_all_next}
use Rattle.c_reader.proofs.TypedExprs.{fit_found, type_found}
use Rattle.c_reader.proofs.Written as written

-- nothing is found, and that is bound behind
nothing_found : (places : List ℕ) (a b : Scope) → places ≡ [] → a ≡ b → found places (settled a) ≡ found [] (settled b)
nothing_found places a b h k = ap (λ ps. found ps (settled a)) h ∙ ap (λ s. found [] (settled s)) k

-- nothing is bound
same_scope : (scope : Scope) → scope ≡ record { bound = scope.bound; next = scope.next + 0 }
same_scope scope = ap (λ (n : ℕ). record { bound = scope.bound; next = n }) (omega arith)

module _ (p : t.Program) (heads : Name → Option Head) (missing : Name → Bool) where
  abbrev known : Known
  known = record { structs = members_of p.structs; heads = heads; missing = missing }

  -- these lines have no breach: what is found from them on is found from the others on
  abbrev pub Passes : Option CType → ℕ → ℕ → w.Stmts → State → w.Stmts → State → Type 0
  Passes last n at list state rest next = (place : ℕ) × (stmts_found known last n at list state ≡ stmts_found known last n place rest next)

  -- one line
  pub one_line : (last : Option CType) (n at : ℕ) (s : w.Stmt) (rest : w.Stmts) (scope next : Scope) → stmt_found known (at_end rest last) n at s scope ≡ found [] (settled next) →
      Passes last n at (w.more s rest) (settled scope) rest (settled next)
  one_line last n at s rest scope next h =
      let behind = at + length (stmt_text n s) in (
        behind,
        ap (λ (one : Found). let others = stmts_found known last n behind rest one.state in found (one.places ++ others.places) others.state) h,
      )

  -- ---- first values

  -- a first value of the member that waits
  value_passes : (scope : Scope) (wait : Waiting) (m : CMember) (ms : List CMember) (plainly : Scope → Found) (at : ℕ) (value : FirstValue) (o : Option FirstValue) → o ≡ Some value →
      value_places scope.bound m at value ≡ [] → waiting_found plainly scope wait (m ∷ ms) at o ≡ found [] (awaiting scope wait ms)
  value_passes scope wait m ms plainly at value o h k = ap (waiting_found plainly scope wait (m ∷ ms) at) h ∙ ap (λ ps. found ps (awaiting scope wait ms)) k

  pub inits_pass : (scope : Scope) (name : ℕ) (x : plain.Local) (type : CType) (last : Option CType) (n at : ℕ) (old : List CMember) (is : List t.Init) (ms : List CMember) → InitsFit scope.bound is ms →
      (rest : w.Stmts) →
      Passes last n at (written.inits x is rest) (awaiting scope (record { name = name; local = written.local x; kind = type; members = old }) ms) rest (settled (bind scope x.name type))
  inits_pass scope name x type last n at old [] [] h rest = (at, refl)
  inits_pass scope name x type last n at old [] (m ∷ ms) h rest = absurd h
  inits_pass scope name x type last n at old (i ∷ is) [] h rest = absurd h
  inits_pass scope name x type last n at old (i ∷ is) (m ∷ ms) h rest =
      let s = w.Store (w.Field (written.local x) i.name) (written.expr i.value) in
      let begin = at + length (indent n) in
      let behind = at + length (stmt_text n s) in
      let place = begin + length (local_text (written.local x)) + 2 in
      let value : FirstValue = record { base = written.local x; member = i.name; value = written.expr i.value } in
      let others = written.inits x is rest in
      let again = inits_pass scope name x type last n behind (m ∷ ms) is ms h.2 rest in
      let places : value_places scope.bound m begin value ≡ [] =
      join_none (unless (bytes_eq i.name m.name) place) (fitting scope.bound m.kind (place + length (member_name i.name) + 3) (written.expr i.value))
      (no_breach (bytes_eq i.name m.name) place ((bytes_eq-Decides i.name m.name).1 h.0)) (fit_found scope.bound m.kind (place + length (member_name i.name) + 3) i.value h.1) in (
        again.0,
        ap (λ (one : Found). let more = stmts_found known last n behind others one.state in found (one.places ++ more.places) more.state)
            (value_passes scope (record { name = name; local = written.local x; kind = type; members = m ∷ ms }) m ms (stmt_found known (at_end others last) n at s) begin value (cond (is_same x x) (Some value) None)
            (ap (λ b. cond b (Some value) None) (same_self x)) places)
            ∙ again.1,
      )

  -- a structure's block with all its first values
  structure_passes : (scope : Scope) (x : plain.Local) (s : Name) (is : List t.Init) (ms : List CMember) → x.number ≡ scope.next → members_of p.structs s ≡ Some ms → InitsFit scope.bound is ms →
      (last : Option CType) (n at : ℕ) (rest : w.Stmts) → Passes last n at (written.lines (t.NewStruct x s is) rest) (settled scope) rest (settled (after scope (t.NewStruct x s is)))
  structure_passes scope x s is ms number known_members inits last n at rest =
      let type = kind.PtrStruct s in
      let start = at + length (indent n) in
      let name = start + length (type_text type) in
      let line = w.Bind type (written.local x) (w.Structure s) in
      let behind = at + length (stmt_text n line) in
      let others = written.inits x is rest in
      let places = bind_breaches known scope start type (written.local x) (w.Structure s) in
      let wait : Waiting = record { name = name; local = written.local x; kind = type; members = [] } in
      let none : places ≡ [] =
      bind_found p heads missing scope start type x (w.Structure s) (found_structure p.structs s ms known_members) number (λ name place. structure_found p.structs s ms name place known_members) in
      let one : found places (awaiting scope wait (members_or_none (members_of p.structs s))) ≡ found [] (awaiting scope wait ms) =
      ap (λ ps. found ps (awaiting scope wait (members_or_none (members_of p.structs s)))) none ∙ ap (λ o. found [] (awaiting scope wait (members_or_none o))) known_members in
      let again = inits_pass scope name x type last n behind [] is ms inits rest in (
        again.0,
        ap (λ (one : Found). let more = stmts_found known last n behind others one.state in found (one.places ++ more.places) more.state) one
            ∙ again.1
            ∙ ap (λ q. stmts_found known last n again.0 rest (settled q)) (bound_next scope type x number),
      )

  -- ---- blocks

  -- what is found of two blocks
  blocks_found : (W : List ℕ) (one : Found) (second : Scope → Found) (scope : Scope) (a b : t.Stmts) → W ≡ [] → one ≡ found [] (settled (after_all scope a)) →
      second (moved scope (stmts_binders a)) ≡ found [] (settled (after_all (moved scope (stmts_binders a)) b)) →
      found (W ++ one.places ++ (second (ended scope one.state)).places) (settled (ended scope (second (ended scope one.state)).state))
      ≡ found [] (settled (record { bound = scope.bound; next = scope.next + (stmts_binders a + stmts_binders b) }))
  blocks_found W one second scope a b h k l =
      let between : ended scope one.state ≡ moved scope (stmts_binders a) =
      ap (λ (o : Found). ended scope o.state) k ∙ ap (λ (n : ℕ). record { bound = scope.bound; next = n }) (after_all_next scope a) in
      let two : second (ended scope one.state) ≡ found [] (settled (after_all (moved scope (stmts_binders a)) b)) = ap second between ∙ l in
      ap (λ ps. found (ps ++ one.places ++ (second (ended scope one.state)).places) (settled (ended scope (second (ended scope one.state)).state))) h
      ∙ ap (λ (o : Found). found (o.places ++ (second (ended scope one.state)).places) (settled (ended scope (second (ended scope one.state)).state))) k
      ∙ ap (λ (o : Found). found o.places (settled (ended scope o.state))) two
      ∙ ap (λ (n : ℕ). found [] (settled (record { bound = scope.bound; next = n }))) (let m = after_all_next (moved scope (stmts_binders a)) b in omega arith)

  -- what is found of a loop
  loop_found : (L : List ℕ) (test : Scope → List ℕ) (body : Scope → Found) (scope inside : Scope) (a b : t.Stmts) → L ≡ [] → inside ≡ after_all scope a → test (after_all scope a) ≡ [] →
      body (after_all scope a) ≡ found [] (settled (after_all (after_all scope a) b)) →
      found (L ++ test inside ++ (body inside).places) (settled (ended scope (body inside).state))
      ≡ found [] (settled (record { bound = scope.bound; next = scope.next + (stmts_binders a + stmts_binders b) }))
  loop_found L test body scope inside a b h e k l =
      let inner = after_all scope a in
      ap (λ ps. found (ps ++ test inside ++ (body inside).places) (settled (ended scope (body inside).state))) h
      ∙ ap (λ q. found (test q ++ (body q).places) (settled (ended scope (body q).state))) e
      ∙ ap (λ ps. found (ps ++ (body inner).places) (settled (ended scope (body inner).state))) k
      ∙ ap (λ (o : Found). found o.places (settled (ended scope o.state))) l
      ∙ ap (λ (n : ℕ). found [] (settled (record { bound = scope.bound; next = n }))) (let m = after_all_next inner b in let o = after_all_next scope a in omega arith)

  -- ---- statements

  -- a line that binds nothing
  plain_passes : (last : Option CType) (n at : ℕ) (s : w.Stmt) (rest : w.Stmts) (scope : Scope) (places : List ℕ) → stmt_found known (at_end rest last) n at s scope ≡ found places (settled scope) → places ≡ [] →
      Passes last n at (w.more s rest) (settled scope) rest (settled (record { bound = scope.bound; next = scope.next + 0 }))
  plain_passes last n at s rest scope places e h =
      one_line last n at s rest scope (record { bound = scope.bound; next = scope.next + 0 }) (e ∙ nothing_found places scope (record { bound = scope.bound; next = scope.next + 0 }) h (same_scope scope))

  -- a line that binds a local
  bind_passes : (last : Option CType) (n at : ℕ) (type : CType) (x : plain.Local) (right : w.Right) (rest : w.Stmts) (scope : Scope) → IsValueType p.structs type → x.number ≡ scope.next →
      ((name : ℕ) → behind_bind known scope name type (written.local x) right ≡ settled (bind scope x.name type)) → ((name place : ℕ) → right_breaches known scope.bound type name place right ≡ []) →
      Passes last n at (w.more (w.Bind type (written.local x) right) rest) (settled scope) rest (settled (record { bound = typed type x ∷ scope.bound; next = scope.next + 1 }))
  bind_passes last n at type x right rest scope value number at_once h =
      let start = at + length (indent n) in
      let places = bind_breaches known scope start type (written.local x) right in
      let next : Scope = record { bound = typed type x ∷ scope.bound; next = scope.next + 1 } in
      one_line last n at (w.Bind type (written.local x) right) rest scope next
      (ap (found places) (at_once (start + length (type_text type)))
      ∙ nothing_found places (bind scope x.name type) next (bind_found p heads missing scope start type x right value number h) (bound_next scope type x number))

  module _ (of : HeadsOf p heads) (none : (f : Name) → missing f ≡ false) (fit : MembersFit p.structs) where
    mutual
      pub stmt_passes : (scope : Scope) → Values p.structs scope.bound → (u : t.Stmt) → IsStmtForm u → AreNumbered scope.next (bound_by u) → StmtFits p scope u → (last : Option CType) (n at : ℕ) (rest : w.Stmts) →
          Passes last n at (written.lines u rest) (settled scope) rest (settled (after scope u))
      stmt_passes scope values (t.Let type x e) f k h last n at rest =
          bind_passes last n at type x (w.Value (written.expr e)) rest scope (binder_values p fit scope values (t.Let type x e) h).0 k.0 (λ name. refl) (λ name place. type_found scope.bound type place e h)
      stmt_passes scope values (t.Load type x c) f k h last n at rest =
          bind_passes last n at type x (w.Load (written.cell c)) rest scope (binder_values p fit scope values (t.Load type x c) h).0 k.0 (λ name. refl) (λ name place. load_found p.structs scope.bound type place c h)
      stmt_passes scope values (t.Store c e) f k h last n at rest =
          plain_passes last n at (w.Store (written.cell c) (written.expr e)) rest scope (store_breaches known scope.bound (at + length (indent n)) (written.cell c) (written.expr e)) refl
          (store_found known p.structs scope.bound (at + length (indent n)) c e h.0 refl h.1 h.2)
      stmt_passes scope values (t.New type x e) f k h last n at rest =
          bind_passes last n at type x (w.New (written.maker_of type) (written.expr e)) rest scope (binder_values p fit scope values (t.New type x e) h).0 k.0 (λ name. refl)
          (λ name place. made_found scope.bound type h.0 name place e h.1 h.2)
      stmt_passes scope values (t.NewArray type x e c) f k h last n at rest =
          bind_passes last n at type x (w.Array (written.expr e) (written.expr c)) rest scope (binder_values p fit scope values (t.NewArray type x e c) h).0 k.0 (λ name. refl)
          (λ name place. array_found scope.bound type name place e c h.0 h.1 h.2)
      stmt_passes scope values (t.NewAtomic x e) f k h last n at rest =
          bind_passes last n at kind.PtrAtomic x (w.New maker.Atomic (written.expr e)) rest scope tt k.0 (λ name. refl) (λ name place. type_found scope.bound kind.I64 (place + length (codes "p_new_atomic(")) e h)
      stmt_passes scope values (t.NewStruct x s is) f k h last n at rest = structure_passes scope x s is h.0 k.0 h.1 h.2 last n at rest
      stmt_passes scope values (t.Free x) f k h last n at rest =
          let place = at + length (indent n) + 5 in
          plain_passes last n at (w.Free (written.local x)) rest scope (unless (is_freed (type_of scope.bound x)) place) refl (free_found (type_of scope.bound x) h.0 place h.1 h.2)
      stmt_passes scope values (t.AtomicLoad x y) f k h last n at rest =
          bind_passes last n at kind.I64 x (w.AtomicLoad (written.local y)) rest scope tt k.0 (λ name. refl) (λ name place. local_found scope.bound kind.PtrAtomic (place + 12) y h)
      stmt_passes scope values (t.AtomicStore x e) f k h last n at rest =
          let place = at + length (indent n) in
          plain_passes last n at (w.AtomicStore (written.local x) (written.expr e)) rest scope (atomic_store_breaches scope.bound place (written.local x) (written.expr e)) refl
          (atomic_found scope.bound place x e h.0 h.1)
      stmt_passes scope values (t.Cas x y o c) f k h last n at rest =
          bind_passes last n at kind.Bool x (w.Cas (written.local y) (written.expr o) (written.expr c)) rest scope tt k.0 (λ name. refl)
          (λ name place. swap_found scope.bound name place y o c h.0 h.1 h.2)
      stmt_passes scope values (t.NewLock x) f k h last n at rest = bind_passes last n at kind.PtrLock x w.Lock rest scope tt k.0 (λ name. refl) (λ name place. refl)
      stmt_passes scope values (t.Acquire x) f k h last n at rest =
          let place = at + length (indent n) + 10 in
          plain_passes last n at (w.Acquire (written.local x)) rest scope (local_wanted scope.bound kind.PtrLock place (written.local x)) refl (local_found scope.bound kind.PtrLock place x h)
      stmt_passes scope values (t.Release x) f k h last n at rest =
          let place = at + length (indent n) + 10 in
          plain_passes last n at (w.Release (written.local x)) rest scope (local_wanted scope.bound kind.PtrLock place (written.local x)) refl (local_found scope.bound kind.PtrLock place x h)
      stmt_passes scope values (t.Read x) f k h last n at rest = bind_passes last n at kind.I64 x w.Read rest scope tt k.0 (λ name. refl) (λ name place. refl)
      stmt_passes scope values (t.Print e) f k h last n at rest =
          let place = at + length (indent n) + 8 in
          plain_passes last n at (w.Print (written.expr e)) rest scope (wanted scope.bound kind.I64 place (written.expr e)) refl (type_found scope.bound kind.I64 place e h)
      stmt_passes scope values (t.Call g args) f k h last n at rest =
          let place = at + length (indent n) in
          plain_passes last n at (w.CallStmt g (map written.expr args)) rest scope (call_breaches heads scope.bound kind.Void place g (map written.expr args)) refl
          (call_found p heads of scope.bound kind.Void place g args h)
      stmt_passes scope values (t.CallLet type x g args) f k h last n at rest =
          bind_passes last n at type x (w.Call g (map written.expr args)) rest scope h.1 k.0 (λ name. refl) (λ name place. call_found p heads of scope.bound type place g args h.0)
      stmt_passes scope values (t.Par g args o others) f k h last n at rest =
          let place = at + length (line n (codes "{" ∷ [])) in
          plain_passes last n at (w.Par (threads g args o others)) rest scope (par_breaches known scope.bound (n + 1) place (threads g args o others)) refl
          (par_found p heads missing of scope.bound (n + 1) place g args o others (none g) h.0 h.1)
      stmt_passes scope values (t.If e a b) f k h last n at rest =
          let first = written.stmts a in
          let second = written.stmts b in
          let inside = at + length (line n (codes "if (" ∷ expr_text (written.expr e) ∷ codes ") {" ∷ [])) in
          let other = inside + length (stmts_text (n + 1) first) + length (line n (codes "} else {" ∷ [])) in
          let place = at + length (indent n) + 4 in
          let between = moved scope (stmts_binders a) in
          one_line last n at (w.If (written.expr e) first second) rest scope (after scope (t.If e a b))
          (blocks_found (wanted scope.bound kind.Bool place (written.expr e)) (stmts_found known None (n + 1) inside first (settled scope)) (λ q. stmts_found known None (n + 1) other second (settled q)) scope a b
          (type_found scope.bound kind.Bool place e h.0) (rows scope values a f.1 h.1 None (n + 1) inside) (rows between values b f.2 h.2 None (n + 1) other))
      stmt_passes scope values (t.While ls e b) f k h last n at rest =
          let loads = written.loads ls in
          let body = written.stmts b in
          let head = at + length (line n (codes "while (1) {" ∷ [])) in
          let test = head + length (flat_map (load_text (n + 1)) loads) in
          let place = test + length (indent (n + 1)) + 5 in
          let begin = test + length (test_text (n + 1) (written.expr e)) in
          let inside = after_all scope ls in
          one_line last n at (w.While loads (written.expr e) body) rest scope (after scope (t.While ls e b))
          (loop_found (loads_breaches known scope (n + 1) head loads) (λ q. wanted q.bound kind.Bool place (written.expr e)) (λ q. stmts_found known None (n + 1) begin body (settled q)) scope (bind_loads scope loads) ls b
          (loads_found p heads missing fit scope values (n + 1) head ls f.0 h.0) (loads_bound p scope ls f.0 h.0) (type_found inside.bound kind.Bool place e h.1)
          (rows inside (values_after_all p fit scope values ls h.0) b f.3 h.2 None (n + 1) begin))
      stmt_passes scope values (t.Return e) f k h last n at rest = absurd h

      pub rows : (scope : Scope) → Values p.structs scope.bound → (ts : t.Stmts) → AreStmtForms ts → StmtsFit p scope ts → (last : Option CType) (n at : ℕ) →
          stmts_found known last n at (written.stmts ts) (settled scope) ≡ found [] (settled (after_all scope ts))
      rows scope values t.end f h last n at = refl
      rows scope values (t.more u rest) f h last n at =
          let one = stmt_passes scope values u f.0 h.0 h.1 last n at (written.stmts rest) in
          one.1 ∙ rows (after scope u) (values_after p fit scope values u h.1) rest f.1 h.2 last n one.0
