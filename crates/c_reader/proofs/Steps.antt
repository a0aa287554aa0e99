-- A line without breaches keeps the rules.
use Rattle.std.proofs.Common.{◌≡◌, ◌∙◌, sym, ap, refl, subst, ℕ, suc, ◌+◌, ◌==◌, Bool, true, false, cond, Option, Some, None, List, [], ◌∷◌, ◌++◌, length, append_assoc, append-nil}
use Rattle.std.specs.Prelude.{⊤}
use Rattle.std.specs.Cmp.{unsigned_Decides}
use Rattle.std.specs.Str.{bytes_eq}
use Rattle.std.proofs.lemmas.Bool.{and_parts}
use Rattle.std.proofs.lemmas.Slice.Eq.{bytes_eq-Decides}
use Rattle.c_syntax.specs.declared.kind.CType.{CType}
use Rattle.c_syntax.specs.declared.kind.CType.TheVariants as kind
use Rattle.c_syntax.specs.declared.kind.Local as plain
use Rattle.c_syntax.specs.declared.program.CMember.{CMember}
use Rattle.c_syntax.specs.declared.program.CParam.{CParam}
use Rattle.c_syntax.specs.Rules.{AreNumbered, Fits, InitsFit, Scope, StmtFits, after, bound_by, is_same, members_of}
use Rattle.c_syntax.specs.Text.{member_name}
use Rattle.c_syntax.specs.Tree as t
use Rattle.c_syntax.specs.Tree.{Name}
use Rattle.c_forms.specs.declared.word.Local.{Local}
use Rattle.c_forms.specs.Text.{local_text}
use Rattle.c_forms.specs.Tree as w
use Rattle.c_rules.specs.Lines.{Found, FirstValue, State, Waiting, awaiting, bind, members_or_none, pointer_breaches, settled, structure_breaches, value_line, value_places, waiting_found}
use Rattle.c_rules.specs.Sorts.{Structs, fitting, local_of, number_of, unless, unless_some}
use Rattle.c_rules.proofs.ExprRules.{none_both}
use Rattle.c_reader.specs.Standing.{Gathered, begun, expr_of, gathered_line, given, line_of}
use Rattle.c_reader.proofs.BindLines.{bound_behind, same_line}
use Rattle.c_reader.proofs.Breachless.{holds, there}
use Rattle.c_reader.proofs.ExprTypes.{fits}
use Rattle.c_reader.proofs.Rewritten.{fitting_expr, numbered}
use Rattle.c_reader.proofs.Scopes.{Good}
use Rattle.c_reader.proofs.Written as written

-- what waits is what is gathered
pub record Gathers (structs : Structs) (scope : Scope) (wait : Waiting) (g : Gathered) : Type 0 where
  pub local : wait.local ≡ g.local
  pub members : wait.members ≡ g.members
  pub kind : wait.kind ≡ kind.PtrStruct g.structure
  pub number : number_of g.local.number ≡ scope.next
  pub done : List CMember
  pub known : structs g.structure ≡ Some (done ++ g.members)
  pub fits : InitsFit scope.bound g.inits done

abbrev pub Same : Structs → Scope → Option Waiting → Option Gathered → Type 0
Same structs scope None None = ⊤
Same structs scope (Some wait) (Some g) = Gathers structs scope wait g
Same structs scope _ _ = ⊥

-- the lines of what is gathered, in front of others
abbrev pub front : Option Gathered → w.Stmts → w.Stmts
front None rest = rest
front (Some g) rest = w.more (w.Bind (kind.PtrStruct g.structure) (written.local (local_of g.local)) (w.Structure g.structure)) (written.inits (local_of g.local) g.inits rest)

-- what a line does, where `made` is what it stands for by itself
pub data Step (p : t.Program) (scope : Scope) (g : Option Gathered) (s : w.Stmt) (made : t.Stmt) (behind : State) : Type 0 where
  silent : (wait : Waiting) (next : Gathered) → ((k : Option Gathered → t.Stmts) → line_of (members_of p.structs) g s made k ≡ k (Some next)) →
      behind ≡ record { scope = scope; waiting = Some wait } → Gathers (members_of p.structs) scope wait next →
      ((rest : w.Stmts) → front g (w.more s rest) ≡ front (Some next) rest) → Step p scope g s made behind
  emits : (u : t.Stmt) → ((k : Option Gathered → t.Stmts) → line_of (members_of p.structs) g s made k ≡ t.more u (k None)) → AreNumbered scope.next (bound_by u) → StmtFits p scope u →
      behind ≡ settled (after scope u) → ((rest : w.Stmts) → front g (w.more s rest) ≡ written.lines u rest) → Step p scope g s made behind

-- ---- a structure's block begins

-- the pointer is to that structure
pointed : (s : Name) (type : CType) (name at : ℕ) → pointer_breaches s type name at ≡ [] → type ≡ kind.PtrStruct s
pointed s kind.Void name at h = cc
pointed s kind.I64 name at h = cc
pointed s kind.Bool name at h = cc
pointed s kind.PtrI64 name at h = cc
pointed s kind.PtrBool name at h = cc
pointed s (kind.PtrStruct u) name at h = ap kind.PtrStruct ((bytes_eq-Decides u s).0 (holds (bytes_eq u s) at h))
pointed s kind.PtrAtomic name at h = cc
pointed s kind.PtrLock name at h = cc

module _ (p : t.Program) (scope : Scope) (n : ℕ) (positive : scope.next ≡ suc n) (type : CType) (x : Local) (s : Name) (place : ℕ) (made : t.Stmt)
    (number : number_of x.number ≡ scope.next) (k : type ≡ kind.PtrStruct s) where
  begins : (ms : List CMember) → members_or_none (members_of p.structs s) ≡ ms → members_of p.structs s ≡ Some ms →
      Step p scope None (w.Bind type x (w.Structure s)) made (awaiting scope (record { name = place; local = x; kind = type; members = [] }) ms)
  begins [] e h =
      emits (t.NewStruct (local_of x) s [])
      (λ f. ap (λ ms. begun (record { local = x; structure = s; inits = []; members = ms }) ms f) e)
      (number, tt)
      ([], h, tt)
      (bound_behind scope x type (kind.PtrStruct s) number k)
      (λ rest. same_line type (kind.PtrStruct s) x (w.Structure s) (w.Structure s) rest k (numbered x n (number ∙ positive)) refl)
  begins (m ∷ ms) e h =
      silent (record { name = place; local = x; kind = type; members = m ∷ ms }) (record { local = x; structure = s; inits = []; members = m ∷ ms })
      (λ f. ap (λ xs. begun (record { local = x; structure = s; inits = []; members = xs }) xs f) e)
      refl
      (record { local = refl; members = refl; kind = k; number = number; done = []; known = h; fits = tt })
      (λ rest. same_line type (kind.PtrStruct s) x (w.Structure s) (w.Structure s) rest k (numbered x n (number ∙ positive)) refl)

pub structure_step : (p : t.Program) (scope : Scope) → Good scope → (type : CType) (x : Local) (s : Name) (name place : ℕ) (made : t.Stmt) → number_of x.number ≡ scope.next →
    structure_breaches (members_of p.structs) type name place s ≡ [] →
    Step p scope None (w.Bind type x (w.Structure s)) made (awaiting scope (record { name = name; local = x; kind = type; members = [] }) (members_or_none (members_of p.structs s)))
structure_step p scope g type x s name place made number h =
    let parts = none_both (pointer_breaches s type name (place + 20)) (unless_some (members_of p.structs s) (place + 20)) h in
    let m = there (members_of p.structs s) (place + 20) parts.1 in
    let e = ap members_or_none m.1 in
    subst (λ ms. Step p scope None (w.Bind type x (w.Structure s)) made (awaiting scope (record { name = name; local = x; kind = type; members = [] }) ms)) (sym e)
    (begins p scope g.before g.positive type x s name made number (pointed s type name (place + 20) parts.0) m.0 e m.1)

-- ---- first values

-- a first value is a store to a member of that local
pub record IsValue (x : Local) (s : w.Stmt) (v : FirstValue) : Type 0 where
  pub line : s ≡ w.Store (w.Field v.base v.member) v.value
  pub local : local_of v.base ≡ local_of x

same_local : (x y : plain.Local) → is_same x y ≡ true → x ≡ y
same_local x y h =
    let parts = and_parts (bytes_eq x.name y.name) (x.number == y.number) h in
    ap (λ (name : Name). record { name = name; number = x.number }) ((bytes_eq-Decides x.name y.name).0 parts.0)
    ∙ ap (λ (n : ℕ). record { name = y.name; number = n }) ((unsigned_Decides x.number y.number).0 parts.1)

store_value : (x y : Local) (member : Name) (e : w.Expr) (v : FirstValue) (b : Bool) → is_same (local_of y) (local_of x) ≡ b →
    cond b (Some (record { base = y; member = member; value = e })) None ≡ Some v → IsValue x (w.Store (w.Field y member) e) v
store_value x y member e v false k h = cc
store_value x y member e v true k h =
    let same : record { base = y; member = member; value = e } ≡ v = cc in
    record {
      line = ap (λ (f : FirstValue). w.Store (w.Field f.base f.member) f.value) same;
      local = sym (ap (λ (f : FirstValue). local_of f.base) same) ∙ same_local (local_of y) (local_of x) k;
    }

pub is_value : (x : Local) (s : w.Stmt) (v : FirstValue) → value_line x s ≡ Some v → IsValue x s v
is_value x (w.Store (w.Field y member) e) v h = store_value x y member e v (is_same (local_of y) (local_of x)) refl h
is_value x (w.Store (w.Whole y) e) v h = cc
is_value x (w.Store (w.At y i) e) v h = cc
is_value x (w.Bind type y right) v h = cc
is_value x (w.Free y) v h = cc
is_value x (w.AtomicStore y e) v h = cc
is_value x (w.Acquire y) v h = cc
is_value x (w.Release y) v h = cc
is_value x (w.Print e) v h = cc
is_value x (w.CallStmt f args) v h = cc
is_value x (w.Par lines) v h = cc
is_value x (w.If e first second) v h = cc
is_value x (w.While ls e body) v h = cc
is_value x (w.Return e) v h = cc

inits_more : (bound : List CParam) (is : List t.Init) (ms : List CMember) (i : t.Init) (m : CMember) → InitsFit bound is ms → i.name ≡ m.name → Fits bound i.value m.kind →
    InitsFit bound (is ++ (i ∷ [])) (ms ++ (m ∷ []))
inits_more bound [] [] i m h k l = (k, l, tt)
inits_more bound [] (n ∷ ms) i m h k l = absurd h
inits_more bound (j ∷ is) [] i m h k l = absurd h
inits_more bound (j ∷ is) (n ∷ ms) i m h k l = (h.0, h.1, inits_more bound is ms i m h.2 k l)

inits_behind : (x : plain.Local) (is : List t.Init) (i : t.Init) (rest : w.Stmts) →
    written.inits x (is ++ (i ∷ [])) rest ≡ written.inits x is (w.more (w.Store (w.Field (written.local x) i.name) (written.expr i.value)) rest)
inits_behind x [] i rest = refl
inits_behind x (j ∷ is) i rest = ap (w.more (w.Store (w.Field (written.local x) j.name) (written.expr j.value))) (inits_behind x is i rest)

module _ (p : t.Program) (scope : Scope) (good : Good scope) (wait : Waiting) (g : Gathered) (same : Gathers (members_of p.structs) scope wait g)
    (s : w.Stmt) (made : t.Stmt) (v : FirstValue) (m : CMember) (at : ℕ) (value : value_line wait.local s ≡ Some v) (places : value_places scope.bound m at v ≡ []) where
  its : IsValue wait.local s v
  its = is_value wait.local s v value

  abbrev i : t.Init
  i = record { name = v.member; value = expr_of v.value }

  abbrev place : ℕ
  place = at + length (local_text v.base) + 2

  parts : (unless (bytes_eq v.member m.name) place ≡ []) × (fitting scope.bound m.kind (place + length (member_name v.member) + 3) v.value ≡ [])
  parts = none_both (unless (bytes_eq v.member m.name) place) (fitting scope.bound m.kind (place + length (member_name v.member) + 3) v.value) places

  local_same : local_of v.base ≡ local_of g.local
  local_same = its.local ∙ ap local_of same.local

  base_same : written.local (local_of g.local) ≡ v.base
  base_same =
      sym (ap written.local local_same)
      ∙ numbered v.base good.before (ap (λ (l : plain.Local). l.number) local_same ∙ same.number ∙ good.positive)

  line_same : w.Store (w.Field (written.local (local_of g.local)) i.name) (written.expr i.value) ≡ s
  line_same =
      ap (λ y. w.Store (w.Field y v.member) (written.expr (expr_of v.value))) base_same
      ∙ ap (w.Store (w.Field v.base v.member)) (fitting_expr scope.bound good.counted m.kind (place + length (member_name v.member) + 3) v.value parts.1)
      ∙ sym its.line

  fit : InitsFit scope.bound (g.inits ++ (i ∷ [])) (same.done ++ (m ∷ []))
  fit = inits_more scope.bound g.inits same.done i m same.fits ((bytes_eq-Decides v.member m.name).0 (holds (bytes_eq v.member m.name) place parts.0))
      (fits scope.bound m.kind (place + length (member_name v.member) + 3) v.value parts.1)

  reads : (ms : List CMember) → wait.members ≡ m ∷ ms → (k : Option Gathered → t.Stmts) → line_of (members_of p.structs) (Some g) s made k ≡ begun (given g v ms) ms k
  reads ms e k =
      ap (λ xs. gathered_line g xs made (value_line g.local s) k) (sym same.members ∙ e)
      ∙ ap (λ o. gathered_line g (m ∷ ms) made o k) (ap (λ y. value_line y s) (sym same.local) ∙ value)

  text : (rest : w.Stmts) → front (Some g) (w.more s rest)
      ≡ w.more (w.Bind (kind.PtrStruct g.structure) (written.local (local_of g.local)) (w.Structure g.structure)) (written.inits (local_of g.local) (g.inits ++ (i ∷ [])) rest)
  text rest = ap (w.more (w.Bind (kind.PtrStruct g.structure) (written.local (local_of g.local)) (w.Structure g.structure)))
      (ap (λ y. written.inits (local_of g.local) g.inits (w.more y rest)) (sym line_same) ∙ sym (inits_behind (local_of g.local) g.inits i rest))

  all_known : (ms : List CMember) → wait.members ≡ m ∷ ms → members_of p.structs g.structure ≡ Some ((same.done ++ (m ∷ [])) ++ ms)
  all_known ms e = same.known ∙ ap (λ xs. Some (same.done ++ xs)) (sym same.members ∙ e) ∙ ap Some (sym (append_assoc same.done (m ∷ []) ms))

  pub value_step : (ms : List CMember) → wait.members ≡ m ∷ ms → Step p scope (Some g) s made (awaiting scope wait ms)
  value_step [] e =
      emits (t.NewStruct (local_of g.local) g.structure (g.inits ++ (i ∷ [])))
      (reads [] e)
      (same.number, tt)
      (same.done ++ (m ∷ []), all_known [] e ∙ ap Some (append-nil (same.done ++ (m ∷ []))), fit)
      (ap (λ y. settled (bind scope y.name wait.kind)) same.local ∙ bound_behind scope g.local wait.kind (kind.PtrStruct g.structure) same.number same.kind)
      text
  value_step (next ∷ ms) e =
      silent (record { name = wait.name; local = wait.local; kind = wait.kind; members = next ∷ ms }) (given g v (next ∷ ms))
      (reads (next ∷ ms) e)
      refl
      (record { local = same.local; members = refl; kind = same.kind; number = same.number; done = same.done ++ (m ∷ []); known = all_known (next ∷ ms) e; fits = fit })
      text

-- a line where something waits
pub waiting_step : (p : t.Program) (scope : Scope) → Good scope → (wait : Waiting) (g : Gathered) → Gathers (members_of p.structs) scope wait g → (plain : Scope → Found) (s : w.Stmt) (made : t.Stmt) (at : ℕ)
    (ms : List CMember) (v : Option FirstValue) → wait.members ≡ ms → value_line wait.local s ≡ v → (waiting_found plain scope wait ms at v).places ≡ [] →
    Step p scope (Some g) s made (waiting_found plain scope wait ms at v).state
waiting_step p scope good wait g same plain s made at (m ∷ ms) (Some v) e k h = value_step p scope good wait g same s made v m at k h ms e
waiting_step p scope good wait g same plain s made at [] (Some v) e k h = cc
waiting_step p scope good wait g same plain s made at [] None e k h = cc
waiting_step p scope good wait g same plain s made at (m ∷ ms) None e k h = cc
