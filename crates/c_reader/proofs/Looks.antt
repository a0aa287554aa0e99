-- The rules on statements ask only what look-ups of locals give.
use Rattle.std.proofs.Common.{◌≡◌, ◌∙◌, sym, ap, subst, ℕ, ◌+◌, cond, Option, Some, None, List, [], ◌∷◌, ◌++◌, inl, inr}
use Rattle.std.specs.Prelude.{◌⊎◌, option_and_then}
use Rattle.c_syntax.specs.declared.kind.CType.{CType}
use Rattle.c_syntax.specs.declared.kind.CType.TheVariants as kind
use Rattle.c_syntax.specs.declared.kind.Local.{Local}
use Rattle.c_syntax.specs.declared.program.CMember.{CMember}
use Rattle.c_syntax.specs.declared.program.CParam.{CParam}
use Rattle.c_syntax.specs.declared.program.CStruct.{CStruct}
use Rattle.c_syntax.specs.Rules.{AreNumbered, ArgumentsFit, BodyFits, CallFits, CellHasType, Fits, HasType, InitsFit, NullFits, Scope, StmtFits, StmtsFit, after, after_all, binders, bound_by, element, is_same, moved, operand, stmts_binders, type_of}
use Rattle.c_syntax.specs.Tree as t
use Rattle.c_syntax.specs.Tree.{Name}
use Rattle.c_reader.proofs.ExprTypes.{Sides}

abbrev pub Alike : List CParam → List CParam → Type 0
Alike a b = (x : Local) → type_of a x ≡ type_of b x

alike_more : (bs a b : List CParam) → Alike a b → Alike (bs ++ a) (bs ++ b)
alike_more [] a b h = h
alike_more (c ∷ bs) a b h = λ x. ap (cond (is_same x c.local) (Some c.kind)) (alike_more bs a b h x)

module _ (a b : List CParam) (same : Alike a b) where
  sides_same : (e f : t.Expr) (o : Option CType) → ((type : CType) → HasType a e type → HasType b e type) → ((type : CType) → HasType a f type → HasType b f type) → Sides a e f o → Sides b e f o
  sides_same e f (Some want) one two h = (one want h.0, two want h.1)
  sides_same e f None one two h = (h.0, sum h.0 h.1)
    where
      sum : (type : CType) → (HasType a e type × HasType a f type) ⊎ ((HasType a e type × NullFits f type) ⊎ (NullFits e type × HasType a f type)) →
          (HasType b e type × HasType b f type) ⊎ ((HasType b e type × NullFits f type) ⊎ (NullFits e type × HasType b f type))
      sum type (inl k) = inl (one type k.0, two type k.1)
      sum type (inr (inl k)) = inr (inl (one type k.0, k.1))
      sum type (inr (inr k)) = inr (inr (k.0, two type k.1))

  pub type_same : (e : t.Expr) (type : CType) → HasType a e type → HasType b e type
  type_same (t.Int n) type h = h
  type_same (t.Truth v) type h = h
  type_same t.Null type h = h
  type_same (t.Var x) type h = sym (same x) ∙ h
  type_same (t.Neg e) type h = (h.0, type_same e kind.I64 h.1)
  type_same (t.Not e) type h = (h.0, type_same e kind.Bool h.1)
  type_same (t.Bin op e f) type h = (h.0, sides_same e f (operand op) (λ u k. type_same e u k) (λ u k. type_same f u k) h.1)

  pub fits_same : (e : t.Expr) (type : CType) → Fits a e type → Fits b e type
  fits_same e type (inl h) = inl (type_same e type h)
  fits_same e type (inr h) = inr h

  pub cell_same : (structs : List CStruct) (c : t.Cell) (type : CType) → CellHasType structs a c type → CellHasType structs b c type
  cell_same structs (t.Whole base) type h = sym (ap (option_and_then element) (same base)) ∙ h
  cell_same structs (t.At base index) type h = (sym (ap (option_and_then element) (same base)) ∙ h.0, type_same index kind.I64 h.1)
  cell_same structs (t.Field base member) type h = (h.0, h.1, sym (same base) ∙ h.2, h.3, h.4)

  pub args_same : (es : List t.Expr) (ps : List CParam) → ArgumentsFit a es ps → ArgumentsFit b es ps
  args_same [] [] h = h
  args_same [] (p ∷ ps) h = h
  args_same (e ∷ es) [] h = h
  args_same (e ∷ es) (p ∷ ps) h = (fits_same e p.kind h.0, args_same es ps h.1)

  pub inits_same : (is : List t.Init) (ms : List CMember) → InitsFit a is ms → InitsFit b is ms
  inits_same [] [] h = h
  inits_same [] (m ∷ ms) h = h
  inits_same (i ∷ is) [] h = h
  inits_same (i ∷ is) (m ∷ ms) h = (h.0, fits_same i.value m.kind h.1, inits_same is ms h.2)

  pub call_same : (p : t.Program) (f : Name) (args : List t.Expr) (want : CType) → CallFits p a f args want → CallFits p b f args want
  call_same p f args want h = (h.0, h.1, h.2, args_same args h.0.params h.3)

-- two scopes in which look-ups give the same
pub record SameLooks (s r : Scope) : Type 0 where
  pub looks : Alike s.bound r.bound
  pub next : s.next ≡ r.next

pub after_same : (s r : Scope) → SameLooks s r → (u : t.Stmt) → SameLooks (after s u) (after r u)
after_same s r h u = record { looks = alike_more (bound_by u) s.bound r.bound h.looks; next = ap (λ (n : ℕ). n + binders u) h.next }

pub after_all_same : (s r : Scope) → SameLooks s r → (ts : t.Stmts) → SameLooks (after_all s ts) (after_all r ts)
after_all_same s r h t.end = h
after_all_same s r h (t.more u rest) = after_all_same (after s u) (after r u) (after_same s r h u) rest

moved_same : (s r : Scope) → SameLooks s r → (k : ℕ) → SameLooks (moved s k) (moved r k)
moved_same s r h k = record { looks = h.looks; next = ap (λ (n : ℕ). n + k) h.next }

numbers_same : (s r : Scope) → SameLooks s r → (bs : List CParam) → AreNumbered s.next bs → AreNumbered r.next bs
numbers_same s r h bs k = subst (λ (n : ℕ). AreNumbered n bs) h.next k

mutual
  pub stmt_same : (p : t.Program) (s r : Scope) → SameLooks s r → (u : t.Stmt) → StmtFits p s u → StmtFits p r u
  stmt_same p s r h (t.Let type x e) k = type_same s.bound r.bound h.looks e type k
  stmt_same p s r h (t.Load type x c) k = cell_same s.bound r.bound h.looks p.structs c type k
  stmt_same p s r h (t.Store c e) k = (k.0, cell_same s.bound r.bound h.looks p.structs c k.0 k.1, fits_same s.bound r.bound h.looks e k.0 k.2)
  stmt_same p s r h (t.New type x e) k = (k.0, k.1, type_same s.bound r.bound h.looks e k.0 k.2)
  stmt_same p s r h (t.NewArray type x e count) k = (k.0, type_same s.bound r.bound h.looks e kind.I64 k.1, type_same s.bound r.bound h.looks count kind.I64 k.2)
  stmt_same p s r h (t.NewAtomic x e) k = type_same s.bound r.bound h.looks e kind.I64 k
  stmt_same p s r h (t.NewStruct x d is) k = (k.0, k.1, inits_same s.bound r.bound h.looks is k.0 k.2)
  stmt_same p s r h (t.Free base) k = (k.0, sym (h.looks base) ∙ k.1, k.2)
  stmt_same p s r h (t.AtomicLoad x base) k = sym (h.looks base) ∙ k
  stmt_same p s r h (t.AtomicStore base e) k = (sym (h.looks base) ∙ k.0, type_same s.bound r.bound h.looks e kind.I64 k.1)
  stmt_same p s r h (t.Cas x base old new) k = (sym (h.looks base) ∙ k.0, type_same s.bound r.bound h.looks old kind.I64 k.1, type_same s.bound r.bound h.looks new kind.I64 k.2)
  stmt_same p s r h (t.NewLock x) k = k
  stmt_same p s r h (t.Acquire l) k = sym (h.looks l) ∙ k
  stmt_same p s r h (t.Release l) k = sym (h.looks l) ∙ k
  stmt_same p s r h (t.Read x) k = k
  stmt_same p s r h (t.Print e) k = type_same s.bound r.bound h.looks e kind.I64 k
  stmt_same p s r h (t.Call f args) k = call_same s.bound r.bound h.looks p f args kind.Void k
  stmt_same p s r h (t.CallLet type x f args) k = (call_same s.bound r.bound h.looks p f args type k.0, k.1)
  stmt_same p s r h (t.Par f args g others) k = (call_same s.bound r.bound h.looks p f args kind.Void k.0, call_same s.bound r.bound h.looks p g others kind.Void k.1)
  stmt_same p s r h (t.If e first second) k =
      (type_same s.bound r.bound h.looks e kind.Bool k.0, stmts_same p s r h first k.1, stmts_same p (moved s (stmts_binders first)) (moved r (stmts_binders first)) (moved_same s r h (stmts_binders first)) second k.2)
  stmt_same p s r h (t.While ls e body) k =
      let inside = after_all_same s r h ls in
      (stmts_same p s r h ls k.0, type_same (after_all s ls).bound (after_all r ls).bound inside.looks e kind.Bool k.1, stmts_same p (after_all s ls) (after_all r ls) inside body k.2)
  stmt_same p s r h (t.Return e) k = k

  pub stmts_same : (p : t.Program) (s r : Scope) → SameLooks s r → (ts : t.Stmts) → StmtsFit p s ts → StmtsFit p r ts
  stmts_same p s r h t.end k = k
  stmts_same p s r h (t.more u rest) k = (numbers_same s r h (bound_by u) k.0, stmt_same p s r h u k.1, stmts_same p (after s u) (after r u) (after_same s r h u) rest k.2)

-- a function's statements, with the last `return`
pub body_same : (p : t.Program) (result : CType) (s r : Scope) → SameLooks s r → (ts : t.Stmts) → BodyFits p result s ts → BodyFits p result r ts
body_same p result s r h t.end k = k
body_same p result s r h (t.more (t.Return e) t.end) k = (k.0, fits_same s.bound r.bound h.looks e result k.1)
body_same p result s r h (t.more (t.Return e) (t.more u rest)) k = absurd k.1
body_same p result s r h (t.more u rest) k = (numbers_same s r h (bound_by u) k.0, stmt_same p s r h u k.1, body_same p result (after s u) (after r u) (after_same s r h u) rest k.2)
