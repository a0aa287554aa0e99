-- An expression that has the type that is wanted has no breaches.
use Rattle.std.proofs.Common.{◌≡◌, ◌∙◌, sym, ap, refl, ℕ, ◌+◌, Option, Some, None, List, [], ◌++◌, inl, inr, ◌⊎◌}
use Rattle.c_syntax.specs.declared.kind.CType.{CType}
use Rattle.c_syntax.specs.declared.kind.CType.TheVariants as kind
use Rattle.c_syntax.specs.declared.program.CParam.{CParam}
use Rattle.c_syntax.specs.Rules.{Fits, HasType, IsNullable, NullFits, operand, type_of}
use Rattle.c_syntax.specs.Tree as t
use Rattle.c_rules.specs.Sorts.{behind, compared, fitting, inside, operands, own, unknown, wanted, unless, is_type, or_else}
use Rattle.c_rules.specs.Kinds.{same_type, is_nullable}
use Rattle.c_reader.proofs.Breachless.{else_join, join_none, no_breach, is_its_type, is_null, some_there, same_self}
use Rattle.c_reader.proofs.ExprTypes.{Sides}
use Rattle.c_reader.proofs.Written.{expr}

-- an expression in which nothing is a breach, and which has that type by itself
pub record Clean (bound : List CParam) (at : ℕ) (e : t.Expr) (type : CType) : Type 0 where
  pub names : unknown bound at (expr e) ≡ []
  pub sorts : inside bound at (expr e) ≡ []
  pub is : own bound (expr e) ≡ Some type

pub null_is : (e : t.Expr) (type : CType) → NullFits e type → (e ≡ t.Null) × IsNullable type
null_is t.Null type h = (refl, h)
null_is (t.Int n) type h = absurd h
null_is (t.Truth b) type h = absurd h
null_is (t.Var x) type h = absurd h
null_is (t.Neg e) type h = absurd h
null_is (t.Not e) type h = absurd h
null_is (t.Bin op a b) type h = absurd h

-- an operand of that type
pub side : (i : List ℕ) (want : CType) (s : Option CType) (at : ℕ) → i ≡ [] → s ≡ Some want → or_else i (unless (is_type want s) at) ≡ []
side i want s at h k = else_join i (unless (is_type want s) at) h (no_breach (is_type want s) at (is_its_type want s k))

pub one_type : (i : List ℕ) (s u : Option CType) (type : CType) (at left right : ℕ) → i ≡ [] → s ≡ Some type → u ≡ Some type → compared i s u at left right ≡ []
one_type i s u type at left right h k l =
    ap (λ x. compared i x u at left right) k ∙ ap (λ x. compared i (Some type) x at left right) l
    ∙ else_join i (unless (same_type type type) at) h (no_breach (same_type type type) at (same_self type))

pub null_right : (i : List ℕ) (s u : Option CType) (type : CType) (at left right : ℕ) → IsNullable type → i ≡ [] → s ≡ Some type → u ≡ None → compared i s u at left right ≡ []
null_right i s u type at left right n h k l =
    ap (λ x. compared i x u at left right) k ∙ ap (λ x. compared i (Some type) x at left right) l
    ∙ join_none i (unless (is_nullable type) right) h (no_breach (is_nullable type) right (is_null type n))

pub null_left : (i : List ℕ) (s u : Option CType) (type : CType) (at left right : ℕ) → IsNullable type → i ≡ [] → s ≡ None → u ≡ Some type → compared i s u at left right ≡ []
null_left i s u type at left right n h k l =
    ap (λ x. compared i x u at left right) k ∙ ap (λ x. compared i None x at left right) l
    ∙ join_none (unless (is_nullable type) left) i (no_breach (is_nullable type) left (is_null type n)) h

-- what is known of both sides of an operator
pub record Both (bound : List CParam) (a b : t.Expr) (o : Option CType) (at left right : ℕ) : Type 0 where
  pub one : unknown bound left (expr a) ≡ []
  pub two : unknown bound right (expr b) ≡ []
  pub sorts : operands o (inside bound left (expr a)) (own bound (expr a)) (inside bound right (expr b)) (own bound (expr b)) at left right ≡ []

module _ (bound : List CParam) (a b : t.Expr) (at left right : ℕ)
    (one : (type : CType) → HasType bound a type → Clean bound left a type) (two : (type : CType) → HasType bound b type → Clean bound right b type) where
  both_wanted : (want : CType) → HasType bound a want → HasType bound b want → Both bound a b (Some want) at left right
  both_wanted want h k =
      let p = one want h in
      let q = two want k in
      record {
        one = p.names;
        two = q.names;
        sorts = join_none (or_else (inside bound left (expr a)) (unless (is_type want (own bound (expr a))) left)) (or_else (inside bound right (expr b)) (unless (is_type want (own bound (expr b))) right))
            (side (inside bound left (expr a)) want (own bound (expr a)) left p.sorts p.is) (side (inside bound right (expr b)) want (own bound (expr b)) right q.sorts q.is);
      }

  same_types : (type : CType) → HasType bound a type → HasType bound b type → Both bound a b None at left right
  same_types type h k =
      let p = one type h in
      let q = two type k in
      record {
        one = p.names;
        two = q.names;
        sorts = one_type (inside bound left (expr a) ++ inside bound right (expr b)) (own bound (expr a)) (own bound (expr b)) type at left right
            (join_none (inside bound left (expr a)) (inside bound right (expr b)) p.sorts q.sorts) p.is q.is;
      }

  right_null : (type : CType) → HasType bound a type → NullFits b type → Both bound a b None at left right
  right_null type h k =
      let p = one type h in
      let n = null_is b type k in
      let i : inside bound right (expr b) ≡ [] = ap (λ e. inside bound right (expr e)) n.0 in
      record {
        one = p.names;
        two = ap (λ e. unknown bound right (expr e)) n.0;
        sorts = null_right (inside bound left (expr a) ++ inside bound right (expr b)) (own bound (expr a)) (own bound (expr b)) type at left right n.1
            (join_none (inside bound left (expr a)) (inside bound right (expr b)) p.sorts i) p.is (ap (λ e. own bound (expr e)) n.0);
      }

  left_null : (type : CType) → NullFits a type → HasType bound b type → Both bound a b None at left right
  left_null type k h =
      let q = two type h in
      let n = null_is a type k in
      let i : inside bound left (expr a) ≡ [] = ap (λ e. inside bound left (expr e)) n.0 in
      record {
        one = ap (λ e. unknown bound left (expr e)) n.0;
        two = q.names;
        sorts = null_left (inside bound left (expr a) ++ inside bound right (expr b)) (own bound (expr a)) (own bound (expr b)) type at left right n.1
            (join_none (inside bound left (expr a)) (inside bound right (expr b)) i q.sorts) (ap (λ e. own bound (expr e)) n.0) q.is;
      }

  compared_fit : (type : CType) → (HasType bound a type × HasType bound b type) ⊎ ((HasType bound a type × NullFits b type) ⊎ (NullFits a type × HasType bound b type)) → Both bound a b None at left right
  compared_fit type (inl h) = same_types type h.0 h.1
  compared_fit type (inr (inl h)) = right_null type h.0 h.1
  compared_fit type (inr (inr h)) = left_null type h.0 h.1

  pub operands_fit : (o : Option CType) → Sides bound a b o → Both bound a b o at left right
  operands_fit None h = compared_fit h.0 h.1
  operands_fit (Some want) h = both_wanted want h.0 h.1

-- an expression that has a type
pub clean : (bound : List CParam) (at : ℕ) (e : t.Expr) (type : CType) → HasType bound e type → Clean bound at e type
clean bound at (t.Int n) type h = record { names = refl; sorts = refl; is = ap Some (sym h) }
clean bound at (t.Truth b) type h = record { names = refl; sorts = refl; is = ap Some (sym h) }
clean bound at t.Null type h = absurd h
clean bound at (t.Var x) type h = record { names = some_there (type_of bound x) type at h; sorts = refl; is = h }
clean bound at (t.Neg e) type h =
    let p = clean bound (at + 2) e kind.I64 h.1 in
    record { names = p.names; sorts = side (inside bound (at + 2) (expr e)) kind.I64 (own bound (expr e)) (at + 2) p.sorts p.is; is = ap Some (sym h.0) }
clean bound at (t.Not e) type h =
    let p = clean bound (at + 2) e kind.Bool h.1 in
    record { names = p.names; sorts = side (inside bound (at + 2) (expr e)) kind.Bool (own bound (expr e)) (at + 2) p.sorts p.is; is = ap Some (sym h.0) }
clean bound at (t.Bin op a b) type h =
    let right = behind op (at + 1) (expr a) in
    let p = operands_fit bound a b at (at + 1) right (λ u k. clean bound (at + 1) a u k) (λ u k. clean bound right b u k) (operand op) h.1 in
    record { names = join_none (unknown bound (at + 1) (expr a)) (unknown bound right (expr b)) p.one p.two; sorts = p.sorts; is = ap Some (sym h.0) }

-- an expression of which that type is wanted
pub type_found : (bound : List CParam) (want : CType) (at : ℕ) (e : t.Expr) → HasType bound e want → wanted bound want at (expr e) ≡ []
type_found bound want at e h =
    let p = clean bound at e want h in
    else_join (unknown bound at (expr e)) (or_else (inside bound at (expr e)) (unless (is_type want (own bound (expr e))) at)) p.names
    (side (inside bound at (expr e)) want (own bound (expr e)) at p.sorts p.is)

null_found : (bound : List CParam) (want : CType) (at : ℕ) (e : t.Expr) → NullFits e want → fitting bound want at (expr e) ≡ []
null_found bound want at e h =
    let n = null_is e want h in
    ap (λ x. fitting bound want at (expr x)) n.0 ∙ no_breach (is_nullable want) at (is_null want n.1)

plain_found : (bound : List CParam) (want : CType) (at : ℕ) (e : t.Expr) → HasType bound e want → fitting bound want at (expr e) ≡ []
plain_found bound want at t.Null h = absurd h
plain_found bound want at (t.Int n) h = type_found bound want at (t.Int n) h
plain_found bound want at (t.Truth b) h = type_found bound want at (t.Truth b) h
plain_found bound want at (t.Var x) h = type_found bound want at (t.Var x) h
plain_found bound want at (t.Neg e) h = type_found bound want at (t.Neg e) h
plain_found bound want at (t.Not e) h = type_found bound want at (t.Not e) h
plain_found bound want at (t.Bin op a b) h = type_found bound want at (t.Bin op a b) h

pub fit_found : (bound : List CParam) (want : CType) (at : ℕ) (e : t.Expr) → Fits bound e want → fitting bound want at (expr e) ≡ []
fit_found bound want at e (inl h) = plain_found bound want at e h
fit_found bound want at e (inr h) = null_found bound want at e h
