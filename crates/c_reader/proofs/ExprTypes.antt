-- An expression without breaches has the type that is wanted.
use Rattle.std.proofs.Common.{◌≡◌, sym, refl, subst, ℕ, ◌+◌, Option, Some, None, List, [], ◌++◌}
use Rattle.std.proofs.Common.{inl, inr}
use Rattle.std.specs.Prelude.{MatchOption}
use Rattle.c_syntax.specs.declared.kind.CType.{CType}
use Rattle.c_syntax.specs.declared.kind.CType.TheVariants as kind
use Rattle.c_syntax.specs.declared.program.CParam.{CParam}
use Rattle.c_syntax.specs.Rules.{AreAlike, Fits, HasType, IsNullable, NullFits, operand, type_of}
use Rattle.c_syntax.specs.declared.kind.Local.{Local}
use Rattle.c_syntax.specs.Tree as t
use Rattle.c_forms.specs.Tree as w
use Rattle.c_rules.specs.Kinds.{same_type, is_nullable}
use Rattle.c_rules.specs.Sorts.{behind, compared, fitting, inside, kind_at, local_of, operands, own, unknown, unless, unless_some, wanted, is_type, or_else}
use Rattle.c_rules.proofs.ExprRules.{same_is, none_both}
use Rattle.c_reader.specs.Standing.{expr_of}
use Rattle.c_reader.proofs.Breachless.{else_none, holds, nullable, type_is}

-- an expression has the type that it has by itself; one that has none is NULL
abbrev pub Own : List CParam → t.Expr → Option CType → Type 0
Own bound e None = (type : CType) → IsNullable type → NullFits e type
Own bound e (Some type) = HasType bound e type

-- the sides of a comparison
pub alike : (bound : List CParam) (a b : t.Expr) (s u : Option CType) (at left right : ℕ) → compared [] s u at left right ≡ [] → Own bound a s → Own bound b u →
    AreAlike (HasType bound a) (HasType bound b) a b
alike bound a b (Some s) (Some u) at left right h p q =
    (s, inl (p, subst (HasType bound b) (sym (same_is s u (holds (same_type s u) at h))) q))
alike bound a b (Some s) None at left right h p q = (s, inr (inl (p, q s (nullable s (holds (is_nullable s) right h)))))
alike bound a b None (Some u) at left right h p q =
    (u, inr (inr (p u (nullable u (holds (is_nullable u) left (none_both (unless (is_nullable u) left) [] h).0)), q)))
alike bound a b None None at left right h p q = cc

-- what is found inside of both sides of a comparison
pub compared_inside : (i : List ℕ) (s u : Option CType) (at left right : ℕ) → compared i s u at left right ≡ [] → i ≡ []
compared_inside i (Some s) (Some u) at left right h = (else_none i (unless (same_type s u) at) h).0
compared_inside i (Some s) None at left right h = (none_both i (unless (is_nullable s) right) h).0
compared_inside i None (Some u) at left right h = (none_both (unless (is_nullable u) left) i h).1
compared_inside i None None at left right h = cc

-- the sides of an operator
abbrev pub Sides : List CParam → t.Expr → t.Expr → Option CType → Type 0
Sides bound a b o = MatchOption o (AreAlike (HasType bound a) (HasType bound b) a b) (λ both. HasType bound a both × HasType bound b both)

pub sides : (bound : List CParam) (a b : t.Expr) (o : Option CType) (i j : List ℕ) (s u : Option CType) (at left right : ℕ) → operands o i s j u at left right ≡ [] →
    (i ≡ [] → Own bound a s) → (j ≡ [] → Own bound b u) → Sides bound a b o
sides bound a b (Some want) i j s u at left right h p q =
    let parts = none_both (or_else i (unless (is_type want s) left)) (or_else j (unless (is_type want u) right)) h in
    let one = else_none i (unless (is_type want s) left) parts.0 in
    let two = else_none j (unless (is_type want u) right) parts.1 in
    (subst (Own bound a) (type_is want s (holds (is_type want s) left one.1)) (p one.0), subst (Own bound b) (type_is want u (holds (is_type want u) right two.1)) (q two.0))
sides bound a b None i j s u at left right h p q =
    let both = compared_inside (i ++ j) s u at left right h in
    let parts = none_both i j both in
    alike bound a b s u at left right (subst (λ k. compared k s u at left right ≡ []) both h) (p parts.0) (q parts.1)

variable : (bound : List CParam) (x : Local) (o : Option CType) (at : ℕ) → type_of bound x ≡ o → unless_some o at ≡ [] → Own bound (t.Var x) o
variable bound x None at e h = cc
variable bound x (Some type) at e h = e

-- without breaches inside, an expression has its own type
pub typed : (bound : List CParam) (at : ℕ) (e : w.Expr) → unknown bound at e ≡ [] → inside bound at e ≡ [] → Own bound (expr_of e) (own bound e)
typed bound at (w.Int n) h k = refl
typed bound at (w.Truth b) h k = refl
typed bound at w.Null h k = λ type n. n
typed bound at (w.Var x) h k = variable bound (local_of x) (kind_at bound x) at refl h
typed bound at (w.Neg e) h k =
    let parts = else_none (inside bound (at + 2) e) (unless (is_type kind.I64 (own bound e)) (at + 2)) k in
    (refl, subst (Own bound (expr_of e)) (type_is kind.I64 (own bound e) (holds (is_type kind.I64 (own bound e)) (at + 2) parts.1)) (typed bound (at + 2) e h parts.0))
typed bound at (w.Not e) h k =
    let parts = else_none (inside bound (at + 2) e) (unless (is_type kind.Bool (own bound e)) (at + 2)) k in
    (refl, subst (Own bound (expr_of e)) (type_is kind.Bool (own bound e) (holds (is_type kind.Bool (own bound e)) (at + 2) parts.1)) (typed bound (at + 2) e h parts.0))
typed bound at (w.Bin op a b) h k =
    let names = none_both (unknown bound (at + 1) a) (unknown bound (behind op (at + 1) a) b) h in (
      refl,
      sides bound (expr_of a) (expr_of b) (operand op) (inside bound (at + 1) a) (inside bound (behind op (at + 1) a) b) (own bound a) (own bound b) at (at + 1) (behind op (at + 1) a) k
          (typed bound (at + 1) a names.0) (typed bound (behind op (at + 1) a) b names.1),
    )

-- an expression of which a type is wanted
pub has_type : (bound : List CParam) (want : CType) (at : ℕ) (e : w.Expr) → wanted bound want at e ≡ [] → HasType bound (expr_of e) want
has_type bound want at e h =
    let names = else_none (unknown bound at e) (or_else (inside bound at e) (unless (is_type want (own bound e)) at)) h in
    let sorts = else_none (inside bound at e) (unless (is_type want (own bound e)) at) names.1 in
    subst (Own bound (expr_of e)) (type_is want (own bound e) (holds (is_type want (own bound e)) at sorts.1)) (typed bound at e names.0 sorts.0)

pub fits : (bound : List CParam) (want : CType) (at : ℕ) (e : w.Expr) → fitting bound want at e ≡ [] → Fits bound (expr_of e) want
fits bound want at w.Null h = inr (nullable want (holds (is_nullable want) at h))
fits bound want at (w.Int n) h = inl (has_type bound want at (w.Int n) h)
fits bound want at (w.Truth b) h = inl (has_type bound want at (w.Truth b) h)
fits bound want at (w.Var x) h = inl (has_type bound want at (w.Var x) h)
fits bound want at (w.Neg e) h = inl (has_type bound want at (w.Neg e) h)
fits bound want at (w.Not e) h = inl (has_type bound want at (w.Not e) h)
fits bound want at (w.Bin op a b) h = inl (has_type bound want at (w.Bin op a b) h)
