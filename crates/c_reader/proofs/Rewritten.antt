-- What is read where nothing is a breach is written again as it was.
use Rattle.std.proofs.Common.{◌≡◌, ◌∙◌, ap, refl, ℕ, suc, ◌+◌, ◌==◌, ◌&&◌, Bool, true, false, cond, Option, Some, None, List, [], ◌∷◌, length, map, arith}
use Rattle.std.specs.Cmp.{unsigned_Decides}
use Rattle.std.specs.Prelude.{option_and_then}
use Rattle.std.specs.Str.{bytes_eq}
use Rattle.c_syntax.specs.declared.kind.CType.{CType}
use Rattle.c_syntax.specs.declared.kind.CType.TheVariants as kind
use Rattle.c_syntax.specs.declared.program.CMember.{CMember}
use Rattle.c_syntax.specs.declared.program.CParam.{CParam}
use Rattle.c_syntax.specs.Rules.{element, type_of, typed}
use Rattle.c_syntax.specs.Tree.{Name}
use Rattle.c_forms.specs.declared.word.Local.{Local}
use Rattle.c_forms.specs.declared.word.Number.{Number}
use Rattle.c_forms.specs.declared.word.Number.TheVariants.{Small, Long}
use Rattle.c_forms.specs.Text.{expr_text, local_text}
use Rattle.c_forms.specs.Tree as w
use Rattle.c_rules.specs.Lines.{argument_breaches}
use Rattle.c_rules.specs.Sorts.{Structs, behind, cell_breaches, field_breaches, fitting, inside, is_type, kind_at, local_of, local_wanted, members_at, number_of, or_else, own, pointed, unknown, unless, unless_some, wanted}
use Rattle.c_rules.proofs.ExprRules.{none_both}
use Rattle.c_reader.specs.Standing.{cell_of, expr_of}
use Rattle.c_reader.proofs.Breachless.{else_none, holds, there, type_is}
use Rattle.c_reader.proofs.Written as written

-- no local in scope has the number 0
abbrev pub Counted : List CParam → Type 0
Counted bound = (name : Name) → type_of bound (record { name = name; number = 0 }) ≡ None

-- a local is written again as it was
pub numbered : (x : Local) (n : ℕ) → number_of x.number ≡ suc n → written.local (local_of x) ≡ x
numbered x n h = ap (λ k. record { name = x.name; number = k }) (digits x.number h)
  where
    digits : (k : Number) → number_of k ≡ suc n → Small (number_of k) ≡ k
    digits (Small m) e = refl
    digits (Long ds) e = cc

in_scope : (bound : List CParam) → Counted bound → (name : Name) (k : Number) (type : CType) → type_of bound (record { name = name; number = number_of k }) ≡ Some type → Small (number_of k) ≡ k
in_scope bound c name (Small m) type h = refl
in_scope bound c name (Long ds) type h = let z = c name in cc

pub bound_local : (bound : List CParam) → Counted bound → (x : Local) (type : CType) → kind_at bound x ≡ Some type → written.local (local_of x) ≡ x
bound_local bound c x type h = ap (λ k. record { name = x.name; number = k }) (in_scope bound c x.name x.number type h)

-- ---- expressions

pub known_expr : (bound : List CParam) → Counted bound → (at : ℕ) (e : w.Expr) → unknown bound at e ≡ [] → written.expr (expr_of e) ≡ e
known_expr bound c at (w.Int n) h = refl
known_expr bound c at (w.Truth b) h = refl
known_expr bound c at w.Null h = refl
known_expr bound c at (w.Var x) h = let m = there (kind_at bound x) at h in ap w.Var (bound_local bound c x m.0 m.1)
known_expr bound c at (w.Neg e) h = ap w.Neg (known_expr bound c (at + 2) e h)
known_expr bound c at (w.Not e) h = ap w.Not (known_expr bound c (at + 2) e h)
known_expr bound c at (w.Bin op a b) h =
    let parts = none_both (unknown bound (at + 1) a) (unknown bound (behind op (at + 1) a) b) h in
    ap (λ x. w.Bin op x (written.expr (expr_of b))) (known_expr bound c (at + 1) a parts.0) ∙ ap (w.Bin op a) (known_expr bound c (behind op (at + 1) a) b parts.1)

pub wanted_expr : (bound : List CParam) → Counted bound → (want : CType) (at : ℕ) (e : w.Expr) → wanted bound want at e ≡ [] → written.expr (expr_of e) ≡ e
wanted_expr bound c want at e h = known_expr bound c at e (else_none (unknown bound at e) (or_else (inside bound at e) (unless (is_type want (own bound e)) at)) h).0

pub fitting_expr : (bound : List CParam) → Counted bound → (want : CType) (at : ℕ) (e : w.Expr) → fitting bound want at e ≡ [] → written.expr (expr_of e) ≡ e
fitting_expr bound c want at w.Null h = refl
fitting_expr bound c want at (w.Int n) h = refl
fitting_expr bound c want at (w.Truth b) h = refl
fitting_expr bound c want at (w.Var x) h = wanted_expr bound c want at (w.Var x) h
fitting_expr bound c want at (w.Neg e) h = wanted_expr bound c want at (w.Neg e) h
fitting_expr bound c want at (w.Not e) h = wanted_expr bound c want at (w.Not e) h
fitting_expr bound c want at (w.Bin op a b) h = wanted_expr bound c want at (w.Bin op a b) h

pub wanted_local : (bound : List CParam) → Counted bound → (want : CType) (at : ℕ) (x : Local) → local_wanted bound want at x ≡ [] → written.local (local_of x) ≡ x
wanted_local bound c want at x h = bound_local bound c x want (type_is want (kind_at bound x) (holds (is_type want (kind_at bound x)) at h))

-- ---- cells

-- what is there has a base
pub based : {A B : Type 0} (f : A → Option B) (o : Option A) (b : B) → option_and_then f o ≡ Some b → (a : A) × (o ≡ Some a)
based f None b h = cc
based f (Some a) b h = (a, refl)

field_base : (structs : Structs) (bound : List CParam) (base : Local) (o : Option (List CMember)) (member : Name) (at place : ℕ) → members_at structs bound base ≡ o →
    field_breaches o member at place ≡ [] → (type : CType) × (kind_at bound base ≡ Some type)
field_base structs bound base None member at place e h = cc
field_base structs bound base (Some ms) member at place e h =
    let s = based structs (option_and_then pointed (kind_at bound base)) ms e in
    based pointed (kind_at bound base) s.0 s.1

pub known_cell : (structs : Structs) (bound : List CParam) → Counted bound → (at : ℕ) (c : w.Cell) → cell_breaches structs bound at c ≡ [] → written.cell (cell_of c) ≡ c
known_cell structs bound k at (w.Whole base) h =
    let m = there (option_and_then element (kind_at bound base)) (at + 1) h in
    let b = based element (kind_at bound base) m.0 m.1 in
    ap w.Whole (bound_local bound k base b.0 b.1)
known_cell structs bound k at (w.At base index) h =
    let place = at + length (local_text base) + 1 in
    let parts = none_both (unless_some (option_and_then element (kind_at bound base)) at) (wanted bound kind.I64 place index) h in
    let m = there (option_and_then element (kind_at bound base)) at parts.0 in
    let b = based element (kind_at bound base) m.0 m.1 in
    ap (λ x. w.At x (written.expr (expr_of index))) (bound_local bound k base b.0 b.1) ∙ ap (w.At base) (wanted_expr bound k kind.I64 place index parts.1)
known_cell structs bound k at (w.Field base member) h =
    let b = field_base structs bound base (members_at structs bound base) member at (at + length (local_text base) + 2) refl h in
    ap (λ x. w.Field x member) (bound_local bound k base b.0 b.1)

-- ---- lists

pub known_args : (bound : List CParam) → Counted bound → (at : ℕ) (es : List w.Expr) (wants : List CType) → length es ≡ length wants → argument_breaches bound at es wants ≡ [] →
    map written.expr (map expr_of es) ≡ es
known_args bound c at [] wants l h = refl
known_args bound c at (e ∷ es) [] l h = cc
known_args bound c at (e ∷ es) (want ∷ wants) l h =
    let behind = at + length (expr_text e) + 2 in
    let parts = none_both (fitting bound want at e) (argument_breaches bound behind es wants) h in
    let l' : length es ≡ length wants = cc in
    ap (λ x. x ∷ map written.expr (map expr_of es)) (fitting_expr bound c want at e parts.0) ∙ ap (λ xs. e ∷ xs) (known_args bound c behind es wants l' parts.1)

-- ---- scopes

refused : (b : Bool) → (b ≡ true → ⊥) → b ≡ false
refused true h = absurd (h refl)
refused false h = refl

pub zero_apart : (n : ℕ) → (0 == suc n) ≡ false
zero_apart n = refused (0 == suc n) (λ h. let e : 0 ≡ suc n = (unsigned_Decides 0 (suc n)).0 h in absurd (omega arith))

pub no_zero : (name other : Name) (n : ℕ) (a b : Option CType) → b ≡ None → cond (bytes_eq name other && (0 == suc n)) a b ≡ None
no_zero name other n a b h =
    ap (λ t. cond (bytes_eq name other && t) a b) (zero_apart n) ∙ (elim (bytes_eq name other) as (λ t. cond (t && false) a b ≡ None) [ true ↦ h | false ↦ h ])

pub counted_more : (bound : List CParam) → Counted bound → (x : Name) (n : ℕ) (type : CType) → Counted (typed type (record { name = x; number = suc n }) ∷ bound)
counted_more bound c x n type name = no_zero name x n (Some type) (type_of bound (record { name = name; number = 0 })) (c name)
