-- What holds where there is no breach, for the words that breaches are made of.
use Rattle.std.proofs.Common.{◌≡◌, ◌∙◌, sym, ap, refl, ℕ, Bool, true, false, Option, Some, None, List, [], ◌∷◌, ◌++◌}
use Rattle.std.proofs.lemmas.Slice.Eq.{bytes_eq-Decides}
use Rattle.c_syntax.specs.declared.kind.CType.{CType}
use Rattle.c_syntax.specs.declared.kind.CType.TheVariants as kind
use Rattle.c_syntax.specs.Rules.{IsNullable, IsPointer}
use Rattle.c_rules.specs.Kinds.{same_type, is_nullable, is_pointer}
use Rattle.c_rules.specs.Sorts.{unless, unless_some, or_else, is_type}
use Rattle.c_rules.proofs.ExprRules.{same_is}

-- none in front, and none behind
pub else_none : (xs ys : List ℕ) → or_else xs ys ≡ [] → (xs ≡ []) × (ys ≡ [])
else_none [] ys h = (refl, h)
else_none (x ∷ xs) ys h = cc

pub else_join : (xs ys : List ℕ) → xs ≡ [] → ys ≡ [] → or_else xs ys ≡ []
else_join [] ys h k = k
else_join (x ∷ xs) ys h k = cc

pub join_none : (xs ys : List ℕ) → xs ≡ [] → ys ≡ [] → xs ++ ys ≡ []
join_none [] ys h k = k
join_none (x ∷ xs) ys h k = cc

pub holds : (b : Bool) (at : ℕ) → unless b at ≡ [] → b ≡ true
holds true at h = refl
holds false at h = cc

pub no_breach : (b : Bool) (at : ℕ) → b ≡ true → unless b at ≡ []
no_breach true at h = refl
no_breach false at h = cc

pub there : {X : Type 0} (o : Option X) (at : ℕ) → unless_some o at ≡ [] → (x : X) × (o ≡ Some x)
there None at h = cc
there (Some x) at h = (x, refl)

pub some_there : {X : Type 0} (o : Option X) (x : X) (at : ℕ) → o ≡ Some x → unless_some o at ≡ []
some_there None x at h = cc
some_there (Some y) x at h = refl

-- the tests on types
pub same_self : (a : CType) → same_type a a ≡ true
same_self kind.Void = refl
same_self kind.I64 = refl
same_self kind.Bool = refl
same_self kind.PtrI64 = refl
same_self kind.PtrBool = refl
same_self (kind.PtrStruct s) = (bytes_eq-Decides s s).1 refl
same_self kind.PtrAtomic = refl
same_self kind.PtrLock = refl

pub same_from : (a b : CType) → a ≡ b → same_type a b ≡ true
same_from a b h = sym (ap (same_type a) h) ∙ same_self a

pub type_is : (want : CType) (o : Option CType) → is_type want o ≡ true → o ≡ Some want
type_is want None h = cc
type_is want (Some t) h = ap Some (same_is t want h)

pub is_its_type : (want : CType) (o : Option CType) → o ≡ Some want → is_type want o ≡ true
is_its_type want o h = ap (is_type want) h ∙ same_self want

pub nullable : (t : CType) → is_nullable t ≡ true → IsNullable t
nullable kind.Void h = cc
nullable kind.I64 h = cc
nullable kind.Bool h = cc
nullable kind.PtrI64 h = tt
nullable kind.PtrBool h = tt
nullable (kind.PtrStruct s) h = tt
nullable kind.PtrAtomic h = cc
nullable kind.PtrLock h = cc

pub is_null : (t : CType) → IsNullable t → is_nullable t ≡ true
is_null kind.Void h = absurd h
is_null kind.I64 h = absurd h
is_null kind.Bool h = absurd h
is_null kind.PtrI64 h = refl
is_null kind.PtrBool h = refl
is_null (kind.PtrStruct s) h = refl
is_null kind.PtrAtomic h = absurd h
is_null kind.PtrLock h = absurd h

pub pointer : (t : CType) → is_pointer t ≡ true → IsPointer t
pointer kind.Void h = cc
pointer kind.I64 h = cc
pointer kind.Bool h = cc
pointer kind.PtrI64 h = tt
pointer kind.PtrBool h = tt
pointer (kind.PtrStruct s) h = tt
pointer kind.PtrAtomic h = tt
pointer kind.PtrLock h = tt

pub points : (t : CType) → IsPointer t → is_pointer t ≡ true
points kind.Void h = absurd h
points kind.I64 h = absurd h
points kind.Bool h = absurd h
points kind.PtrI64 h = refl
points kind.PtrBool h = refl
points (kind.PtrStruct s) h = refl
points kind.PtrAtomic h = refl
points kind.PtrLock h = refl
