-- An expression without breaches has the type that is wanted.
use Rattle.std.proofs.Common.{◌≡◌, ◌∙◌, sym, ap, refl, subst, ℕ, ◌+◌, Bool, true, false, cond, Option, Some, None, List, [], ◌∷◌, ◌++◌}
use Rattle.std.proofs.Common.{inl, inr}
use Rattle.std.specs.Str.{bytes_eq}
use Rattle.std.proofs.lemmas.Slice.Eq.{bytes_eq-Decides}
use Rattle.c_syntax.specs.declared.kind.CType.{CType}
use Rattle.c_syntax.specs.declared.kind.CType.TheVariants as c
use Rattle.c_rules.specs.Kinds.{same_type}

-- two types that the test takes for the same are the same
pub same_is : (a b : CType) → same_type a b ≡ true → a ≡ b
same_is c.Void c.Void h = refl
same_is c.I64 c.I64 h = refl
same_is c.Bool c.Bool h = refl
same_is c.PtrI64 c.PtrI64 h = refl
same_is c.PtrBool c.PtrBool h = refl
same_is (c.PtrStruct s) (c.PtrStruct t) h = ap c.PtrStruct ((bytes_eq-Decides s t).0 h)
same_is c.PtrAtomic c.PtrAtomic h = refl
same_is c.PtrLock c.PtrLock h = refl
same_is _ _ h = cc

-- none of these and of those
pub none_both : (xs ys : List ℕ) → xs ++ ys ≡ [] → (xs ≡ []) × (ys ≡ [])
none_both [] ys h = (refl, h)
none_both (x ∷ xs) ys h = cc
