-- Any types are read right.
use Rattle.std.proofs.Common.{◌≡◌, inl, inr, ℕ, List, [], ◌∷◌, ◌++◌, refl}
use Rattle.std.specs.Prelude.{⊤, codes}
use Rattle.c_syntax.specs.declared.kind.CType.{CType}
use Rattle.c_syntax.specs.declared.kind.CType.TheVariants as kind
use Rattle.c_syntax.specs.Text.{type_text, mangled_name}
use Rattle.pl_lexer.specs.Proper.{IsName}
use Rattle.pl_readers.specs.Language.{Language, Either}
use Rattle.pl_readers.specs.Reader.{either}
use Rattle.pl_readers.specs.Bytes.{is}
use Rattle.c_forms.specs.Reading.{after, just}
use Rattle.c_forms.specs.Forms.{IsTypeForm}
use Rattle.c_forms.specs.ExprReaders.{i64_tail, bool_type, struct_type, other_type, shown_type, any_type}
use Rattle.c_forms.proofs.ExprReads.{alts_same}
use Rattle.c_forms.proofs.TypeReads.{IsI64, i64_text, good_i64, IsTruth, good_bool, IsStructured, good_struct}
use Rattle.c_forms.proofs.Spelling.{Spells, Alts, Begin, good_just, lit, alt, last, begin_spells, begin_just}

pub begin_truth : Begin (98 ∷ []) (Spells IsTruth type_text)
begin_truth kind.Bool text u = (98, codes "ool ", u.1, refl)
begin_truth kind.PtrBool text u = (98, codes "ool *", u.1, refl)
begin_truth kind.Void text u = absurd u.0
begin_truth kind.I64 text u = absurd u.0
begin_truth kind.PtrI64 text u = absurd u.0
begin_truth (kind.PtrStruct s) text u = absurd u.0
begin_truth kind.PtrAtomic text u = absurd u.0
begin_truth kind.PtrLock text u = absurd u.0

pub begin_struct : Begin (115 ∷ []) (Spells IsStructured type_text)
begin_struct (kind.PtrStruct s) text u = (115, codes "truct s_" ++ mangled_name s ++ codes " *", u.1, refl)
begin_struct kind.PtrLock text u = (115, codes "truct p_lock *", u.1, refl)
begin_struct kind.Void text u = absurd u.0
begin_struct kind.I64 text u = absurd u.0
begin_struct kind.Bool text u = absurd u.0
begin_struct kind.PtrI64 text u = absurd u.0
begin_struct kind.PtrBool text u = absurd u.0
begin_struct kind.PtrAtomic text u = absurd u.0

-- a type but `void`, `int64_t` and pointers to that
abbrev pub IsOther : CType → Type 0
IsOther kind.Void = ⊥
IsOther kind.I64 = ⊥
IsOther kind.PtrI64 = ⊥
IsOther (kind.PtrStruct s) = IsName s
IsOther _ = ⊤

abbrev Atomic : Language ℕ CType
Atomic = Spells (λ a. a ≡ kind.PtrAtomic) (λ _. codes "p_atomic *")

abbrev OtherParts : Language ℕ CType
OtherParts = Either (Spells IsTruth type_text) (Either Atomic (Spells IsStructured type_text))

other_there : (t : CType) (text : List ℕ) → OtherParts t text → Spells IsOther type_text t text
other_there kind.Bool text (inl u) = (tt, u.1)
other_there kind.PtrBool text (inl u) = (tt, u.1)
other_there kind.Void text (inl u) = absurd u.0
other_there kind.I64 text (inl u) = absurd u.0
other_there kind.PtrI64 text (inl u) = absurd u.0
other_there (kind.PtrStruct s) text (inl u) = absurd u.0
other_there kind.PtrAtomic text (inl u) = absurd u.0
other_there kind.PtrLock text (inl u) = absurd u.0
other_there t text (inr (inl u)) = rw u.0 (tt, u.1)
other_there kind.Bool text (inr (inr u)) = absurd u.0
other_there kind.PtrBool text (inr (inr u)) = absurd u.0
other_there kind.Void text (inr (inr u)) = absurd u.0
other_there kind.I64 text (inr (inr u)) = absurd u.0
other_there kind.PtrI64 text (inr (inr u)) = absurd u.0
other_there (kind.PtrStruct s) text (inr (inr u)) = u
other_there kind.PtrAtomic text (inr (inr u)) = absurd u.0
other_there kind.PtrLock text (inr (inr u)) = u

other_back : (t : CType) (text : List ℕ) → Spells IsOther type_text t text → OtherParts t text
other_back kind.Bool text u = inl u
other_back kind.PtrBool text u = inl u
other_back kind.Void text u = absurd u.0
other_back kind.I64 text u = absurd u.0
other_back kind.PtrI64 text u = absurd u.0
other_back (kind.PtrStruct s) text u = inr (inr u)
other_back kind.PtrAtomic text u = inr (inl (refl, u.1))
other_back kind.PtrLock text u = inr (inr u)

pub alts_other : Alts (98 ∷ 112 ∷ 115 ∷ []) (Spells IsOther type_text) (is 42) other_type
unfolding other_type
alts_other = alts_same (98 ∷ 112 ∷ 115 ∷ []) OtherParts (Spells IsOther type_text) (is 42) other_type other_there other_back
    (alt 98 (112 ∷ 115 ∷ []) (Spells IsTruth type_text) (Either Atomic (Spells IsStructured type_text)) (is 42) bool_type (either (is 112) (just kind.PtrAtomic (codes "p_atomic *")) struct_type) refl good_bool begin_truth
    (alt 112 (115 ∷ []) Atomic (Spells IsStructured type_text) (is 42) (just kind.PtrAtomic (codes "p_atomic *")) struct_type refl
    (good_just kind.PtrAtomic (codes "p_atomic *") (is 42)) (begin_just 112 (codes "_atomic *") kind.PtrAtomic)
    (last (115 ∷ []) (Spells IsStructured type_text) (is 42) struct_type good_struct begin_struct)))

-- a type but `void`
abbrev pub IsShown : CType → Type 0
IsShown kind.Void = ⊥
IsShown (kind.PtrStruct s) = IsName s
IsShown _ = ⊤

abbrev I64Parts : Language ℕ CType
I64Parts = Spells IsI64 (λ t. codes "i" ++ i64_text t)

shown_there : (t : CType) (text : List ℕ) → Either I64Parts (Spells IsOther type_text) t text → Spells IsShown type_text t text
shown_there kind.I64 text (inl u) = (tt, u.1)
shown_there kind.PtrI64 text (inl u) = (tt, u.1)
shown_there kind.Bool text (inl u) = absurd u.0
shown_there kind.PtrBool text (inl u) = absurd u.0
shown_there kind.Void text (inl u) = absurd u.0
shown_there (kind.PtrStruct s) text (inl u) = absurd u.0
shown_there kind.PtrAtomic text (inl u) = absurd u.0
shown_there kind.PtrLock text (inl u) = absurd u.0
shown_there kind.I64 text (inr u) = absurd u.0
shown_there kind.PtrI64 text (inr u) = absurd u.0
shown_there kind.Bool text (inr u) = u
shown_there kind.PtrBool text (inr u) = u
shown_there kind.Void text (inr u) = absurd u.0
shown_there (kind.PtrStruct s) text (inr u) = u
shown_there kind.PtrAtomic text (inr u) = u
shown_there kind.PtrLock text (inr u) = u

shown_back : (t : CType) (text : List ℕ) → Spells IsShown type_text t text → Either I64Parts (Spells IsOther type_text) t text
shown_back kind.I64 text u = inl u
shown_back kind.PtrI64 text u = inl u
shown_back kind.Bool text u = inr u
shown_back kind.PtrBool text u = inr u
shown_back kind.Void text u = absurd u.0
shown_back (kind.PtrStruct s) text u = inr u
shown_back kind.PtrAtomic text u = inr u
shown_back kind.PtrLock text u = inr u

pub alts_shown : Alts (105 ∷ 98 ∷ 112 ∷ 115 ∷ []) (Spells IsShown type_text) (is 42) shown_type
unfolding shown_type
alts_shown = alts_same (105 ∷ 98 ∷ 112 ∷ 115 ∷ []) (Either I64Parts (Spells IsOther type_text)) (Spells IsShown type_text) (is 42) shown_type shown_there shown_back
    (alt 105 (98 ∷ 112 ∷ 115 ∷ []) I64Parts (Spells IsOther type_text) (is 42) (after (codes "i") i64_tail) other_type refl
    (lit IsI64 i64_text (is 42) i64_tail (codes "i") good_i64) (begin_spells 105 [] IsI64 i64_text) alts_other)

abbrev VoidParts : Language ℕ CType
VoidParts = Spells (λ a. a ≡ kind.Void) (λ _. codes "void ")

any_there : (t : CType) (text : List ℕ) → Either VoidParts (Spells IsShown type_text) t text → Spells IsTypeForm type_text t text
any_there t text (inl u) = rw u.0 (tt, u.1)
any_there kind.I64 text (inr u) = u
any_there kind.PtrI64 text (inr u) = u
any_there kind.Bool text (inr u) = u
any_there kind.PtrBool text (inr u) = u
any_there kind.Void text (inr u) = absurd u.0
any_there (kind.PtrStruct s) text (inr u) = u
any_there kind.PtrAtomic text (inr u) = u
any_there kind.PtrLock text (inr u) = u

any_back : (t : CType) (text : List ℕ) → Spells IsTypeForm type_text t text → Either VoidParts (Spells IsShown type_text) t text
any_back kind.I64 text u = inr u
any_back kind.PtrI64 text u = inr u
any_back kind.Bool text u = inr u
any_back kind.PtrBool text u = inr u
any_back kind.Void text u = inl (refl, u.1)
any_back (kind.PtrStruct s) text u = inr u
any_back kind.PtrAtomic text u = inr u
any_back kind.PtrLock text u = inr u

pub alts_any : Alts (118 ∷ 105 ∷ 98 ∷ 112 ∷ 115 ∷ []) (Spells IsTypeForm type_text) (is 42) any_type
unfolding any_type
alts_any = alts_same (118 ∷ 105 ∷ 98 ∷ 112 ∷ 115 ∷ []) (Either VoidParts (Spells IsShown type_text)) (Spells IsTypeForm type_text) (is 42) any_type any_there any_back
    (alt 118 (105 ∷ 98 ∷ 112 ∷ 115 ∷ []) VoidParts (Spells IsShown type_text) (is 42) (just kind.Void (codes "void ")) shown_type refl
    (good_just kind.Void (codes "void ") (is 42)) (begin_just 118 (codes "oid ") kind.Void) alts_shown)
