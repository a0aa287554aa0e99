-- Types are read right.
use Rattle.std.proofs.Common.{◌≡◌, inl, inr, ℕ, List, [], ◌∷◌, ◌++◌, refl, ◌∙◌}
use Rattle.std.specs.Prelude.{⊤, codes}
use Rattle.c_syntax.specs.declared.kind.CType.{CType}
use Rattle.c_syntax.specs.declared.kind.CType.TheVariants as kind
use Rattle.c_syntax.specs.Text.{type_text, mangled_name}
use Rattle.pl_lexer.specs.Proper.{IsName}
use Rattle.pl_readers.specs.Language.{Language, Either, Nothing, Mapped}
use Rattle.pl_readers.specs.Reader.{either, nothing, mapped}
use Rattle.pl_readers.specs.Bytes.{is}
use Rattle.pl_readers.proofs.Correct.{Reads-either}
use Rattle.c_forms.specs.Reading.{after, ended_by, just}
use Rattle.c_forms.specs.Names.{is_name_byte, name}
use Rattle.c_forms.specs.ExprReaders.{i64_tail, bool_type, struct_type}
use Rattle.c_forms.proofs.WholeNames.{good_name}
use Rattle.c_forms.proofs.Spelling.{Spells, Good, Behind, same, good_behind, good_just, good_nothing, good_mapped, lit, fin, alt, last, begin_mapped, begin_spells, begin_just}

-- a type, or a pointer to it with a `*` behind it
abbrev OrPointer : CType → CType → Language ℕ CType
OrPointer plain pointer = Either (Spells (λ a. a ≡ pointer) (λ _. codes "*")) (Nothing plain)

good_or_pointer : (plain pointer : CType) → Good (OrPointer plain pointer) (is 42) (either (is 42) (just pointer (codes "*")) (nothing plain))
good_or_pointer plain pointer = record {
  reads = Reads-either (is 42) (Spells (λ a. a ≡ pointer) (λ _. codes "*")) (Spells (λ a. a ≡ pointer) (λ _. codes "*")) (Nothing plain) (Nothing plain) (is 42) (just pointer (codes "*")) (nothing plain)
      (good_just pointer (codes "*") (is 42)).reads (good_nothing plain (is 42)).reads
      (λ a text t. (42, [], t.1, refl)) (λ a text rest t e. rw t.0 e);
  some = (plain, [], inr (refl, refl));
}

-- the types that begin with a byte: as they are behind a front of it
abbrev pub IsI64 : CType → Type 0
IsI64 kind.I64 = ⊤
IsI64 kind.PtrI64 = ⊤
IsI64 _ = ⊥

abbrev pub i64_text : CType → List ℕ
i64_text kind.PtrI64 = codes "nt64_t *"
i64_text _ = codes "nt64_t "

pub good_i64 : Good (Spells IsI64 i64_text) (is 42) i64_tail
unfolding i64_tail
good_i64 = same (Behind (codes "nt64_t ") (OrPointer kind.I64 kind.PtrI64)) (Spells IsI64 i64_text) (is 42) i64_tail there back
    (good_behind (codes "nt64_t ") (OrPointer kind.I64 kind.PtrI64) (is 42) (either (is 42) (just kind.PtrI64 (codes "*")) (nothing kind.I64)) (good_or_pointer kind.I64 kind.PtrI64))
  where
    there : (t : CType) (text : List ℕ) → Behind (codes "nt64_t ") (OrPointer kind.I64 kind.PtrI64) t text → Spells IsI64 i64_text t text
    there t text (b, inl (e, h), k) = rw (e, k, h) (tt, refl)
    there t text (b, inr (h, e), k) = rw (e, k, h) (tt, refl)

    back : (t : CType) (text : List ℕ) → Spells IsI64 i64_text t text → Behind (codes "nt64_t ") (OrPointer kind.I64 kind.PtrI64) t text
    back kind.I64 text u = ([], inr (refl, refl), u.1)
    back kind.PtrI64 text u = (codes "*", inl (refl, refl), u.1)
    back kind.Void text u = absurd u.0
    back kind.Bool text u = absurd u.0
    back kind.PtrBool text u = absurd u.0
    back (kind.PtrStruct s) text u = absurd u.0
    back kind.PtrAtomic text u = absurd u.0
    back kind.PtrLock text u = absurd u.0

abbrev pub IsTruth : CType → Type 0
IsTruth kind.Bool = ⊤
IsTruth kind.PtrBool = ⊤
IsTruth _ = ⊥

pub good_bool : Good (Spells IsTruth type_text) (is 42) bool_type
unfolding bool_type
good_bool = same (Behind (codes "bool ") (OrPointer kind.Bool kind.PtrBool)) (Spells IsTruth type_text) (is 42) bool_type there back
    (good_behind (codes "bool ") (OrPointer kind.Bool kind.PtrBool) (is 42) (either (is 42) (just kind.PtrBool (codes "*")) (nothing kind.Bool)) (good_or_pointer kind.Bool kind.PtrBool))
  where
    there : (t : CType) (text : List ℕ) → Behind (codes "bool ") (OrPointer kind.Bool kind.PtrBool) t text → Spells IsTruth type_text t text
    there t text (b, inl (e, h), k) = rw (e, k, h) (tt, refl)
    there t text (b, inr (h, e), k) = rw (e, k, h) (tt, refl)

    back : (t : CType) (text : List ℕ) → Spells IsTruth type_text t text → Behind (codes "bool ") (OrPointer kind.Bool kind.PtrBool) t text
    back kind.Bool text u = ([], inr (refl, refl), u.1)
    back kind.PtrBool text u = (codes "*", inl (refl, refl), u.1)
    back kind.Void text u = absurd u.0
    back kind.I64 text u = absurd u.0
    back kind.PtrI64 text u = absurd u.0
    back (kind.PtrStruct s) text u = absurd u.0
    back kind.PtrAtomic text u = absurd u.0
    back kind.PtrLock text u = absurd u.0

abbrev pub IsStructured : CType → Type 0
IsStructured (kind.PtrStruct s) = IsName s
IsStructured kind.PtrLock = ⊤
IsStructured _ = ⊥

abbrev Structured : Language ℕ CType
Structured = Behind (codes "struct ") (Either (Mapped kind.PtrStruct (Spells IsName (λ s. codes "s_" ++ (mangled_name s ++ codes " *")))) (Spells (λ a. a ≡ kind.PtrLock) (λ _. codes "p_lock *")))

pub good_struct : Good (Spells IsStructured type_text) (is 42) struct_type
unfolding struct_type
good_struct = same Structured (Spells IsStructured type_text) (is 42) struct_type there back
    (good_behind (codes "struct ") (Either (Mapped kind.PtrStruct (Spells IsName (λ s. codes "s_" ++ (mangled_name s ++ codes " *")))) (Spells (λ a. a ≡ kind.PtrLock) (λ _. codes "p_lock *"))) (is 42)
    (either (is 115) (mapped kind.PtrStruct (after (codes "s_") (ended_by name (codes " *")))) (just kind.PtrLock (codes "p_lock *")))
    (alt 115 (112 ∷ []) (Mapped kind.PtrStruct (Spells IsName (λ s. codes "s_" ++ (mangled_name s ++ codes " *")))) (Spells (λ a. a ≡ kind.PtrLock) (λ _. codes "p_lock *")) (is 42)
    (mapped kind.PtrStruct (after (codes "s_") (ended_by name (codes " *")))) (just kind.PtrLock (codes "p_lock *")) refl
    (good_mapped IsName (λ s. codes "s_" ++ (mangled_name s ++ codes " *")) (is 42) (after (codes "s_") (ended_by name (codes " *"))) kind.PtrStruct
    (lit IsName (λ s. mangled_name s ++ codes " *") (is 42) (ended_by name (codes " *")) (codes "s_") (fin IsName mangled_name is_name_byte name (codes " *") (is 42) (λ rest. refl) good_name)))
    (begin_mapped (115 ∷ []) kind.PtrStruct (Spells IsName (λ s. codes "s_" ++ (mangled_name s ++ codes " *"))) (begin_spells 115 (codes "_") IsName (λ s. mangled_name s ++ codes " *")))
    (last (112 ∷ []) (Spells (λ a. a ≡ kind.PtrLock) (λ _. codes "p_lock *")) (is 42) (just kind.PtrLock (codes "p_lock *")) (good_just kind.PtrLock (codes "p_lock *") (is 42)) (begin_just 112 (codes "_lock *") kind.PtrLock))).good)
  where
    there : (t : CType) (text : List ℕ) → Structured t text → Spells IsStructured type_text t text
    there t text (b, inl u, k) = rw u.2 (u.1.0, k ∙ rw u.1.1 refl)
    there t text (b, inr (e, h), k) = rw (e, k, h) (tt, refl)

    back : (t : CType) (text : List ℕ) → Spells IsStructured type_text t text → Structured t text
    back (kind.PtrStruct s) text u = (codes "s_" ++ (mangled_name s ++ codes " *"), inl (s, (u.0, refl), refl), u.1)
    back kind.PtrLock text u = (codes "p_lock *", inr (refl, refl), u.1)
    back kind.Void text u = absurd u.0
    back kind.I64 text u = absurd u.0
    back kind.Bool text u = absurd u.0
    back kind.PtrI64 text u = absurd u.0
    back kind.PtrBool text u = absurd u.0
    back kind.PtrAtomic text u = absurd u.0
