-- Right sides are read right.
use Rattle.std.proofs.Common.{◌≡◌, inl, inr, ℕ, Bool, true, false, List, [], ◌∷◌, ◌++◌, map, refl, sym, ap, ◌∙◌, append_assoc}
use Rattle.std.specs.Prelude.{◌&&◌, ◌||◌, ◌==◌, codes}
use Rattle.std.specs.Char.{is_ascii_digit}
use Rattle.std.proofs.lemmas.Bool.{eqb-true, or_parts, or_right}
use Rattle.std.proofs.lemmas.List.{append-nil}
use Rattle.c_syntax.specs.declared.kind.CType.{CType}
use Rattle.c_syntax.specs.declared.kind.CType.TheVariants as kind
use Rattle.c_syntax.specs.Text.{mangled_name, commas}
use Rattle.pl_lexer.specs.Proper.{IsName}
use Rattle.pl_readers.specs.Language.{Language, Then, Either, Nothing, Mapped}
use Rattle.pl_readers.specs.Reader.{Reader, begins, either, next, nothing, mapped}
use Rattle.pl_readers.specs.Reads.{Ends}
use Rattle.pl_readers.specs.Bytes.{is}
use Rattle.pl_readers.proofs.Correct.{Reads-either, ends_less}
use Rattle.c_forms.specs.declared.word.Local.{Local}
use Rattle.c_forms.specs.declared.stmt.Maker.TheVariants as maker
use Rattle.c_forms.specs.Reading.{among, after, ended_by, both, just}
use Rattle.c_forms.specs.Names.{is_name_byte, name}
use Rattle.c_forms.specs.Text.{expr_text, local_text, call_text, right_text}
use Rattle.c_forms.specs.Forms.{IsExprForm, IsCallForm, IsLocalForm, IsRightForm}
use Rattle.c_forms.specs.Tree as t
use Rattle.c_forms.specs.Tree.{Name, Expr, Right}
use Rattle.c_forms.specs.ExprReaders.{int, plain, expr, local, call}
use Rattle.c_forms.specs.StmtReaders.{right_behind, right_f, right_new, right_array, right_cas, right_p, right_value, right_atomic, right, is_i64, is_bool}
use Rattle.c_forms.proofs.WholeNames.{good_name}
use Rattle.c_forms.proofs.WordReads.{local_end, good_local}
use Rattle.c_forms.proofs.ExprReads.{IsOwn, alts_same, alts_own, alts_expr}
use Rattle.c_forms.proofs.CallReads.{call_end, good_call, digit_is_name, index_text, field_text}
use Rattle.c_forms.proofs.Spelling.{Spells, Good, Alts, Begin, Behind, When, before, at_any, among_has, alt_when, good_behind, good_just, good_nothing, good_mapped, good_then, lit, fin, pair, alt, last, begin_mapped, begin_spells, begin_behind, begin_just}

-- an alternative that is there only sometimes, in front of others
module _ {A : Type 0} (b : Bool) (c : ℕ) (ks : List ℕ) (T U : Language ℕ A) (g : ℕ → Bool) (P Q : Reader ℕ A) (apart : among ks c ≡ false) where
  not_c : (x : ℕ) → among ks x ≡ true → (same_byte : Bool) → (x == c) ≡ same_byte → same_byte ≡ false
  not_c x h false e = refl
  not_c x h true e = let s = eqb-true x c e in let k : false ≡ true = sym apart ∙ ap (among ks) (sym s) ∙ h in absurd cc

  only_c : (same_byte : Bool) → (same_byte || false) ≡ true → same_byte ≡ true
  only_c true e = refl
  only_c false e = e

  pub alt_if : (b ≡ true → Good T g P) → Begin (c ∷ []) T → Alts ks U g Q → Alts (c ∷ ks) (Either (When b T) U) g (either (λ x. b && (x == c)) P Q)
  alt_if p begin q = record {
    good = alt_when (λ x. x == c) T U g P Q (λ a text u. let w = begin a text u in (w.0, w.1, w.2, only_c (w.0 == c) w.3))
        (λ a text rest u e. let w = q.begin a text u in rw w.2 (not_c w.0 w.3 (w.0 == c) refl)) b p q.good;
    begin = λ a text u. elim u [
      | inl v ↦ let w = begin a text v.1 in (w.0, w.1, w.2, among_has ks c w.0 (only_c (w.0 == c) w.3))
      | inr v ↦ let w = q.begin a text v in (w.0, w.1, w.2, or_right (w.0 == c) (among ks w.0) w.3)
    ];
  }

-- ---- what a function of the prelude gives

abbrev made_text : List ℕ → Expr → List ℕ
made_text s e = s ++ (expr_text e ++ codes ")")

good_made : (s : List ℕ) (g : ℕ → Bool) → Good (Spells IsExprForm (made_text s)) g (after s (ended_by expr (codes ")")))
good_made s g = lit IsExprForm (λ e. expr_text e ++ codes ")") g (ended_by expr (codes ")")) s (fin IsExprForm expr_text is_ascii_digit expr (codes ")") g (λ rest. refl) alts_expr.good)

abbrev pub Made : Language ℕ Right
Made = Behind (codes "new_") (Either (Mapped (t.New maker.I64) (Spells IsExprForm (made_text (codes "i64("))))
    (Either (Mapped (t.New maker.Bool) (Spells IsExprForm (made_text (codes "bool(")))) (Mapped (t.New maker.Atomic) (Spells IsExprForm (made_text (codes "atomic("))))))

pub good_right_new : (g : ℕ → Bool) → Good Made g right_new
unfolding right_new
good_right_new g = good_behind (codes "new_") _ g _
    (alt 105 (98 ∷ 97 ∷ []) (Mapped (t.New maker.I64) (Spells IsExprForm (made_text (codes "i64(")))) _ g (mapped (t.New maker.I64) (after (codes "i64(") (ended_by expr (codes ")")))) _ refl
    (good_mapped IsExprForm (made_text (codes "i64(")) g (after (codes "i64(") (ended_by expr (codes ")"))) (t.New maker.I64) (good_made (codes "i64(") g))
    (begin_mapped (105 ∷ []) (t.New maker.I64) (Spells IsExprForm (made_text (codes "i64("))) (begin_spells 105 (codes "64(") IsExprForm (λ e. expr_text e ++ codes ")")))
    (alt 98 (97 ∷ []) (Mapped (t.New maker.Bool) (Spells IsExprForm (made_text (codes "bool(")))) _ g (mapped (t.New maker.Bool) (after (codes "bool(") (ended_by expr (codes ")")))) _ refl
    (good_mapped IsExprForm (made_text (codes "bool(")) g (after (codes "bool(") (ended_by expr (codes ")"))) (t.New maker.Bool) (good_made (codes "bool(") g))
    (begin_mapped (98 ∷ []) (t.New maker.Bool) (Spells IsExprForm (made_text (codes "bool("))) (begin_spells 98 (codes "ool(") IsExprForm (λ e. expr_text e ++ codes ")")))
    (last (97 ∷ []) (Mapped (t.New maker.Atomic) (Spells IsExprForm (made_text (codes "atomic(")))) g (mapped (t.New maker.Atomic) (after (codes "atomic(") (ended_by expr (codes ")"))))
    (good_mapped IsExprForm (made_text (codes "atomic(")) g (after (codes "atomic(") (ended_by expr (codes ")"))) (t.New maker.Atomic) (good_made (codes "atomic(") g))
    (begin_mapped (97 ∷ []) (t.New maker.Atomic) (Spells IsExprForm (made_text (codes "atomic("))) (begin_spells 97 (codes "tomic(") IsExprForm (λ e. expr_text e ++ codes ")")))))).good

-- two values in brackets, the first behind a word
abbrev two_text : Expr × Expr → List ℕ
two_text p = expr_text p.0 ++ (codes ", " ++ (expr_text p.1 ++ codes ")"))

abbrev AreExprs : Expr × Expr → Type 0
AreExprs p = IsExprForm p.0 × IsExprForm p.1

good_two : (g : ℕ → Bool) → Good (Spells AreExprs two_text) g (both expr (after (codes ", ") (ended_by expr (codes ")"))))
good_two g = pair IsExprForm expr_text is_ascii_digit expr IsExprForm (λ e. codes ", " ++ (expr_text e ++ codes ")")) g (after (codes ", ") (ended_by expr (codes ")"))) (λ e rest u h. refl) alts_expr.good
    (lit IsExprForm (λ e. expr_text e ++ codes ")") g (ended_by expr (codes ")")) (codes ", ") (fin IsExprForm expr_text is_ascii_digit expr (codes ")") g (λ rest. refl) alts_expr.good))

abbrev pub ArrayMade : Language ℕ Right
ArrayMade = Mapped (λ p. t.Array p.0 p.1) (Spells AreExprs (λ p. codes "array(" ++ two_text p))

pub good_right_array : (g : ℕ → Bool) → Good ArrayMade g right_array
unfolding right_array
good_right_array g = good_mapped AreExprs (λ p. codes "array(" ++ two_text p) g (after (codes "array(") (both expr (after (codes ", ") (ended_by expr (codes ")"))))) (λ p. t.Array p.0 p.1)
    (lit AreExprs two_text g (both expr (after (codes ", ") (ended_by expr (codes ")")))) (codes "array(") (good_two g))

-- a compare-and-swap
abbrev CasForm : Local × (Expr × Expr) → Type 0
CasForm p = IsLocalForm p.0 × AreExprs p.1

abbrev cas_text : Local × (Expr × Expr) → List ℕ
cas_text p = local_text p.0 ++ (codes ", " ++ two_text p.1)

abbrev pub CasMade : Language ℕ Right
CasMade = Mapped (λ p. t.Cas p.0 p.1.0 p.1.1) (Spells CasForm (λ p. codes "cas(" ++ cas_text p))

good_right_cas : (g : ℕ → Bool) → Good CasMade g right_cas
unfolding right_cas
good_right_cas g = good_mapped CasForm (λ p. codes "cas(" ++ cas_text p) g (after (codes "cas(") (both local (after (codes ", ") (both expr (after (codes ", ") (ended_by expr (codes ")"))))))) (λ p. t.Cas p.0 p.1.0 p.1.1)
    (lit CasForm cas_text g (both local (after (codes ", ") (both expr (after (codes ", ") (ended_by expr (codes ")")))))) (codes "cas(")
    (pair IsLocalForm local_text is_ascii_digit local AreExprs (λ p. codes ", " ++ two_text p) g (after (codes ", ") (both expr (after (codes ", ") (ended_by expr (codes ")"))))) (λ p rest u h. refl) good_local
    (lit AreExprs two_text g (both expr (after (codes ", ") (ended_by expr (codes ")")))) (codes ", ") (good_two g))))

-- ---- what a function of the prelude gives, by the type

abbrev StructureMade : Language ℕ Right
StructureMade = Mapped t.Structure (Spells IsName (λ s. codes "get(sizeof(struct s_" ++ (mangled_name s ++ codes "))")))

abbrev ReadMade : Language ℕ Right
ReadMade = Spells (λ r. r ≡ t.Read) (λ _. codes "read()")

abbrev LockMade : Language ℕ Right
LockMade = Spells (λ r. r ≡ t.Lock) (λ _. codes "lock_new()")

abbrev PreludeMade : CType → Language ℕ Right
PreludeMade type = Behind (codes "p_") (Either Made (Either ArrayMade (Either StructureMade (Either (When (is_i64 type) ReadMade) (Either (When (is_bool type) CasMade) LockMade)))))

good_right_p : (type : CType) (g : ℕ → Bool) → Good (PreludeMade type) g (right_p type)
unfolding right_p
good_right_p type g = good_behind (codes "p_") (Either Made (Either ArrayMade (Either StructureMade (Either (When (is_i64 type) ReadMade) (Either (When (is_bool type) CasMade) LockMade))))) g _
    (alt 110 (97 ∷ 103 ∷ 114 ∷ 99 ∷ 108 ∷ []) Made _ g right_new _ refl (good_right_new g) (begin_behind 110 (codes "ew_") _)
    (alt 97 (103 ∷ 114 ∷ 99 ∷ 108 ∷ []) ArrayMade _ g right_array _ refl (good_right_array g) (begin_mapped (97 ∷ []) (λ p. t.Array p.0 p.1) (Spells AreExprs (λ p. codes "array(" ++ two_text p)) (begin_spells 97 (codes "rray(") AreExprs two_text))
    (alt 103 (114 ∷ 99 ∷ 108 ∷ []) StructureMade _ g (mapped t.Structure (after (codes "get(sizeof(struct s_") (ended_by name (codes "))")))) _ refl
    (good_mapped IsName (λ s. codes "get(sizeof(struct s_" ++ (mangled_name s ++ codes "))")) g (after (codes "get(sizeof(struct s_") (ended_by name (codes "))"))) t.Structure
    (lit IsName (λ s. mangled_name s ++ codes "))") g (ended_by name (codes "))")) (codes "get(sizeof(struct s_") (fin IsName mangled_name is_name_byte name (codes "))") g (λ rest. refl) good_name)))
    (begin_mapped (103 ∷ []) t.Structure (Spells IsName (λ s. codes "get(sizeof(struct s_" ++ (mangled_name s ++ codes "))"))) (begin_spells 103 (codes "et(sizeof(struct s_") IsName (λ s. mangled_name s ++ codes "))")))
    (alt_if (is_i64 type) 114 (99 ∷ 108 ∷ []) ReadMade (Either (When (is_bool type) CasMade) LockMade) g (just t.Read (codes "read()")) (either (λ c. is_bool type && (c == 99)) right_cas (just t.Lock (codes "lock_new()"))) refl
    (λ e. good_just t.Read (codes "read()") g) (begin_just 114 (codes "ead()") t.Read)
    (alt_if (is_bool type) 99 (108 ∷ []) CasMade LockMade g right_cas (just t.Lock (codes "lock_new()")) refl
    (λ e. good_right_cas g) (begin_mapped (99 ∷ []) (λ p. t.Cas p.0 p.1.0 p.1.1) (Spells CasForm (λ p. codes "cas(" ++ cas_text p)) (begin_spells 99 (codes "as(") CasForm cas_text))
    (last (108 ∷ []) LockMade g (just t.Lock (codes "lock_new()")) (good_just t.Lock (codes "lock_new()") g) (begin_just 108 (codes "ock_new()") t.Lock))))))).good

-- ---- a call or `false`

abbrev CallForm : Name × List Expr → Type 0
CallForm c = IsCallForm c.0 c.1

abbrev Called : Language ℕ Right
Called = Mapped (λ p. t.Call p.0 p.1) (Spells CallForm (λ c. codes "_" ++ call_end c))

abbrev False : Language ℕ Right
False = Spells (λ r. r ≡ t.Value (t.Truth false)) (λ _. codes "alse")

abbrev CallOrFalse : Language ℕ Right
CallOrFalse = Behind (codes "f") (Either Called False)

good_right_f : (g : ℕ → Bool) → Good CallOrFalse g right_f
unfolding right_f
good_right_f g = good_behind (codes "f") (Either Called False) g (either (is 95) (mapped (λ p. t.Call p.0 p.1) (after (codes "_") call)) (just (t.Value (t.Truth false)) (codes "alse")))
    (alt 95 (97 ∷ []) Called False g (mapped (λ p. t.Call p.0 p.1) (after (codes "_") call)) (just (t.Value (t.Truth false)) (codes "alse")) refl
    (good_mapped CallForm (λ c. codes "_" ++ call_end c) g (after (codes "_") call) (λ p. t.Call p.0 p.1) (lit CallForm call_end g call (codes "_") (at_any (Spells CallForm call_end) g call good_call)))
    (begin_mapped (95 ∷ []) (λ p. t.Call p.0 p.1) (Spells CallForm (λ c. codes "_" ++ call_end c)) (begin_spells 95 [] CallForm call_end))
    (last (97 ∷ []) False g (just (t.Value (t.Truth false)) (codes "alse")) (good_just (t.Value (t.Truth false)) (codes "alse") g) (begin_just 97 (codes "lse") (t.Value (t.Truth false))))).good

-- ---- a value, or a cell that begins with a local

-- with such a byte a right side may go on
abbrev pub right_goes : ℕ → Bool
right_goes x = is_name_byte x || ((x == 91) || (x == 45))

not_name : (x : ℕ) → right_goes x ≡ false → is_name_byte x ≡ false
not_name x h = (or_parts (is_name_byte x) ((x == 91) || (x == 45)) h).0

not_index : (x : ℕ) → right_goes x ≡ false → (x == 91) ≡ false
not_index x h = (or_parts (x == 91) (x == 45) (or_parts (is_name_byte x) ((x == 91) || (x == 45)) h).1).0

not_field : (x : ℕ) → right_goes x ≡ false → (x == 45) ≡ false
not_field x h = (or_parts (x == 91) (x == 45) (or_parts (is_name_byte x) ((x == 91) || (x == 45)) h).1).1

module _ (x : Local) where
  abbrev AtLoad : Language ℕ Right
  AtLoad = Mapped (λ e. t.Load (t.At x e)) (Spells IsExprForm (λ e. codes "[" ++ (expr_text e ++ codes "]")))

  abbrev FieldLoad : Language ℕ Right
  FieldLoad = Mapped (λ m. t.Load (t.Field x m)) (Spells IsName (λ m. codes "->m_" ++ mangled_name m))

  abbrev Itself : Language ℕ Right
  Itself = Nothing (t.Value (t.Var x))

  good_field : Good FieldLoad right_goes (mapped (λ m. t.Load (t.Field x m)) (after (codes "->m_") name))
  good_field = good_mapped IsName (λ m. codes "->m_" ++ mangled_name m) right_goes (after (codes "->m_") name) (λ m. t.Load (t.Field x m))
      (lit IsName mangled_name right_goes name (codes "->m_") (before (Spells IsName mangled_name) is_name_byte right_goes name not_name good_name))

  good_at : Good AtLoad right_goes (mapped (λ e. t.Load (t.At x e)) (after (codes "[") (ended_by expr (codes "]"))))
  good_at = good_mapped IsExprForm (λ e. codes "[" ++ (expr_text e ++ codes "]")) right_goes (after (codes "[") (ended_by expr (codes "]"))) (λ e. t.Load (t.At x e))
      (lit IsExprForm (λ e. expr_text e ++ codes "]") right_goes (ended_by expr (codes "]")) (codes "[") (fin IsExprForm expr_text is_ascii_digit expr (codes "]") right_goes (λ rest. refl) alts_expr.good))

  good_field_or : Good (Either FieldLoad Itself) right_goes (either (is 45) (mapped (λ m. t.Load (t.Field x m)) (after (codes "->m_") name)) (nothing (t.Value (t.Var x))))
  good_field_or = record {
    reads = Reads-either (is 45) FieldLoad FieldLoad Itself Itself right_goes (mapped (λ m. t.Load (t.Field x m)) (after (codes "->m_") name)) (nothing (t.Value (t.Var x)))
        good_field.reads (good_nothing (t.Value (t.Var x)) right_goes).reads
        (λ a text u. (45, codes ">m_" ++ mangled_name u.0, u.1.1, refl))
        (λ a text rest u h. rw u.0 (ends_less (is 45) right_goes not_field rest h));
    some = (t.Value (t.Var x), [], inr (refl, refl));
  }

  not_at : (r : Right) (text rest : List ℕ) → Either FieldLoad Itself r text → Ends right_goes rest → begins (is 91) (text ++ rest) ≡ false
  not_at r text rest (inl u) h = rw u.1.1 refl
  not_at r text rest (inr u) h = rw u.0 (ends_less (is 91) right_goes not_index rest h)

  good_behind_x : Good (Either AtLoad (Either FieldLoad Itself)) right_goes (right_behind x)
  unfolding right_behind
  good_behind_x = record {
    reads = Reads-either (is 91) AtLoad AtLoad (Either FieldLoad Itself) (Either FieldLoad Itself) right_goes (mapped (λ e. t.Load (t.At x e)) (after (codes "[") (ended_by expr (codes "]")))) _
        good_at.reads good_field_or.reads
        (λ a text u. (91, expr_text u.0 ++ codes "]", u.1.1, refl))
        not_at;
    some = (t.Value (t.Var x), [], inr (inr (refl, refl)));
  }

  side_follow : (r : Right) (back rest : List ℕ) → Either AtLoad (Either FieldLoad Itself) r back → Ends right_goes rest → Ends is_ascii_digit (back ++ rest)
  side_follow r back rest (inl u) h = rw u.1.1 refl
  side_follow r back rest (inr (inl u)) h = rw u.1.1 refl
  side_follow r back rest (inr (inr u)) h = rw u.0 (ends_less is_ascii_digit right_goes (λ c k. digit_is_name c (not_name c k)) rest h)

abbrev FromLocal : Language ℕ Right
FromLocal = Then (Spells IsLocalForm local_text) (λ x. Either (AtLoad x) (Either (FieldLoad x) (Itself x)))

abbrev OwnValue : Language ℕ Right
OwnValue = Mapped t.Value (Spells (λ e. IsOwn e × IsExprForm e) expr_text)

from_local_begins : Begin (118 ∷ []) FromLocal
from_local_begins r text u = (118, (codes "_" ++ local_end u.0) ++ u.2, u.5 ∙ rw u.3.1 refl, refl)

alts_value : Alts (118 ∷ 73 ∷ 40 ∷ 116 ∷ 78 ∷ []) (Either FromLocal OwnValue) right_goes right_value
unfolding right_value
alts_value = alt 118 (73 ∷ 40 ∷ 116 ∷ 78 ∷ []) FromLocal OwnValue right_goes (next local right_behind) (mapped t.Value (either (is 73) int (plain 128))) refl
    (good_then (Spells IsLocalForm local_text) (λ x. Either (AtLoad x) (Either (FieldLoad x) (Itself x))) is_ascii_digit right_goes local right_behind good_local (λ x front u. good_behind_x x) side_follow)
    from_local_begins
    (last (73 ∷ 40 ∷ 116 ∷ 78 ∷ []) OwnValue right_goes (mapped t.Value (either (is 73) int (plain 128)))
    (good_mapped (λ e. IsOwn e × IsExprForm e) expr_text right_goes (either (is 73) int (plain 128)) t.Value (alts_own right_goes).good)
    (begin_mapped (73 ∷ 40 ∷ 116 ∷ 78 ∷ []) t.Value (Spells (λ e. IsOwn e × IsExprForm e) expr_text) (alts_own right_goes).begin))

-- ---- all right sides

abbrev WholeLoad : Language ℕ Right
WholeLoad = Mapped (λ x. t.Load (t.Whole x)) (Spells IsLocalForm (λ x. codes "*" ++ local_text x))

abbrev AtomicMade : Language ℕ Right
AtomicMade = Mapped t.AtomicLoad (Spells IsLocalForm (λ x. codes "atomic_load(" ++ (local_text x ++ codes ")")))

good_atomic : (g : ℕ → Bool) → Good AtomicMade g right_atomic
unfolding right_atomic
good_atomic g = good_mapped IsLocalForm (λ x. codes "atomic_load(" ++ (local_text x ++ codes ")")) g (after (codes "atomic_load(") (ended_by local (codes ")"))) t.AtomicLoad
    (lit IsLocalForm (λ x. local_text x ++ codes ")") g (ended_by local (codes ")")) (codes "atomic_load(") (fin IsLocalForm local_text is_ascii_digit local (codes ")") g (λ rest. refl) good_local))

abbrev RightParts : CType → Language ℕ Right
RightParts type = Either WholeLoad (Either CallOrFalse (Either (PreludeMade type) (Either (When (is_i64 type) AtomicMade) (Either FromLocal OwnValue))))

alts_right : (type : CType) → Alts (42 ∷ 102 ∷ 112 ∷ 97 ∷ 118 ∷ 73 ∷ 40 ∷ 116 ∷ 78 ∷ []) (RightParts type) right_goes (right type)
unfolding right
alts_right type = alt 42 (102 ∷ 112 ∷ 97 ∷ 118 ∷ 73 ∷ 40 ∷ 116 ∷ 78 ∷ []) WholeLoad _ right_goes (mapped (λ x. t.Load (t.Whole x)) (after (codes "*") local)) _ refl
    (good_mapped IsLocalForm (λ x. codes "*" ++ local_text x) right_goes (after (codes "*") local) (λ x. t.Load (t.Whole x))
    (lit IsLocalForm local_text right_goes local (codes "*") (before (Spells IsLocalForm local_text) is_ascii_digit right_goes local (λ c k. digit_is_name c (not_name c k)) good_local)))
    (begin_mapped (42 ∷ []) (λ x. t.Load (t.Whole x)) (Spells IsLocalForm (λ x. codes "*" ++ local_text x)) (begin_spells 42 [] IsLocalForm local_text))
    (alt 102 (112 ∷ 97 ∷ 118 ∷ 73 ∷ 40 ∷ 116 ∷ 78 ∷ []) CallOrFalse _ right_goes right_f _ refl (good_right_f right_goes) (begin_behind 102 [] _)
    (alt 112 (97 ∷ 118 ∷ 73 ∷ 40 ∷ 116 ∷ 78 ∷ []) (PreludeMade type) _ right_goes (right_p type) _ refl (good_right_p type right_goes) (begin_behind 112 (codes "_") _)
    (alt_if (is_i64 type) 97 (118 ∷ 73 ∷ 40 ∷ 116 ∷ 78 ∷ []) AtomicMade (Either FromLocal OwnValue) right_goes right_atomic right_value refl
    (λ e. good_atomic right_goes) (begin_mapped (97 ∷ []) t.AtomicLoad (Spells IsLocalForm (λ x. codes "atomic_load(" ++ (local_text x ++ codes ")"))) (begin_spells 97 (codes "tomic_load(") IsLocalForm (λ x. local_text x ++ codes ")")))
    alts_value)))

i64_is : (type : CType) → is_i64 type ≡ true → type ≡ kind.I64
i64_is kind.I64 e = refl
i64_is kind.Void e = absurd cc
i64_is kind.Bool e = absurd cc
i64_is kind.PtrI64 e = absurd cc
i64_is kind.PtrBool e = absurd cc
i64_is (kind.PtrStruct s) e = absurd cc
i64_is kind.PtrAtomic e = absurd cc
i64_is kind.PtrLock e = absurd cc

bool_is : (type : CType) → is_bool type ≡ true → type ≡ kind.Bool
bool_is kind.Bool e = refl
bool_is kind.Void e = absurd cc
bool_is kind.I64 e = absurd cc
bool_is kind.PtrI64 e = absurd cc
bool_is kind.PtrBool e = absurd cc
bool_is (kind.PtrStruct s) e = absurd cc
bool_is kind.PtrAtomic e = absurd cc
bool_is kind.PtrLock e = absurd cc

pub call_group : (m c : List ℕ) → m ++ (codes "(" ++ (c ++ codes ")")) ≡ m ++ codes "(" ++ c ++ codes ")"
call_group m c = sym (append_assoc m (codes "(") (c ++ codes ")")) ∙ sym (append_assoc (m ++ codes "(") c (codes ")"))

-- a call with its name in front
pub call_is : (c : Name × List Expr) → codes "f_" ++ call_end c ≡ call_text c.0 c.1
call_is c = ap (λ (r : List ℕ). codes "f_" ++ r) (call_group (mangled_name c.0) (commas (map expr_text c.1)))

module _ (type : CType) where
  right_there : (r : Right) (text : List ℕ) → RightParts type r text → Spells (IsRightForm type) right_text r text
  right_there r text (inl u) = rw u.2 (u.1.0, u.1.1)
  right_there r text (inr (inl (back, inl u, k))) = rw u.2 (u.1.0, k ∙ ap (λ (z : List ℕ). codes "f" ++ z) u.1.1 ∙ call_is u.0)
  right_there r text (inr (inl (back, inr u, k))) = rw u.0 (tt, k ∙ rw u.1 refl)
  right_there r text (inr (inr (inl (back, inl (b, inl u, k2), k)))) = rw u.2 (u.1.0, k ∙ rw (k2, u.1.1) refl)
  right_there r text (inr (inr (inl (back, inl (b, inr (inl u), k2), k)))) = rw u.2 (u.1.0, k ∙ rw (k2, u.1.1) refl)
  right_there r text (inr (inr (inl (back, inl (b, inr (inr u), k2), k)))) = rw u.2 (u.1.0, k ∙ rw (k2, u.1.1) refl)
  right_there r text (inr (inr (inl (back, inr (inl u), k)))) = rw u.2 (u.1.0, k ∙ rw u.1.1 refl)
  right_there r text (inr (inr (inl (back, inr (inr (inl u)), k)))) = rw u.2 (u.1.0, k ∙ rw u.1.1 refl)
  right_there r text (inr (inr (inl (back, inr (inr (inr (inl u))), k)))) = rw u.1.0 (i64_is type u.0, k ∙ rw u.1.1 refl)
  right_there r text (inr (inr (inl (back, inr (inr (inr (inr (inl u)))), k)))) = rw u.1.2 ((bool_is type u.0, u.1.1.0.0, u.1.1.0.1.0, u.1.1.0.1.1), k ∙ rw u.1.1.1 refl)
  right_there r text (inr (inr (inl (back, inr (inr (inr (inr (inr u)))), k)))) = rw u.0 (tt, k ∙ rw u.1 refl)
  right_there r text (inr (inr (inr (inl u)))) = rw u.1.2 ((i64_is type u.0, u.1.1.0), u.1.1.1)
  right_there r text (inr (inr (inr (inr (inl (x, front, back, w, inl u, e)))))) = rw u.2 ((w.0, u.1.0), e ∙ rw (w.1, u.1.1) (index_text (local_text x) (expr_text u.0)))
  right_there r text (inr (inr (inr (inr (inl (x, front, back, w, inr (inl u), e)))))) = rw u.2 ((w.0, u.1.0), e ∙ rw (w.1, u.1.1) (field_text (local_text x) (mangled_name u.0)))
  right_there r text (inr (inr (inr (inr (inl (x, front, back, w, inr (inr u), e)))))) = rw u.1 (w.0, e ∙ rw (w.1, u.0) (append-nil (local_text x)))
  right_there r text (inr (inr (inr (inr (inr u))))) = rw u.2 (u.1.0.1, u.1.1)

  own_right : (e : Expr) (text : List ℕ) → IsOwn e → IsExprForm e → text ≡ expr_text e → RightParts type (t.Value e) text
  own_right e text o w h = inr (inr (inr (inr (inr (e, ((o, w), h), refl)))))

  right_back : (r : Right) (text : List ℕ) → Spells (IsRightForm type) right_text r text → RightParts type r text
  right_back (t.Value (t.Truth false)) text u = inr (inl (codes "alse", inr (refl, refl), u.1))
  right_back (t.Value (t.Truth true)) text u = own_right (t.Truth true) text tt u.0 u.1
  right_back (t.Value (t.Int n)) text u = own_right (t.Int n) text tt u.0 u.1
  right_back (t.Value t.Null) text u = own_right t.Null text tt u.0 u.1
  right_back (t.Value (t.Var x)) text u = inr (inr (inr (inr (inl (x, local_text x, [], (u.0, refl), inr (inr (refl, refl)), u.1 ∙ sym (append-nil (local_text x)))))))
  right_back (t.Value (t.Neg e)) text u = own_right (t.Neg e) text tt u.0 u.1
  right_back (t.Value (t.Not e)) text u = own_right (t.Not e) text tt u.0 u.1
  right_back (t.Value (t.Bin o a b)) text u = own_right (t.Bin o a b) text tt u.0 u.1
  right_back (t.Load (t.Whole x)) text u = inl (x, (u.0, u.1), refl)
  right_back (t.Load (t.At x e)) text u = inr (inr (inr (inr (inl (x, local_text x, codes "[" ++ (expr_text e ++ codes "]"), (u.0.0, refl), inl (e, (u.0.1, refl), refl), u.1 ∙ sym (index_text (local_text x) (expr_text e)))))))
  right_back (t.Load (t.Field x m)) text u = inr (inr (inr (inr (inl (x, local_text x, codes "->m_" ++ mangled_name m, (u.0.0, refl), inr (inl (m, (u.0.1, refl), refl)), u.1 ∙ sym (field_text (local_text x) (mangled_name m)))))))
  right_back (t.New maker.I64 e) text u = inr (inr (inl (codes "new_i64(" ++ (expr_text e ++ codes ")"), inl (codes "i64(" ++ (expr_text e ++ codes ")"), inl (e, (u.0, refl), refl), refl), u.1)))
  right_back (t.New maker.Bool e) text u = inr (inr (inl (codes "new_bool(" ++ (expr_text e ++ codes ")"), inl (codes "bool(" ++ (expr_text e ++ codes ")"), inr (inl (e, (u.0, refl), refl)), refl), u.1)))
  right_back (t.New maker.Atomic e) text u = inr (inr (inl (codes "new_atomic(" ++ (expr_text e ++ codes ")"), inl (codes "atomic(" ++ (expr_text e ++ codes ")"), inr (inr (e, (u.0, refl), refl)), refl), u.1)))
  right_back (t.Array e count) text u = inr (inr (inl (codes "array(" ++ two_text (e, count), inr (inl ((e, count), (u.0, refl), refl)), u.1)))
  right_back (t.Structure s) text u = inr (inr (inl (codes "get(sizeof(struct s_" ++ (mangled_name s ++ codes "))"), inr (inr (inl (s, (u.0, refl), refl))), u.1)))
  right_back t.Lock text u = inr (inr (inl (codes "lock_new()", inr (inr (inr (inr (inr (refl, refl))))), u.1)))
  right_back (t.Call f args) text u = inr (inl (codes "_" ++ call_end (f, args), inl ((f, args), (u.0, refl), refl), u.1 ∙ sym (call_is (f, args))))
  right_back (t.AtomicLoad base) text u = inr (inr (inr (inl (rw u.0.0 refl, (base, (u.0.1, u.1), refl)))))
  right_back t.Read text u = inr (inr (inl (codes "read()", inr (inr (inr (inl (rw u.0 refl, (refl, refl))))), u.1)))
  right_back (t.Cas base old new) text u = inr (inr (inl (codes "cas(" ++ cas_text (base, (old, new)), inr (inr (inr (inr (inl (rw u.0.0 refl, ((base, (old, new)), ((u.0.1, (u.0.2, u.0.3)), refl), refl)))))), u.1)))

  -- a right side of a local of this type
  pub good_right : Good (Spells (IsRightForm type) right_text) right_goes (right type)
  good_right = (alts_same (42 ∷ 102 ∷ 112 ∷ 97 ∷ 118 ∷ 73 ∷ 40 ∷ 116 ∷ 78 ∷ []) (RightParts type) (Spells (IsRightForm type) right_text) right_goes (right type) right_there right_back (alts_right type)).good
