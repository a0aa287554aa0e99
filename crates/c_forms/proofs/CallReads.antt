-- Lists with their first and last brackets, calls and ends of cells are read right.
use Rattle.std.proofs.Common.{◌≡◌, inl, inr, ℕ, Bool, true, false, List, [], ◌∷◌, ◌++◌, map, flat_map, refl, sym, ap, ◌∙◌, append_assoc}
use Rattle.std.specs.Prelude.{◌==◌, codes}
use Rattle.std.specs.Char.{is_ascii_digit, is_ascii_alphanumeric}
use Rattle.std.specs.List.{AllByRecursion}
use Rattle.std.proofs.lemmas.Bool.{or_parts}
use Rattle.c_syntax.specs.Text.{commas, behind_commas, mangled_name}
use Rattle.pl_lexer.specs.Proper.{IsName}
use Rattle.pl_readers.specs.Language.{Language, Then, Either, Mapped}
use Rattle.pl_readers.specs.Reader.{Reader, either, next, mapped, repeat}
use Rattle.pl_readers.specs.Reads.{never, Ends}
use Rattle.pl_readers.specs.Bytes.{is}
use Rattle.pl_readers.proofs.Correct.{ends_less}
use Rattle.c_forms.specs.declared.word.Local.{Local}
use Rattle.c_forms.specs.Reading.{among, after, ended_by, just}
use Rattle.c_forms.specs.Names.{is_name_byte, name}
use Rattle.c_forms.specs.Text.{expr_text, local_text, cell_text}
use Rattle.c_forms.specs.Forms.{IsExprForm, IsCallForm, IsLocalForm, IsCellForm}
use Rattle.c_forms.specs.Tree as t
use Rattle.c_forms.specs.Tree.{Name, Expr, Cell}
use Rattle.c_forms.specs.ExprReaders.{expr, local, cell_behind, cell, listed, list_of, call}
use Rattle.c_forms.proofs.WholeNames.{good_name}
use Rattle.c_forms.proofs.WordReads.{local_end, good_local}
use Rattle.c_forms.proofs.ExprReads.{alts_expr}
use Rattle.c_forms.proofs.ListReads.{behind_map, comma_or, good_more_items}
use Rattle.c_forms.proofs.Spelling.{Spells, Good, Alts, Begin, same, before, good_just, good_mapped, good_then, lit, fin, pair, alt, last, begin_mapped, begin_spells, begin_just}

abbrev pub comma_text : {A : Type 0} → (A → List ℕ) → A → List ℕ
comma_text f a = codes ", " ++ f a

module _ {A : Type 0} (W WF : A → Type 0) (f : A → List ℕ) (g : ℕ → Bool) (F P : Reader ℕ A) (at_comma : g 44 ≡ false) (first : Good (Spells WF f) g F) (p : Good (Spells W f) g P) where
  abbrev pub HasFirst : List A → Type 0
  HasFirst [] = ⊥
  HasFirst (a ∷ as') = WF a × AllByRecursion W as'

  abbrev More : A → Language ℕ (List A)
  More a = Mapped (λ more. a ∷ more) (Spells (AllByRecursion W) (flat_map (comma_text f)))

  more_right : (b : Bool) (x : ℕ) → (x == 44) ≡ b → comma_or g x ≡ false → g x ≡ false
  more_right true x e h = let h1 : true ≡ false = (rw e at h) in absurd cc
  more_right false x e h = (let h1 = (rw e at h) in h1)

  follow_list : (m : List A) (rest : List ℕ) → Ends (comma_or g) rest → Ends g (flat_map (comma_text f) m ++ rest)
  follow_list [] rest h = ends_less g (comma_or g) (λ x k. more_right (x == 44) x refl k) rest h
  follow_list (a ∷ m) rest h = at_comma

  listed_there : (as' : List A) (text : List ℕ) → Then (Spells WF f) More as' text → Spells HasFirst (λ l. commas (map f l)) as' text
  listed_there as' text t =
      rw t.4.2 ((t.3.0, t.4.1.0), t.5 ∙ rw (t.3.1, t.4.1.1) (ap (λ (r : List ℕ). f t.0 ++ r) (sym (behind_map f t.4.0))))

  listed_back : (as' : List A) (text : List ℕ) → Spells HasFirst (λ l. commas (map f l)) as' text → Then (Spells WF f) More as' text
  listed_back [] text t = absurd t.0
  listed_back (a ∷ m) text t = (a, f a, flat_map (comma_text f) m, (t.0.0, refl), (m, (t.0.1, refl), refl), t.1 ∙ ap (λ (r : List ℕ). f a ++ r) (behind_map f m))

  pub good_listed : Good (Spells HasFirst (λ l. commas (map f l))) (comma_or g) (listed F P)
  unfolding listed
  good_listed = same (Then (Spells WF f) More) (Spells HasFirst (λ l. commas (map f l))) (comma_or g) (listed F P) listed_there listed_back
      (good_then (Spells WF f) More g (comma_or g) F (λ a. mapped (λ more. a ∷ more) (repeat (is 44) (after (codes ", ") P))) first
      (λ a front t. good_mapped (AllByRecursion W) (flat_map (comma_text f)) (comma_or g) (repeat (is 44) (after (codes ", ") P)) (λ more. a ∷ more) (good_more_items W f g F P at_comma p))
      (λ a b back rest u h. rw u.1.1 (follow_list u.0 rest h)))

  module _ (at_close : g 41 ≡ false) (ks : List ℕ) (apart : among ks 41 ≡ false) (begin : Begin ks (Spells WF f)) where
    abbrev closing : (List A) → List ℕ
    closing l = commas (map f l) ++ codes ")"

    begin_listed : Begin ks (Spells HasFirst closing)
    begin_listed [] text t = absurd t.0
    begin_listed (a ∷ m) text t = let w = begin a (f a) (t.0.0, refl) in
        (w.0, (w.1 ++ behind_commas (map f m)) ++ codes ")", t.1 ∙ ap (λ (r : List ℕ). (r ++ behind_commas (map f m)) ++ codes ")") w.2, w.3)

    pub good_closed : Good (Spells HasFirst closing) never (ended_by (listed F P) (codes ")"))
    good_closed = fin HasFirst (λ l. commas (map f l)) (comma_or g) (listed F P) (codes ")") never (λ rest. at_close) good_listed

    pub alts_closed : Alts (41 ∷ ks) (Either (Spells (λ (l : List A). l ≡ []) (λ _. codes ")")) (Spells HasFirst closing)) never (either (is 41) (just [] (codes ")")) (ended_by (listed F P) (codes ")")))
    alts_closed = alt 41 ks (Spells (λ (l : List A). l ≡ []) (λ _. codes ")")) (Spells HasFirst closing) never (just [] (codes ")")) (ended_by (listed F P) (codes ")")) apart
        (good_just [] (codes ")") never) (begin_just 41 [] []) (last ks (Spells HasFirst closing) never (ended_by (listed F P) (codes ")")) good_closed begin_listed)

module _ {A : Type 0} (W : A → Type 0) (f : A → List ℕ) (g : ℕ → Bool) (P : Reader ℕ A) (at_comma : g 44 ≡ false) (at_close : g 41 ≡ false) (ks : List ℕ) (apart : among ks 41 ≡ false) (begin : Begin ks (Spells W f)) (p : Good (Spells W f) g P) where
  list_there : (l : List A) (text : List ℕ) → Either (Spells (λ (l : List A). l ≡ []) (λ _. codes ")")) (Spells (HasFirst W W f g P P at_comma p p) (λ l. commas (map f l) ++ codes ")")) l text → Spells (AllByRecursion W) (λ l. commas (map f l) ++ codes ")") l text
  list_there l text (inl t) = rw t.0 (tt, t.1)
  list_there [] text (inr t) = absurd t.0
  list_there (a ∷ m) text (inr t) = t

  list_back : (l : List A) (text : List ℕ) → Spells (AllByRecursion W) (λ l. commas (map f l) ++ codes ")") l text → Either (Spells (λ (l : List A). l ≡ []) (λ _. codes ")")) (Spells (HasFirst W W f g P P at_comma p p) (λ l. commas (map f l) ++ codes ")")) l text
  list_back [] text t = inl (refl, t.1)
  list_back (a ∷ m) text t = inr t

  -- a list and its closing bracket
  pub good_list : Good (Spells (AllByRecursion W) (λ l. commas (map f l) ++ codes ")")) never (list_of P)
  unfolding list_of
  good_list = same (Either (Spells (λ (l : List A). l ≡ []) (λ _. codes ")")) (Spells (HasFirst W W f g P P at_comma p p) (λ l. commas (map f l) ++ codes ")"))) (Spells (AllByRecursion W) (λ l. commas (map f l) ++ codes ")")) never (list_of P) list_there list_back
      (alts_closed W W f g P P at_comma p p at_close ks apart begin).good

-- ---- calls

abbrev pub call_end : Name × List Expr → List ℕ
call_end c = mangled_name c.0 ++ (codes "(" ++ (commas (map expr_text c.1) ++ codes ")"))

-- a call behind its `f_`
pub good_call : Good (Spells (λ c. IsCallForm c.0 c.1) call_end) never call
unfolding call
good_call = pair IsName mangled_name is_name_byte name (AllByRecursion IsExprForm) (λ l. codes "(" ++ (commas (map expr_text l) ++ codes ")")) never (after (codes "(") (list_of expr))
    (λ l rest u h. refl) good_name
    (lit (AllByRecursion IsExprForm) (λ l. commas (map expr_text l) ++ codes ")") never (list_of expr) (codes "(")
    (good_list IsExprForm expr_text is_ascii_digit expr refl refl (73 ∷ 118 ∷ 102 ∷ 40 ∷ 116 ∷ 78 ∷ []) refl alts_expr.begin alts_expr.good))

-- ---- cells

pub digit_is_name : (x : ℕ) → is_name_byte x ≡ false → is_ascii_digit x ≡ false
digit_is_name x h =
    let p = or_parts (is_ascii_alphanumeric x) (x == 95) h in
    (or_parts (is_ascii_digit x) _ (or_parts _ _ p.0).0).0

module _ (x : Local) where
  abbrev pub At : Language ℕ Cell
  At = Mapped (t.At x) (Spells IsExprForm (λ e. codes "[" ++ (expr_text e ++ codes "]")))

  abbrev pub Field : Language ℕ Cell
  Field = Mapped (t.Field x) (Spells IsName (λ m. codes "->m_" ++ mangled_name m))

  pub good_behind_local : Good (Either At Field) is_name_byte (cell_behind x)
  unfolding cell_behind
  good_behind_local = (alt 91 (45 ∷ []) At Field is_name_byte (mapped (t.At x) (after (codes "[") (ended_by expr (codes "]")))) (mapped (t.Field x) (after (codes "->m_") name)) refl
      (good_mapped IsExprForm (λ e. codes "[" ++ (expr_text e ++ codes "]")) is_name_byte (after (codes "[") (ended_by expr (codes "]"))) (t.At x)
      (lit IsExprForm (λ e. expr_text e ++ codes "]") is_name_byte (ended_by expr (codes "]")) (codes "[") (fin IsExprForm expr_text is_ascii_digit expr (codes "]") is_name_byte (λ rest. refl) alts_expr.good)))
      (begin_mapped (91 ∷ []) (t.At x) (Spells IsExprForm (λ e. codes "[" ++ (expr_text e ++ codes "]"))) (begin_spells 91 [] IsExprForm (λ e. expr_text e ++ codes "]")))
      (last (45 ∷ []) Field is_name_byte (mapped (t.Field x) (after (codes "->m_") name))
      (good_mapped IsName (λ m. codes "->m_" ++ mangled_name m) is_name_byte (after (codes "->m_") name) (t.Field x) (lit IsName mangled_name is_name_byte name (codes "->m_") good_name))
      (begin_mapped (45 ∷ []) (t.Field x) (Spells IsName (λ m. codes "->m_" ++ mangled_name m)) (begin_spells 45 (codes ">m_") IsName mangled_name)))).good

abbrev Whole : Language ℕ Cell
Whole = Mapped t.Whole (Spells IsLocalForm (λ x. codes "*" ++ local_text x))

abbrev Based : Language ℕ Cell
Based = Then (Spells IsLocalForm local_text) (λ x. Either (At x) (Field x))

pub cell_follow : (x : Local) (c : Cell) (back rest : List ℕ) → Either (At x) (Field x) c back → Ends is_name_byte rest → Ends is_ascii_digit (back ++ rest)
cell_follow x c back rest (inl u) h = rw u.1.1 refl
cell_follow x c back rest (inr u) h = rw u.1.1 refl

good_based : Good Based is_name_byte (next local cell_behind)
good_based = good_then (Spells IsLocalForm local_text) (λ x. Either (At x) (Field x)) is_ascii_digit is_name_byte local cell_behind good_local (λ x front u. good_behind_local x) cell_follow

based_begins : Begin (118 ∷ []) Based
based_begins c text u = (118, (codes "_" ++ local_end u.0) ++ u.2, u.5 ∙ rw u.3.1 refl, refl)

pub index_text : (l e : List ℕ) → l ++ (codes "[" ++ (e ++ codes "]")) ≡ l ++ codes "[" ++ e ++ codes "]"
index_text l e = sym (append_assoc l (codes "[") (e ++ codes "]")) ∙ sym (append_assoc (l ++ codes "[") e (codes "]"))

pub field_text : (l m : List ℕ) → l ++ (codes "->m_" ++ m) ≡ l ++ codes "->" ++ (codes "m_" ++ m)
field_text l m = sym (append_assoc l (codes "->") (codes "m_" ++ m))

cell_there : (c : Cell) (text : List ℕ) → Either Whole Based c text → Spells IsCellForm cell_text c text
cell_there c text (inl u) = rw u.2 (u.1.0, u.1.1)
cell_there c text (inr (x, front, back, w, inl u, e)) = rw u.2 ((w.0, u.1.0), e ∙ rw (w.1, u.1.1) (index_text (local_text x) (expr_text u.0)))
cell_there c text (inr (x, front, back, w, inr u, e)) = rw u.2 ((w.0, u.1.0), e ∙ rw (w.1, u.1.1) (field_text (local_text x) (mangled_name u.0)))

cell_back : (c : Cell) (text : List ℕ) → Spells IsCellForm cell_text c text → Either Whole Based c text
cell_back (t.Whole base) text u = inl (base, (u.0, u.1), refl)
cell_back (t.At base index) text u = inr (base, local_text base, codes "[" ++ (expr_text index ++ codes "]"), (u.0.0, refl), inl (index, (u.0.1, refl), refl), u.1 ∙ sym (index_text (local_text base) (expr_text index)))
cell_back (t.Field base member) text u = inr (base, local_text base, codes "->m_" ++ mangled_name member, (u.0.0, refl), inr (member, (u.0.1, refl), refl), u.1 ∙ sym (field_text (local_text base) (mangled_name member)))

-- a cell
pub good_cell : Good (Spells IsCellForm cell_text) is_name_byte cell
unfolding cell
good_cell = same (Either Whole Based) (Spells IsCellForm cell_text) is_name_byte cell cell_there cell_back
    (alt 42 (118 ∷ []) Whole Based is_name_byte (mapped t.Whole (after (codes "*") local)) (next local cell_behind) refl
    (good_mapped IsLocalForm (λ x. codes "*" ++ local_text x) is_name_byte (after (codes "*") local) t.Whole
    (lit IsLocalForm local_text is_name_byte local (codes "*") (before (Spells IsLocalForm local_text) is_ascii_digit is_name_byte local digit_is_name good_local)))
    (begin_mapped (42 ∷ []) t.Whole (Spells IsLocalForm (λ x. codes "*" ++ local_text x)) (begin_spells 42 [] IsLocalForm local_text))
    (last (118 ∷ []) Based is_name_byte (next local cell_behind) good_based based_begins)).good
