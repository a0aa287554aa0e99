-- Names are read right.
use Rattle.std.proofs.Common.{◌≡◌, ◌⊎◌, inl, inr, ℕ, ◌+◌, ◌-◌, ◌<◌, ◌≤◌, Bool, true, false, List, [], ◌∷◌, ◌++◌, length, Option, Some, None, refl, sym, ap, subst, ◌∙◌, append_assoc, arith}
use Rattle.std.specs.Prelude.{◌&&◌, ◌||◌, ◌==◌, not, nat_le, nat_lt, codes, encode_utf8, encode_utf8_all, if◌then◌else◌, position, is_some, option_map}
use Rattle.std.specs.Char.{is_ascii_alphabetic, is_ascii_alphanumeric}
use Rattle.std.specs.Int.{is_in_range}
use Rattle.std.specs.List.{list_all, position_from}
use Rattle.std.specs.Str.{bytes_eq, chars, all_scalars}
use Rattle.std.proofs.lemmas.Bool.{and_parts, and_from, or_cases, or_left, or_right, eqb-true, leb-true, ltb-true, le-leb, lt-ltb, ltb-false}
use Rattle.std.proofs.lemmas.List.{append-nil, length-append}
use Rattle.std.proofs.lemmas.Iterator.Adapters.{position_from-zero}
use Rattle.std.proofs.lemmas.Slice.Eq.{bytes_eq-Decides}
use Rattle.std.proofs.lemmas.Str.{encodes-IsAscii, encodes_same, encodes-append, chars-encodes, encodes-chars, scalars-chars}
use Rattle.std.proofs.lemmas.Grind.{flat_map-append}
use Rattle.unicode_ident.proofs.IdentLemmas.{is_xid_continue-ascii}
use Rattle.pl_base.specs.Mangling.{six_digits, mangled_char, mangled}
use Rattle.pl_base.specs.Tokens.{words}
use Rattle.pl_lexer.specs.Lexemes.{is_start, is_more}
use Rattle.pl_lexer.specs.Tokens.{sign_number}
use Rattle.pl_lexer.specs.Proper.{IsName}
use Rattle.pl_lexer.proofs.Numbers.{word_number, all_ascii, ascii_is}
use Rattle.pl_lexer.proofs.Longest.{start_ascii}
use Rattle.pl_readers.specs.Language.{Language, One, Then, Either, Mapped, HasText, IsViable}
use Rattle.pl_readers.specs.Reader.{Reader, begins, one, next, either, mapped}
use Rattle.pl_readers.specs.Reads.{never}
use Rattle.pl_readers.specs.Bytes.{is}
use Rattle.pl_readers.proofs.Correct.{Reads-one, Reads-mapped, Reads-either}
use Rattle.pl_readers.proofs.Firsts.{ends_never}
use Rattle.c_syntax.specs.Text.{mangled_name}
use Rattle.c_forms.specs.Reading.{after, just, unless}
use Rattle.c_forms.specs.Names.{is_scalar, fits, escape, plain_of, is_name_byte, more, more_line, first, is_word, name, name_line}
use Rattle.c_forms.proofs.NameReads.{good_escape}
use Rattle.c_forms.proofs.TailReads.{plain_low, is_piece, fits_high, mangled_plain, mangled_other, Fit, Tail, good_more, good_more_line, goes_line}
use Rattle.c_forms.proofs.Spelling.{Spells, Good, Behind, same, good_then, good_behind, good_just, good_mapped, good_unless, Passes}

-- ---- the first character

abbrev pub is_first : ℕ → Bool
is_first c = is_ascii_alphabetic c || ((c == 95) || fits true c)

abbrev First : List ℕ → Language ℕ (ℕ × List ℕ)
First front p text = (c : ℕ) × (is_first c ≡ true) × (p ≡ (50 - length (mangled_char c), front ++ encode_utf8 c)) × (text ≡ mangled_char c)

letter_is : (b : Bool) (x c : ℕ) → is_ascii_alphabetic x ≡ b → plain_of is_ascii_alphabetic x ≡ Some c → (b ≡ true) × (x ≡ c)
letter_is true x c e h = let h1 : Some x ≡ Some c = (rw e at h) in (refl, some_is x c h1)
  where
    some_is : (a b : ℕ) → Some a ≡ Some b → a ≡ b
    some_is a b e = cc
letter_is false x c e h = let h1 : None ≡ Some c = (rw e at h) in absurd cc

letter_plain : (c : ℕ) → is_ascii_alphabetic c ≡ true → is_ascii_alphanumeric c ≡ true
letter_plain c e = wider (is_in_range 48 57 c) (is_in_range 65 90 c) (is_in_range 97 122 c) e
  where
    wider : (a b d : Bool) → (b || d) ≡ true → ((a || b) || d) ≡ true
    wider true b d e = refl
    wider false b d e = e

module _ (front : List ℕ) where
  abbrev Letter : Language ℕ (ℕ × List ℕ)
  Letter = Mapped (λ c. (49, front ++ encode_utf8 c)) (One (plain_of is_ascii_alphabetic))

  abbrev Escaped : Language ℕ (ℕ × List ℕ)
  Escaped = Mapped (λ c. (42, front ++ encode_utf8 c)) (Spells (λ c. fits true c ≡ true) (λ c. codes "u" ++ six_digits c))

  abbrev Line : Language ℕ (ℕ × List ℕ)
  Line = Spells (λ a. a ≡ (48, front ++ encode_utf8 95)) (λ _. codes "_")

  abbrev Other : Language ℕ (ℕ × List ℕ)
  Other = Behind (codes "_") (Either Escaped Line)

  good_other : Good Other never (after (codes "_") (either (is 117) (mapped (λ c. (42, front ++ encode_utf8 c)) (escape true)) (just (48, front ++ encode_utf8 95) (codes "_"))))
  good_other = good_behind (codes "_") (Either Escaped Line) never (either (is 117) (mapped (λ c. (42, front ++ encode_utf8 c)) (escape true)) (just (48, front ++ encode_utf8 95) (codes "_")))
      (record {
        reads = Reads-either (is 117) Escaped Escaped Line Line never (mapped (λ c. (42, front ++ encode_utf8 c)) (escape true)) (just (48, front ++ encode_utf8 95) (codes "_"))
            (good_mapped (λ c. fits true c ≡ true) (λ c. codes "u" ++ six_digits c) never (escape true) (λ c. (42, front ++ encode_utf8 c)) (good_escape true)).reads
            (good_just (48, front ++ encode_utf8 95) (codes "_") never).reads
            (λ p text t. (117, six_digits t.0, t.1.1, refl)) (λ p text rest t e. rw t.1 refl);
        some = ((48, front ++ encode_utf8 95), codes "_", inr (refl, refl));
      })

  some_letter : HasText (One (plain_of is_ascii_alphabetic))
  some_letter = (97, 97 ∷ [], (97, refl, refl))

  first_there : (p : ℕ × List ℕ) (text : List ℕ) → Either Letter Other p text → First front p text
  first_there p text (inl t) =
      let l = letter_is (is_ascii_alphabetic t.1.0) t.1.0 t.0 refl t.1.2 in
      let a : is_ascii_alphabetic t.0 ≡ true = ap is_ascii_alphabetic (sym l.1) ∙ l.0 in
      let m = mangled_plain t.0 (letter_plain t.0 a) in
      (t.0, or_left (is_ascii_alphabetic t.0) ((t.0 == 95) || fits true t.0) a, t.2 ∙ rw m refl, t.1.1 ∙ rw (m, l.1) refl)
  first_there p text (inr (back, inl t, e)) =
      let m = mangled_other t.0 (fits_high true t.0 t.1.0) in
      (t.0, or_right (is_ascii_alphabetic t.0) ((t.0 == 95) || fits true t.0) (or_right (t.0 == 95) (fits true t.0) t.1.0), t.2 ∙ rw m refl, e ∙ rw (t.1.1, m) refl)
  first_there p text (inr (back, inr t, e)) = (95, refl, t.0, e ∙ rw t.1 refl)

  first_by : (p : ℕ × List ℕ) (text : List ℕ) (c : ℕ) → (is_ascii_alphabetic c ≡ true) ⊎ ((c == 95) || fits true c) ≡ true → p ≡ (50 - length (mangled_char c), front ++ encode_utf8 c) → text ≡ mangled_char c → Either Letter Other p text
  first_by p text c (inl a) e et = let m = mangled_plain c (letter_plain c a) in inl (c, (c, et ∙ m, rw a refl), e ∙ rw m refl)
  first_by p text c (inr o) e et = elim (or_cases (c == 95) (fits true c) o) [
    | inl l ↦ let s = eqb-true c 95 l in inr (codes "_", inr (e ∙ rw s refl, refl), et ∙ rw s refl)
    | inr f ↦ let m = mangled_other c (fits_high true c f) in inr (codes "u" ++ six_digits c, inl (c, (f, refl), e ∙ rw m refl), et ∙ m)
  ]

  good_first : Good (First front) never (first front)
  unfolding first
  good_first = same (Either Letter Other) (First front) never (first front) first_there
      (λ p text t. first_by p text t.0 (or_cases (is_ascii_alphabetic t.0) ((t.0 == 95) || fits true t.0) t.1) t.2 t.3)
      (record {
        reads = Reads-either is_ascii_alphabetic Letter Letter Other Other never (mapped (λ c. (49, front ++ encode_utf8 c)) (one (plain_of is_ascii_alphabetic)))
            (after (codes "_") (either (is 117) (mapped (λ c. (42, front ++ encode_utf8 c)) (escape true)) (just (48, front ++ encode_utf8 95) (codes "_"))))
            (Reads-mapped (λ c. (49, front ++ encode_utf8 c)) (One (plain_of is_ascii_alphabetic)) (One (plain_of is_ascii_alphabetic)) never (one (plain_of is_ascii_alphabetic)) (Reads-one (plain_of is_ascii_alphabetic) never some_letter))
            good_other.reads
            (λ p text t. let l = letter_is (is_ascii_alphabetic t.1.0) t.1.0 t.0 refl t.1.2 in (t.1.0, [], t.1.1, l.0)) (λ p text rest t e. rw t.2 refl);
        some = good_other_some;
      })
    where
      good_other_some : HasText (Either Letter Other)
      good_other_some = let s = good_other.some in (s.0, s.1, inr s.2)

-- ---- characters of identifiers

low_scalar : (c : ℕ) → c < 128 → all_scalars (c ∷ []) ≡ true
low_scalar c h = rw (lt-ltb c 55296 (omega (arith, h))) refl

low_or_high : (c : ℕ) → (c < 128) ⊎ (128 ≤ c)
low_or_high c = by_test (nat_lt c 128) refl
  where
    by_test : (b : Bool) → nat_lt c 128 ≡ b → (c < 128) ⊎ (128 ≤ c)
    by_test true e = inl (ltb-true c 128 e)
    by_test false e = inr (ltb-false c 128 e)

scalar_of : (c : ℕ) → is_scalar c ≡ true → all_scalars (c ∷ []) ≡ true
scalar_of c e = and_from (is_scalar c) true e refl

piece_more : (c : ℕ) → is_piece c ≡ true → (is_more c ≡ true) × (all_scalars (c ∷ []) ≡ true)
piece_more c e = by_place (low_or_high c)
  where
    by_place : (c < 128) ⊎ (128 ≤ c) → (is_more c ≡ true) × (all_scalars (c ∷ []) ≡ true)
    by_place (inl h) = (is_xid_continue-ascii c h ∙ low (is_ascii_alphanumeric c) (c == 95) (fits false c) (high c h (fits false c) refl) e, low_scalar c h)
      where
        high : (c : ℕ) → c < 128 → (b : Bool) → fits false c ≡ b → b ≡ false
        high c h false k = refl
        high c h true k = let t = fits_high false c k in absurd (omega arith)

        low : (a l f : Bool) → f ≡ false → (a || (l || f)) ≡ true → (a || l) ≡ true
        low true l f k e = refl
        low false true f k e = refl
        low false false f k e = let t : f ≡ true = e in absurd cc
    by_place (inr h) =
        let f = high_fits false (is_ascii_alphanumeric c) (c == 95) c h refl refl e in
        let p = and_parts (is_scalar c) (nat_le 128 c && is_more c) f in
        ((and_parts (nat_le 128 c) (is_more c) p.1).1, scalar_of c p.0)
      where
        high_fits : (f a l : Bool) (c : ℕ) → 128 ≤ c → is_ascii_alphanumeric c ≡ a → (c == 95) ≡ l → is_piece c ≡ true → fits false c ≡ true
        high_fits f a l c h ea el e = elim (or_cases (is_ascii_alphanumeric c) ((c == 95) || fits false c) e) [
          | inl k ↦ let t = plain_low c k in absurd (omega arith)
          | inr k ↦ elim (or_cases (c == 95) (fits false c) k) [ inl t ↦ let s = eqb-true c 95 t in absurd (omega arith) | inr t ↦ t ]
        ]

first_start : (c : ℕ) → is_first c ≡ true → (is_start c ≡ true) × (all_scalars (c ∷ []) ≡ true)
first_start c e = by_place (low_or_high c)
  where
    by_place : (c < 128) ⊎ (128 ≤ c) → (is_start c ≡ true) × (all_scalars (c ∷ []) ≡ true)
    by_place (inl h) = (start_ascii c h ∙ low (is_ascii_alphabetic c) (c == 95) (fits true c) (high c h (fits true c) refl) e, low_scalar c h)
      where
        high : (c : ℕ) → c < 128 → (b : Bool) → fits true c ≡ b → b ≡ false
        high c h false k = refl
        high c h true k = let t = fits_high true c k in absurd (omega arith)

        low : (a l f : Bool) → f ≡ false → (a || (l || f)) ≡ true → (a || l) ≡ true
        low true l f k e = refl
        low false true f k e = refl
        low false false f k e = let t : f ≡ true = e in absurd cc
    by_place (inr h) = elim (or_cases (is_ascii_alphabetic c) ((c == 95) || fits true c) e) [
      | inl k ↦ let t = plain_low c (letter_plain c k) in absurd (omega arith)
      | inr k ↦ elim (or_cases (c == 95) (fits true c) k) [
        | inl t ↦ let s = eqb-true c 95 t in absurd (omega arith)
        | inr f ↦ let p = and_parts (is_scalar c) (nat_le 128 c && is_start c) f in ((and_parts (nat_le 128 c) (is_start c) p.1).1, scalar_of c p.0)
      ]
    ]

joined : (a l f : Bool) → (a || l) ≡ true → (a || (l || f)) ≡ true
joined true l f e = refl
joined false true f e = refl
joined false false f e = absurd cc

start_first : (c : ℕ) → is_start c ≡ true → is_scalar c ≡ true → is_first c ≡ true
start_first c e s = by_place (low_or_high c)
  where
    by_place : (c < 128) ⊎ (128 ≤ c) → is_first c ≡ true
    by_place (inl h) = joined (is_ascii_alphabetic c) (c == 95) (fits true c) (sym (start_ascii c h) ∙ e)
    by_place (inr h) = or_right (is_ascii_alphabetic c) ((c == 95) || fits true c) (or_right (c == 95) (fits true c)
        (and_from (is_scalar c) (nat_le 128 c && is_start c) s (and_from (nat_le 128 c) (is_start c) (le-leb 128 c h) e)))

more_piece : (c : ℕ) → is_more c ≡ true → is_scalar c ≡ true → is_piece c ≡ true
more_piece c e s = by_place (low_or_high c)
  where
    by_place : (c < 128) ⊎ (128 ≤ c) → is_piece c ≡ true
    by_place (inl h) = joined (is_ascii_alphanumeric c) (c == 95) (fits false c) (sym (is_xid_continue-ascii c h) ∙ e)
    by_place (inr h) = or_right (is_ascii_alphanumeric c) ((c == 95) || fits false c) (or_right (c == 95) (fits false c)
        (and_from (is_scalar c) (nat_le 128 c && is_more c) s (and_from (nat_le 128 c) (is_more c) (le-leb 128 c h) e)))

pieces_more : (cs : List ℕ) → list_all is_piece cs ≡ true → (list_all is_more cs ≡ true) × (all_scalars cs ≡ true)
pieces_more [] e = (refl, refl)
pieces_more (c ∷ cs) e =
    let p = and_parts (is_piece c) (list_all is_piece cs) e in
    let h = piece_more c p.0 in
    let r = pieces_more cs p.1 in
    (and_from (is_more c) (list_all is_more cs) h.0 r.0, and_from (is_scalar c) (all_scalars cs) (and_parts (is_scalar c) true h.1).0 r.1)

more_pieces : (cs : List ℕ) → list_all is_more cs ≡ true → all_scalars cs ≡ true → list_all is_piece cs ≡ true
more_pieces [] e s = refl
more_pieces (c ∷ cs) e s =
    let p = and_parts (is_more c) (list_all is_more cs) e in
    let q = and_parts (is_scalar c) (all_scalars cs) s in
    and_from (is_piece c) (list_all is_piece cs) (more_piece c p.0 q.0) (more_pieces cs p.1 q.1)

list_all_behind : (cs : List ℕ) → list_all is_piece cs ≡ true → list_all is_piece (cs ++ 95 ∷ []) ≡ true
list_all_behind [] e = refl
list_all_behind (c ∷ cs) e = let p = and_parts (is_piece c) (list_all is_piece cs) e in and_from (is_piece c) (list_all is_piece (cs ++ 95 ∷ [])) p.0 (list_all_behind cs p.1)

char_len : (c : ℕ) → length (mangled_char c) ≤ 8
char_len c = by_tests (is_ascii_alphanumeric c) (c == 95)
  where
    by_tests : (a l : Bool) → length (if a then c ∷ [] else if l then 95 ∷ 95 ∷ [] else 95 ∷ 117 ∷ six_digits c) ≤ 8
    by_tests true l = omega arith
    by_tests false true = omega arith
    by_tests false false = omega arith

-- ---- words

find_at : {X : Type 0} (test p : X → Bool) (i : ℕ) (x : X) (xs : List X) → test x ≡ true → (is_some (position_from p (i + 1) xs) ≡ true → (y : X) × (test y ≡ true) × (p y ≡ true)) → (b : Bool) → p x ≡ b → is_some (position_from p i (x ∷ xs)) ≡ true
    → (y : X) × (test y ≡ true) × (p y ≡ true)
find_at test p i x xs e ih true k h = (x, e, k)
find_at test p i x xs e ih false k h = ih (let h1 = (rw k at h) in h1)

find_in : {X : Type 0} (test p : X → Bool) (i : ℕ) (xs : List X) → list_all test xs ≡ true → is_some (position_from p i xs) ≡ true → (x : X) × (test x ≡ true) × (p x ≡ true)
find_in test p i [] e h = absurd cc
find_in test p i (x ∷ xs) e h =
    let q = and_parts (test x) (list_all test xs) e in
    find_at test p i x xs q.0 (λ k. find_in test p (i + 1) xs q.1 k) (p x) refl h

-- a word with `_` behind it is a name
abbrev short : List ℕ → Bool
short w = not (is_word (w ++ 95 ∷ [])) && (all_ascii w && (nat_le (length w) 30 && nat_le (length (mangled w)) 40))

all_short : list_all short words ≡ true
unfolding is_word
all_short = refl

no_number : (bs l : List ℕ) → bs ≡ encode_utf8_all l → begins is_start l ≡ true → is_word bs ≡ false → sign_number bs ≡ None
unfolding is_word
no_number bs l e s h = ap sign_number e ∙ word_number l s ∙ ap (option_map (λ m. 30 + m)) (none (position (λ w. bytes_eq w (encode_utf8_all l)) words) (let h1 = (rw e at h) in h1))
  where
    none : (o : Option ℕ) → is_some o ≡ false → o ≡ None
    none None k = refl
    none (Some m) k = absurd cc

no_word : (bs l : List ℕ) → bs ≡ encode_utf8_all l → begins is_start l ≡ true → sign_number bs ≡ None → is_word bs ≡ false
unfolding is_word
no_word bs l e s h =
    let h1 : option_map (λ m. 30 + m) (position (λ w. bytes_eq w (encode_utf8_all l)) words) ≡ None = sym (word_number l s) ∙ ap sign_number (sym e) ∙ h in
    ap (λ (b : List ℕ). is_some (position (λ w. bytes_eq w b) words)) e ∙ none (position (λ w. bytes_eq w (encode_utf8_all l)) words) h1
  where
    none : (o : Option ℕ) → option_map (λ m. 30 + m) o ≡ None → is_some o ≡ false
    none None k = refl
    none (Some m) k = absurd cc

-- ---- the text of a name and what ends it

module _ (z : List ℕ) (g : ℕ → Bool) (R : ℕ → List ℕ → Reader ℕ (List ℕ)) (rest_good : (m : ℕ) (front : List ℕ) → Good (Tail z 39 m front) g (R m front)) where
  abbrev NameText : Language ℕ (List ℕ)
  NameText bs text = (c : ℕ) × (cs : List ℕ) × (bs ≡ encode_utf8_all (c ∷ cs)) × (is_first c ≡ true) × Fit 39 (50 - length (mangled_char c)) cs × (text ≡ mangled (c ∷ cs) ++ z)

  good_text : Good NameText g (next (first []) (λ p. R p.0 p.1))
  good_text = same (Then (First []) (λ p. Tail z 39 p.0 p.1)) NameText g (next (first []) (λ p. R p.0 p.1))
      (λ bs text t.
      let f = t.3 in
      let u = subst (λ (p : ℕ × List ℕ). Tail z 39 p.0 p.1 bs t.2) f.2 t.4 in
      (f.0, u.0, u.1, f.1, u.2, t.5 ∙ rw (f.3, u.3) (sym (append_assoc (mangled_char f.0) (mangled u.0) z))))
      (λ bs text t.
      ((50 - length (mangled_char t.0), encode_utf8 t.0), mangled_char t.0, mangled t.1 ++ z, (t.0, t.3, refl, refl), (t.1, t.2, t.4, refl), t.5 ∙ append_assoc (mangled_char t.0) (mangled t.1) z))
      (good_then (First []) (λ p. Tail z 39 p.0 p.1) never g (first []) (λ p. R p.0 p.1) (good_first []) (λ p front t. rest_good p.0 p.1) (λ p b back rest u e. ends_never (back ++ rest)))

  short_is : (bs : List ℕ) → is_word bs ≡ true → short bs ≡ true
  unfolding is_word
  short_is bs h =
      let h1 : is_some (position_from (λ s. bytes_eq s bs) 0 words) ≡ true = ap is_some (sym (position_from-zero (λ s. bytes_eq s bs) words)) ∙ h in
      let w = find_in short (λ s. bytes_eq s bs) 0 words all_short h1 in
      ap short (sym ((bytes_eq-Decides w.0 bs).0 w.2)) ∙ w.1

  module _ (z_line : z ++ 95 ∷ 95 ∷ [] ≡ 95 ∷ 95 ∷ z) where
    extends : (bs text : List ℕ) → NameText bs text → is_word bs ≡ true → IsViable (Passes is_word NameText g (next (first []) (λ p. R p.0 p.1)) good_text) text
    unfolding lib.Utf8.encode
    extends bs text t h =
        let c = t.0 in
        let cs = t.1 in
        let s = short_is bs h in
        let p = and_parts (not (is_word (bs ++ 95 ∷ []))) (all_ascii bs && (nat_le (length bs) 30 && nat_le (length (mangled bs)) 40)) s in
        let q = and_parts (all_ascii bs) (nat_le (length bs) 30 && nat_le (length (mangled bs)) 40) p.1 in
        let r = and_parts (nat_le (length bs) 30) (nat_le (length (mangled bs)) 40) q.1 in
        let same_as : bs ≡ c ∷ cs = encodes_same bs (c ∷ cs) (encodes-IsAscii bs (ascii_is bs q.0) ∙ t.2) in
        let count : length (c ∷ cs) ≤ 30 = (let k = leb-true (length bs) 30 r.0 in let k1 = (rw same_as at k) in k1) in
        let room : length (mangled (c ∷ cs)) ≤ 40 = (let k = leb-true (length (mangled bs)) 40 r.1 in let k1 = (rw same_as at k) in k1) in
        let all : mangled (cs ++ 95 ∷ []) ≡ mangled cs ++ 95 ∷ 95 ∷ [] = flat_map-append mangled_char cs (95 ∷ []) in
        let longer : length (mangled (cs ++ 95 ∷ [])) ≡ length (mangled cs) + 2 = ap length all ∙ length-append (mangled cs) (95 ∷ 95 ∷ []) in
        let first_len : length (mangled (c ∷ cs)) ≡ length (mangled_char c) + length (mangled cs) = length-append (mangled_char c) (mangled cs) in
        let fit : Fit 39 (50 - length (mangled_char c)) (cs ++ 95 ∷ []) = record {
          few = omega (arith, count, length-append cs (95 ∷ []));
          room = omega (arith, longer, first_len, room);
          each = all_line cs t.4.each;
        } in (
          95 ∷ 95 ∷ [],
          bs ++ 95 ∷ [],
          (
            no_of (is_word (bs ++ 95 ∷ [])) p.0,
            (
              c,
              cs ++ 95 ∷ [],
              ap (λ (r : List ℕ). r ++ 95 ∷ []) t.2 ∙ sym (encodes-append (c ∷ cs) (95 ∷ [])),
              t.3,
              fit,
              rw t.5 (append_assoc (mangled (c ∷ cs)) z (95 ∷ 95 ∷ []) ∙ rw z_line (whole c cs z all)),
            ),
          ),
        )
      where
        no_of : (b : Bool) → not b ≡ true → b ≡ false
        no_of true e = absurd cc
        no_of false e = refl

        all_line : (cs : List ℕ) → list_all is_piece cs ≡ true → list_all is_piece (cs ++ 95 ∷ []) ≡ true
        all_line cs e = list_all_behind cs e

        whole : (c : ℕ) (cs z : List ℕ) → mangled (cs ++ 95 ∷ []) ≡ mangled cs ++ 95 ∷ 95 ∷ [] → mangled (c ∷ cs) ++ 95 ∷ 95 ∷ z ≡ mangled (c ∷ (cs ++ 95 ∷ [])) ++ z
        whole c cs z all = rw all (simp append_assoc refl)

    name_there : (bs text : List ℕ) → Passes is_word NameText g (next (first []) (λ p. R p.0 p.1)) good_text bs text → Spells IsName (λ bs. mangled (chars bs) ++ z) bs text
    name_there bs text (sure, (c, cs, e, f, fit, et)) =
        let s = first_start c f in
        let m = pieces_more cs fit.each in
        let scalars : all_scalars (c ∷ cs) ≡ true = and_from (is_scalar c) (all_scalars cs) (and_parts (is_scalar c) true s.1).0 m.1 in
        let cs_is : chars bs ≡ c ∷ cs = ap chars e ∙ chars-encodes (c ∷ cs) scalars in
        let len : length (mangled (c ∷ cs)) ≡ length (mangled_char c) + length (mangled cs) = length-append (mangled_char c) (mangled cs) in (
          record {
            utf8 = (c ∷ cs, (scalars, sym e));
            identifier = (c, cs, cs_is, s.0, m.0);
            no_word = no_number bs (c ∷ cs) e s.0 sure;
            characters = rw cs_is (omega (arith, fit.few));
            mangled = rw cs_is (omega (arith, len, fit.room, char_len c));
          },
          et ∙ rw cs_is refl,
        )

    name_back : (bs text : List ℕ) → Spells IsName (λ bs. mangled (chars bs) ++ z) bs text → Passes is_word NameText g (next (first []) (λ p. R p.0 p.1)) good_text bs text
    name_back bs text (name, et) =
        let i = name.identifier in
        let c = i.0 in
        let cs = i.1 in
        let scalars : all_scalars (c ∷ cs) ≡ true = (let k = scalars-chars bs name.utf8 in let k1 = (rw i.2 at k) in k1) in
        let q = and_parts (is_scalar c) (all_scalars cs) scalars in
        let e : bs ≡ encode_utf8_all (c ∷ cs) = sym (encodes-chars bs name.utf8) ∙ ap encode_utf8_all i.2 in
        let count : length (c ∷ cs) ≤ 40 = (let k = name.characters in let k1 = (rw i.2 at k) in k1) in
        let room : length (mangled (c ∷ cs)) ≤ 50 = (let k = name.mangled in let k1 = (rw i.2 at k) in k1) in
        let len : length (mangled (c ∷ cs)) ≡ length (mangled_char c) + length (mangled cs) = length-append (mangled_char c) (mangled cs) in (
          no_word bs (c ∷ cs) e i.3 name.no_word,
          (
            c,
            cs,
            e,
            start_first c i.3 q.0,
            record { few = omega (arith, count); room = omega (arith, len, room); each = more_pieces cs i.4 q.1 },
            et ∙ rw i.2 refl,
          ),
        )

    good_whole : Good (Spells IsName (λ bs. mangled (chars bs) ++ z)) g (unless is_word (next (first []) (λ p. R p.0 p.1)))
    good_whole = same (Passes is_word NameText g (next (first []) (λ p. R p.0 p.1)) good_text) (Spells IsName (λ bs. mangled (chars bs) ++ z)) g (unless is_word (next (first []) (λ p. R p.0 p.1))) name_there name_back
        (good_unless is_word NameText g (next (first []) (λ p. R p.0 p.1)) good_text extends)

-- ---- names

-- a name
pub good_name : Good (Spells IsName mangled_name) is_name_byte name
unfolding name
good_name = same (Spells IsName (λ bs. mangled (chars bs) ++ [])) (Spells IsName mangled_name) is_name_byte name
    (λ bs text t. (t.0, t.1 ∙ append-nil (mangled (chars bs)))) (λ bs text t. (t.0, t.1 ∙ sym (append-nil (mangled (chars bs)))))
    (good_whole [] is_name_byte (more 39) (good_more 39) refl)

-- a name and the `_` behind it
pub good_name_line : Good (Spells IsName (λ bs. mangled_name bs ++ codes "_")) goes_line name_line
unfolding name_line
good_name_line = good_whole (95 ∷ []) goes_line (more_line 39) (good_more_line 39) refl
