-- Pieces of which each may stand before the next are lexed again.
use Rattle.std.proofs.Common.{◌≡◌, ◌∙◌, ℕ, zero, suc, ◌+◌, ◌^◌, ◌<◌, inl, inr, ◌||◌, ◌&&◌, ◌==◌, Bool, true, false, List, [], ◌∷◌, ◌++◌, length, get_or, Option, Some, None, refl, sym, ap, subst, arith, rules, lt_of_lt_of_le}
use Rattle.std.specs.Prelude.{pos, not, nat_le, nat_lt, Contains, encode_utf8_all, codes, decimal, if◌then◌else◌}
use Rattle.std.specs.Char.{is_ascii_digit, is_ascii_alphabetic, is_ascii_alphanumeric}
use Rattle.std.specs.List.{list_all, concat}
use Rattle.std.specs.Str.{chars}
use Rattle.std.proofs.lemmas.Bool.{and_parts, or_cases, eqb-true, leb-true, ltb-true, agree_below_at}
use Rattle.std.proofs.lemmas.List.{get_or_default}
use Rattle.std.proofs.lemmas.Str.{encodes-IsAscii, encodes-chars, encodes-append}
use Rattle.std.proofs.lemmas.Str.Parse.{IsNumeralModel, numerals_by_fold}
use Rattle.std.proofs.lemmas.Fmt.{decimal_is_IsNumeral_wide, IsAscii-decimal_wide}
use Rattle.unicode_ident.proofs.IdentLemmas.{is_xid_continue-ascii}
use Rattle.pl_readers.specs.Bytes.{value_from}
use Rattle.pl_readers.specs.Reader.{begins}
use Rattle.pl_lexer.specs.declared.tokens.Kind.{Kind}
use Rattle.pl_lexer.specs.declared.tokens.Kind.TheVariants as k
use Rattle.pl_lexer.specs.Lexemes.{is_blank, is_start, is_more, signs, IsNumber}
use Rattle.pl_lexer.specs.Tokens.{sign_number, kind_of}
use Rattle.pl_lexer.specs.Printing.{IsPiece, is_joining, is_apart, AreApart}
use Rattle.pl_lexer.specs.Printing as printing
use Rattle.pl_lexer.proofs.Symbols.{of_each}
use Rattle.pl_lexer.proofs.Numbers.{all_ascii, ascii_is}
use Rattle.pl_lexer.proofs.Longest.{start_ascii, digit_apart, start_apart}
use Rattle.pl_lexer.proofs.Meanings.{kind_of_number, kind_of_name}
use Rattle.pl_lexer.proofs.Pieces.{kind_of_sign}
use Rattle.pl_printed.proofs.Laid.{Piece, Gap, Line, Mark, Named, Count, kinds}
use Rattle.pl_printed.proofs.Spelled.{sign_text, bytes, spell, spelled}
use Rattle.pl_printed.proofs.Touching.{is_word, joins, ends_word, ends_number, may_touch, touching, IsProper, AreProper}

-- ---- the table of signs

abbrev letter : ℕ → Bool
letter c = is_ascii_alphabetic c || (c == 95)

abbrev alike : Bool → Bool → Bool
alike true b = b
alike false b = not b

-- a sign's first character, and its number
abbrev is_like : ℕ → List ℕ → Bool
is_like n [] = false
is_like n (c ∷ cs) =
    nat_lt c 128 && (not (is_blank c) && (not (is_ascii_digit c) && (alike (letter c) (is_word n) && (alike (is_ascii_alphanumeric c || (c == 95)) (is_word n) && alike (is_joining c) (joins (Mark n))))))

abbrev is_numbered : Option ℕ → ℕ → Bool
is_numbered None n = false
is_numbered (Some m) n = m == n

abbrev are_like : ℕ → List (List ℕ) → Bool
are_like n [] = true
are_like n (s ∷ ss) = (is_like n s && is_numbered (sign_number s) n) && are_like (suc n) ss

signs_like : are_like 0 signs ≡ true
signs_like = refl

like_at : (ss : List (List ℕ)) (m n : ℕ) → are_like m ss ≡ true → n < length ss → (is_like (m + n) (get_or ss n []) && is_numbered (sign_number (get_or ss n [])) (m + n)) ≡ true
like_at [] m n e lt = absurd (omega arith)
like_at (s ∷ ss) m zero e lt =
    let p = and_parts (is_like m s && is_numbered (sign_number s) m) (are_like (suc m) ss) e in
    let is : m ≡ m + 0 = omega arith in
    subst (λ (q : ℕ). (is_like q s && is_numbered (sign_number s) q) ≡ true) is p.0
like_at (s ∷ ss) m (suc n) e lt =
    let p = and_parts (is_like m s && is_numbered (sign_number s) m) (are_like (suc m) ss) e in
    let is : suc m + n ≡ m + suc n = omega arith in
    subst (λ (q : ℕ). (is_like q (get_or ss n []) && is_numbered (sign_number (get_or ss n [])) q) ≡ true) is (like_at ss (suc m) n p.1 (omega arith))

sign_like : (n : ℕ) → n < 101 → (is_like n (sign_text n) && is_numbered (sign_number (sign_text n)) n) ≡ true
sign_like n lt =
    let is : 0 + n ≡ n = omega arith in
    subst (λ (q : ℕ). (is_like q (sign_text n) && is_numbered (sign_number (sign_text n)) q) ≡ true) is (like_at signs 0 n signs_like lt)

numbered_is : (o : Option ℕ) (n : ℕ) → is_numbered o n ≡ true → o ≡ Some n
numbered_is None n e = absurd cc
numbered_is (Some m) n e = ap (λ (q : ℕ). Some q) (eqb-true m n e)

alike_is : (a b : Bool) → alike a b ≡ true → a ≡ b
alike_is true true e = refl
alike_is true false e = absurd cc
alike_is false true e = absurd cc
alike_is false false e = refl

not_true : (b : Bool) → not b ≡ true → b ≡ false
not_true true e = absurd cc
not_true false e = refl

-- what the first character of a sign is
record First (n c : ℕ) : Type 0 where
  blank : is_blank c ≡ false
  digit : is_ascii_digit c ≡ false
  start : is_start c ≡ is_word n
  more : is_more c ≡ is_word n
  joining : is_joining c ≡ joins (Mark n)

first_of : (n : ℕ) (s : List ℕ) → is_like n s ≡ true → (c : ℕ) × (cs : List ℕ) × (s ≡ c ∷ cs) × First n c
first_of n [] e = absurd cc
first_of n (c ∷ cs) e =
    let a = and_parts (nat_lt c 128) _ e in
    let b = and_parts (not (is_blank c)) _ a.1 in
    let d = and_parts (not (is_ascii_digit c)) _ b.1 in
    let f = and_parts (alike (letter c) (is_word n)) _ d.1 in
    let g = and_parts (alike (is_ascii_alphanumeric c || (c == 95)) (is_word n)) (alike (is_joining c) (joins (Mark n))) f.1 in
    let low : c < 128 = ltb-true c 128 a.0 in (
      c,
      cs,
      refl,
      record {
        blank = not_true (is_blank c) b.0;
        digit = not_true (is_ascii_digit c) d.0;
        start = start_ascii c low ∙ alike_is (letter c) (is_word n) f.0;
        more = is_xid_continue-ascii c low ∙ alike_is (is_ascii_alphanumeric c || (c == 95)) (is_word n) g.0;
        joining = alike_is (is_joining c) (joins (Mark n)) g.1;
      },
    )

sign_first : (n : ℕ) → n < 101 → (c : ℕ) × (cs : List ℕ) × (sign_text n ≡ c ∷ cs) × First n c
sign_first n lt = first_of n (sign_text n) (and_parts (is_like n (sign_text n)) (is_numbered (sign_number (sign_text n)) n) (sign_like n lt)).0

sign_known : (n : ℕ) → n < 101 → sign_number (sign_text n) ≡ Some n
sign_known n lt = numbered_is (sign_number (sign_text n)) n (and_parts (is_like n (sign_text n)) (is_numbered (sign_number (sign_text n)) n) (sign_like n lt)).1

sign_in : (n : ℕ) → n < 101 → Contains signs (sign_text n)
sign_in n lt = (n, lt, get_or_default signs n (sign_text n) [] lt)

-- ---- numbers

own : IsNumeralModel (λ ds. list_all is_ascii_digit ds ≡ true) (value_from 0)
own = numerals_by_fold _ (search rules) value_from (search rules)

wide : (n : ℕ) → n < 2 ^ 127 → n < 10 ^ 64
wide n lt = lt_of_lt_of_le lt (leb-true (2 ^ 127) (10 ^ 64) refl)

number_some : (ds : List ℕ) → 0 < length ds → ds ≡ [] → ⊥
number_some [] lt e = omega arith
number_some (c ∷ cs) lt e = absurd cc

number_is : (n : ℕ) → n < 2 ^ 127 → IsNumber (decimal n)
number_is n lt =
    let m = decimal_is_IsNumeral_wide n (wide n lt) in
    (number_some (decimal n) m.0.0, own.from (decimal n) m.0.1)

number_value : (n : ℕ) → n < 2 ^ 127 → value_from 0 (decimal n) ≡ n
number_value n lt =
    let m = decimal_is_IsNumeral_wide n (wide n lt) in
    own.same (decimal n) m.0.1 ∙ m.1

digits_first : (ds : List ℕ) → IsNumber ds → (c : ℕ) × (cs : List ℕ) × (ds ≡ c ∷ cs) × (is_ascii_digit c ≡ true)
digits_first [] n = absurd (n.0 refl)
digits_first (c ∷ cs) n = (c, cs, refl, (and_parts (is_ascii_digit c) (list_all is_ascii_digit cs) n.1).0)

-- ---- each piece

piece_is : (p : Piece) → IsProper p → IsPiece (spell p)
piece_is Gap h = inl (32, refl, refl)
piece_is Line h = inl (10, refl, refl)
piece_is (Mark n) h = inr (inl (sign_in n h))
piece_is (Named x) h = inr (inr (inl (x, h, refl)))
piece_is (Count n) h = inr (inr (inr (number_is n h, subst (λ (m : ℕ). m < 2 ^ 127) (sym (number_value n h)) h)))

-- ---- two pieces side by side

start_digit : (c : ℕ) (b : Bool) → is_ascii_digit c ≡ b → is_start c ≡ true → b ≡ false
start_digit c true e s = let none = (digit_apart c e).1 in absurd cc
start_digit c false e s = refl

equal_low : (c d : ℕ) → d < 128 → (c == d) ≡ true → c < 128
equal_low c d h e = rw (eqb-true c d e) h

joining_low : (c : ℕ) → is_joining c ≡ true → c < 128
joining_low c e =
    elim (or_cases ((c == 61) || (c == 62) || (c == 42)) (c == 47) e) [
      | inr h ↦ equal_low c 47 (omega arith) h
      | inl f ↦ elim (or_cases ((c == 61) || (c == 62)) (c == 42) f) [
        | inr h ↦ equal_low c 42 (omega arith) h
        | inl g ↦ elim (or_cases (c == 61) (c == 62) g) [ inl h ↦ equal_low c 61 (omega arith) h | inr h ↦ equal_low c 62 (omega arith) h ]
      ]
    ]

start_joining : (c : ℕ) (b : Bool) → is_joining c ≡ b → is_start c ≡ true → b ≡ false
start_joining c false e s = refl
start_joining c true e s =
    let low = joining_low c e in
    let a = agree_below_at (λ x. is_joining x && (is_ascii_alphabetic x || (x == 95))) (λ _. false) 128 c refl low in
    let is : (is_ascii_alphabetic c || (c == 95)) ≡ true = sym (start_ascii c low) ∙ s in
    let b = (rw e at a) in
    let d = (rw is at b) in
    absurd cc

digit_joining : (c : ℕ) → is_ascii_digit c ≡ true → is_joining c ≡ false
digit_joining c e =
    let p = and_parts (nat_le 48 c) (nat_le c 57) e in
    let low : c < 128 = omega (arith, leb-true c 57 p.1) in
    let a = agree_below_at (λ x. is_ascii_digit x && is_joining x) (λ _. false) 128 c refl low in
    (rw e at a)

-- behind a letter
after_start : (c : ℕ) (cs : List ℕ) (d : ℕ) → is_start c ≡ true → is_more d ≡ false → is_apart (c ∷ cs) d ≡ true
after_start c cs d s m = rw (start_apart c (is_blank c) refl s, s, m) refl

after_digit : (c : ℕ) (cs : List ℕ) (d : ℕ) → is_ascii_digit c ≡ true → is_ascii_digit d ≡ false → is_apart (c ∷ cs) d ≡ true
after_digit c cs d s m = let a = digit_apart c s in rw (a.0, a.1, s, m) refl

after_symbol : (n c : ℕ) (cs : List ℕ) (d : ℕ) → First n c → is_word n ≡ false → is_joining d ≡ false → is_apart (c ∷ cs) d ≡ true
after_symbol n c cs d f w m = let no : is_start c ≡ false = f.start ∙ w in rw (f.blank, no, f.digit, m) refl

more_blank : is_more 32 ≡ false
more_blank = is_xid_continue-ascii 32 (omega arith)

more_line : is_more 10 ≡ false
more_line = is_xid_continue-ascii 10 (omega arith)

-- a word or a name before a piece
word_before : (c : ℕ) (cs : List ℕ) (q : Piece) → is_start c ≡ true → IsProper q → ends_word q ≡ true → begins (is_apart (c ∷ cs)) (spell q) ≡ true
word_before c cs Gap s h e = after_start c cs 32 s more_blank
word_before c cs Line s h e = after_start c cs 10 s more_line
word_before c cs (Mark n) s h e =
    let f = sign_first n h in
    let no : is_more f.0 ≡ false = f.3.more ∙ not_true (is_word n) e in
    subst (λ (t : List ℕ). begins (is_apart (c ∷ cs)) t ≡ true) (sym f.2) (after_start c cs f.0 s no)
word_before c cs (Named x) s h e = absurd cc
word_before c cs (Count n) s h e = absurd cc

number_before : (c : ℕ) (cs : List ℕ) (q : Piece) → is_ascii_digit c ≡ true → IsProper q → ends_number q ≡ true → begins (is_apart (c ∷ cs)) (spell q) ≡ true
number_before c cs Gap s h e = after_digit c cs 32 s refl
number_before c cs Line s h e = after_digit c cs 10 s refl
number_before c cs (Mark n) s h e =
    let f = sign_first n h in
    subst (λ (t : List ℕ). begins (is_apart (c ∷ cs)) t ≡ true) (sym f.2) (after_digit c cs f.0 s f.3.digit)
number_before c cs (Named x) s h e =
    let i = h.identifier in
    subst (λ (t : List ℕ). begins (is_apart (c ∷ cs)) t ≡ true) (sym i.2) (after_digit c cs i.0 s (start_digit i.0 (is_ascii_digit i.0) refl i.3))
number_before c cs (Count n) s h e = absurd cc

symbol_before : (n c : ℕ) (cs : List ℕ) (q : Piece) → First n c → is_word n ≡ false → IsProper q → not (joins q) ≡ true → begins (is_apart (c ∷ cs)) (spell q) ≡ true
symbol_before n c cs Gap f w h e = after_symbol n c cs 32 f w refl
symbol_before n c cs Line f w h e = after_symbol n c cs 10 f w refl
symbol_before n c cs (Mark m) f w h e =
    let g = sign_first m h in
    let no : is_joining g.0 ≡ false = g.3.joining ∙ not_true (joins (Mark m)) e in
    subst (λ (t : List ℕ). begins (is_apart (c ∷ cs)) t ≡ true) (sym g.2) (after_symbol n c cs g.0 f w no)
symbol_before n c cs (Named x) f w h e =
    let i = h.identifier in
    subst (λ (t : List ℕ). begins (is_apart (c ∷ cs)) t ≡ true) (sym i.2) (after_symbol n c cs i.0 f w (start_joining i.0 (is_joining i.0) refl i.3))
symbol_before n c cs (Count m) f w h e =
    let g = digits_first (decimal m) (number_is m h) in
    subst (λ (t : List ℕ). begins (is_apart (c ∷ cs)) t ≡ true) (sym g.2) (after_symbol n c cs g.0 f w (digit_joining g.0 g.3))

sign_before : (n c : ℕ) (cs : List ℕ) (q : Piece) (b : Bool) → is_word n ≡ b → First n c → IsProper q → (if b then ends_word q else not (joins q)) ≡ true → begins (is_apart (c ∷ cs)) (spell q) ≡ true
sign_before n c cs q true w f h e = word_before c cs q (f.start ∙ w) h e
sign_before n c cs q false w f h e = symbol_before n c cs q f w h e

gap_before : (q : Piece) → IsProper q → (c : ℕ) → is_blank c ≡ true → begins (is_apart (c ∷ [])) (spell q) ≡ true
gap_before Gap h c e = rw e refl
gap_before Line h c e = rw e refl
gap_before (Mark n) h c e = let f = sign_first n h in subst (λ (t : List ℕ). begins (is_apart (c ∷ [])) t ≡ true) (sym f.2) (rw e refl)
gap_before (Named x) h c e = let i = h.identifier in subst (λ (t : List ℕ). begins (is_apart (c ∷ [])) t ≡ true) (sym i.2) (rw e refl)
gap_before (Count n) h c e = let g = digits_first (decimal n) (number_is n h) in subst (λ (t : List ℕ). begins (is_apart (c ∷ [])) t ≡ true) (sym g.2) (rw e refl)

pub apart : (p q : Piece) → IsProper p → IsProper q → may_touch p q ≡ true → begins (is_apart (spell p)) (spell q) ≡ true
apart Gap q h i e = gap_before q i 32 refl
apart Line q h i e = gap_before q i 10 refl
apart (Mark n) q h i e =
    let f = sign_first n h in
    subst (λ (t : List ℕ). begins (is_apart t) (spell q) ≡ true) (sym f.2) (sign_before n f.0 f.1 q (is_word n) refl f.3 i e)
apart (Named x) q h i e =
    let w = h.identifier in
    subst (λ (t : List ℕ). begins (is_apart t) (spell q) ≡ true) (sym w.2) (word_before w.0 w.1 q w.3 i e)
apart (Count n) q h i e =
    let g = digits_first (decimal n) (number_is n h) in
    subst (λ (t : List ℕ). begins (is_apart t) (spell q) ≡ true) (sym g.2) (number_before g.0 g.1 q g.3 i e)

-- pieces in a row
pub are_apart : (ps : List Piece) → AreProper ps → touching ps ≡ true → AreApart (spelled ps)
are_apart [] h e = tt
are_apart (p ∷ []) h e = piece_is p h.0
are_apart (p ∷ q ∷ ps) h e =
    let w = and_parts (may_touch p q) (touching (q ∷ ps)) e in
    (piece_is p h.0, apart p q h.0 h.1.0 w.0, are_apart (q ∷ ps) h.1 w.1)

-- ---- their bytes and their kinds

signs_ascii : list_all all_ascii signs ≡ true
signs_ascii = refl

sign_bytes : (n : ℕ) → n < 101 → encode_utf8_all (sign_text n) ≡ sign_text n
sign_bytes n lt = encodes-IsAscii (sign_text n) (ascii_is (sign_text n) (of_each all_ascii signs (sign_text n) signs_ascii (sign_in n lt)))

blank_bytes : (l : List ℕ) → all_ascii l ≡ true → encode_utf8_all l ≡ l
blank_bytes l h = encodes-IsAscii l (ascii_is l h)

pub bytes_are : (ps : List Piece) → AreProper ps → encode_utf8_all (concat (spelled ps)) ≡ bytes ps
bytes_are [] h = refl
bytes_are (Gap ∷ ps) h = encodes-append (codes " ") (concat (spelled ps)) ∙ ap (λ (z : List ℕ). z ++ encode_utf8_all (concat (spelled ps))) (blank_bytes (codes " ") refl) ∙ ap (λ (z : List ℕ). codes " " ++ z) (bytes_are ps h.1)
bytes_are (Line ∷ ps) h = encodes-append (codes "\n") (concat (spelled ps)) ∙ ap (λ (z : List ℕ). z ++ encode_utf8_all (concat (spelled ps))) (blank_bytes (codes "\n") refl) ∙ ap (λ (z : List ℕ). codes "\n" ++ z) (bytes_are ps h.1)
bytes_are (Mark n ∷ ps) h = encodes-append (sign_text n) (concat (spelled ps)) ∙ ap (λ (z : List ℕ). z ++ encode_utf8_all (concat (spelled ps))) (sign_bytes n h.0) ∙ ap (λ (z : List ℕ). sign_text n ++ z) (bytes_are ps h.1)
bytes_are (Named x ∷ ps) h = encodes-append (chars x) (concat (spelled ps)) ∙ ap (λ (z : List ℕ). z ++ encode_utf8_all (concat (spelled ps))) (encodes-chars x h.0.utf8) ∙ ap (λ (z : List ℕ). x ++ z) (bytes_are ps h.1)
bytes_are (Count n ∷ ps) h =
    encodes-append (decimal n) (concat (spelled ps)) ∙ ap (λ (z : List ℕ). z ++ encode_utf8_all (concat (spelled ps))) (encodes-IsAscii (decimal n) (IsAscii-decimal_wide n (wide n h.0))) ∙ ap (λ (z : List ℕ). decimal n ++ z) (bytes_are ps h.1)

pub kinds_are : (ps : List Piece) → AreProper ps → printing.kinds_of (spelled ps) ≡ kinds ps
kinds_are [] h = refl
kinds_are (Gap ∷ ps) h = kinds_are ps h.1
kinds_are (Line ∷ ps) h = kinds_are ps h.1
kinds_are (Mark n ∷ ps) h = rw (kind_of_sign (sign_text n) n (sign_in n h.0) (sign_known n h.0)) (ap (λ (z : List Kind). k.Sign n ∷ z) (kinds_are ps h.1))
kinds_are (Named x ∷ ps) h = rw (kind_of_name x h.0) (ap (λ (z : List Kind). k.Word x ∷ z) (kinds_are ps h.1))
kinds_are (Count n ∷ ps) h =
    let is : kind_of (decimal n) ≡ Some (k.Number (pos n)) = kind_of_number (decimal n) (number_is n h.0) ∙ ap (λ (m : ℕ). Some (k.Number (pos m))) (number_value n h.0) in
    rw is (ap (λ (z : List Kind). k.Number (pos n) ∷ z) (kinds_are ps h.1))
