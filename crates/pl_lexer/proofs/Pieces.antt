-- Pieces that are apart are lexed again.
use Rattle.std.proofs.Common.{◌≡◌, ℕ, zero, suc, ◌≤◌, ◌⊎◌, inl, inr, ◌||◌, ◌&&◌, ◌==◌, Bool, true, false, List, [], ◌∷◌, ◌++◌, length, Option, Some, None, refl, sym, ap, subst, ◌∙◌, arith}
use Rattle.std.specs.Prelude.{not, nat_le, nat_lt, Contains, encode_utf8_all, is_some}
use Rattle.std.specs.Char.{is_ascii_digit, is_ascii_alphabetic, is_ascii_alphanumeric}
use Rattle.std.specs.List.{list_all, concat}
use Rattle.std.specs.Str.{chars, all_scalars}
use Rattle.std.proofs.lemmas.Bool.{and_parts, and_from, leb-true, ltb-true}
use Rattle.std.proofs.lemmas.Str.{chars-encodes, encodes-IsAscii, scalars-chars}
use Rattle.std.proofs.Math.Utf8.{low_scalar}
use Rattle.unicode_ident.proofs.IdentLemmas.{is_xid_continue-ascii}
use Rattle.pl_readers.specs.Reader.{begins}
use Rattle.pl_lexer.specs.declared.tokens.Kind.{Kind}
use Rattle.pl_lexer.specs.declared.tokens.Kind.TheVariants as k
use Rattle.pl_base.specs.Tokens.{words}
use Rattle.pl_lexer.specs.Lexemes.{is_more, signs, symbols, IsIdentifier}
use Rattle.pl_lexer.specs.Tokens.{Cut, start, place_behind, sign_number, is_gap, kind_of, sign_or_name, all_tokens, IsLongNumber, IsLongName, AllShort, Lexed, IsLexed, mangled_len}
use Rattle.pl_lexer.specs.Printing.{IsPiece, is_apart, AreApart}
use Rattle.pl_lexer.specs.Proper.{IsName}
use Rattle.pl_lexer.proofs.Symbols.{of_each}
use Rattle.pl_lexer.proofs.Numbers.{all_ascii, ascii_is}
use Rattle.pl_lexer.proofs.Longest.{start_ascii, blank_low}
use Rattle.pl_lexer.proofs.Apart.{IsPlain, EndsBefore, plain_longest}
use Rattle.pl_lexer.proofs.Meanings.{kind_of_blank, kind_of_number, kind_of_name}

-- ---- each piece is a lexeme

signs_split : (xs ys : List (List ℕ)) (l : List ℕ) → Contains (xs ++ ys) l → Contains xs l ⊎ Contains ys l
signs_split [] ys l i = inr i
signs_split (x ∷ xs) ys l (zero, lt, is) = inl (0, omega arith, is)
signs_split (x ∷ xs) ys l (suc n, lt, is) = later (signs_split xs ys l (n, omega arith, is))
  where
    later : Contains xs l ⊎ Contains ys l → Contains (x ∷ xs) l ⊎ Contains ys l
    later (inl i) = inl (suc i.0, omega (arith, i.1), i.2)
    later (inr i) = inr i

-- an identifier of ASCII characters, as a test
abbrev is_ascii_identifier : List ℕ → Bool
is_ascii_identifier [] = false
is_ascii_identifier (c ∷ cs) = (nat_lt c 128 && (is_ascii_alphabetic c || (c == 95))) && list_all (λ d. nat_lt d 128 && (is_ascii_alphanumeric d || (d == 95))) cs

words_identifiers : list_all is_ascii_identifier words ≡ true
words_identifiers = refl

more_ascii : (cs : List ℕ) → list_all (λ d. nat_lt d 128 && (is_ascii_alphanumeric d || (d == 95))) cs ≡ true → list_all is_more cs ≡ true
more_ascii [] e = refl
more_ascii (d ∷ cs) e =
    let p = and_parts (nat_lt d 128 && (is_ascii_alphanumeric d || (d == 95))) (list_all (λ x. nat_lt x 128 && (is_ascii_alphanumeric x || (x == 95))) cs) e in
    let q = and_parts (nat_lt d 128) (is_ascii_alphanumeric d || (d == 95)) p.0 in
    and_from (is_more d) (list_all is_more cs) (is_xid_continue-ascii d (ltb-true d 128 q.0) ∙ q.1) (more_ascii cs p.1)

-- an identifier of ASCII characters is seen by a test
pub ascii_identifier : (l : List ℕ) → is_ascii_identifier l ≡ true → IsIdentifier l
ascii_identifier [] e = absurd cc
ascii_identifier (c ∷ cs) e =
    let p = and_parts (nat_lt c 128 && (is_ascii_alphabetic c || (c == 95))) (list_all (λ d. nat_lt d 128 && (is_ascii_alphanumeric d || (d == 95))) cs) e in
    let q = and_parts (nat_lt c 128) (is_ascii_alphabetic c || (c == 95)) p.0 in
    (c, cs, refl, start_ascii c (ltb-true c 128 q.0) ∙ q.1, more_ascii cs p.1)

sign_plain : (l : List ℕ) → Contains symbols l ⊎ Contains words l → IsPlain l
sign_plain l (inl i) = inr (inr (inr i))
sign_plain l (inr i) = inr (inl (ascii_identifier l (of_each is_ascii_identifier words l words_identifiers i)))

piece_plain : (l : List ℕ) → IsPiece l → IsPlain l
piece_plain l (inl b) = inl b
piece_plain l (inr (inl s)) = sign_plain l (signs_split symbols words l s)
piece_plain l (inr (inr (inl n))) = inr (inl (subst IsIdentifier (sym n.2) n.1.identifier))
piece_plain l (inr (inr (inr n))) = inr (inr (inl n.0))

-- ---- each piece is of characters

scalars_ascii : (l : List ℕ) → all_ascii l ≡ true → all_scalars l ≡ true
scalars_ascii [] e = refl
scalars_ascii (c ∷ l) e =
    let p = and_parts (nat_lt c 128) (all_ascii l) e in
    let low = ltb-true c 128 p.0 in
    and_from _ (all_scalars l) (low_scalar c (omega arith)) (scalars_ascii l p.1)

signs_ascii : list_all all_ascii signs ≡ true
signs_ascii = refl

scalars_digits : (l : List ℕ) → list_all is_ascii_digit l ≡ true → all_scalars l ≡ true
scalars_digits [] e = refl
scalars_digits (c ∷ l) e =
    let p = and_parts (is_ascii_digit c) (list_all is_ascii_digit l) e in
    let q = and_parts (nat_le 48 c) (nat_le c 57) p.0 in
    let low = leb-true c 57 q.1 in
    and_from _ (all_scalars l) (low_scalar c (omega arith)) (scalars_digits l p.1)

piece_scalars : (l : List ℕ) → IsPiece l → all_scalars l ≡ true
piece_scalars l (inl b) = let low = blank_low b.0 b.2 in rw b.1 (and_from _ true (low_scalar b.0 (omega arith)) refl)
piece_scalars l (inr (inl s)) = scalars_ascii l (of_each all_ascii signs l signs_ascii s)
piece_scalars l (inr (inr (inl n))) = rw n.2 (scalars-chars n.0 n.1.utf8)
piece_scalars l (inr (inr (inr n))) = scalars_digits l n.0.1

-- ---- each piece is within the limits

abbrev is_sign_text : List ℕ → Bool
is_sign_text s = not (is_gap s) && (not (begins is_ascii_digit s) && is_some (sign_number s))

signs_texts : list_all is_sign_text signs ≡ true
signs_texts = refl

not_true : (b : Bool) → not b ≡ true → b ≡ false
not_true true e = absurd cc
not_true false e = refl

number_of : (o : Option ℕ) → is_some o ≡ true → (n : ℕ) × (o ≡ Some n)
number_of None e = absurd cc
number_of (Some n) e = (n, refl)

sign_kind_at : (l : List ℕ) (n : ℕ) → is_gap l ≡ false → begins is_ascii_digit l ≡ false → encode_utf8_all l ≡ l → sign_number l ≡ Some n → kind_of l ≡ Some (k.Sign n)
sign_kind_at l n gap digit same number = rw (gap, digit, same, number) refl

sign_kind : (l : List ℕ) → Contains signs l → (n : ℕ) × (sign_number l ≡ Some n) × (kind_of l ≡ Some (k.Sign n))
sign_kind l s =
    let e = of_each is_sign_text signs l signs_texts s in
    let p = and_parts (not (is_gap l)) (not (begins is_ascii_digit l) && is_some (sign_number l)) e in
    let q = and_parts (not (begins is_ascii_digit l)) (is_some (sign_number l)) p.1 in
    let n = number_of (sign_number l) q.1 in
    let same : encode_utf8_all l ≡ l = encodes-IsAscii l (ascii_is l (of_each all_ascii signs l signs_ascii s)) in
    (n.0, n.1, sign_kind_at l n.0 (not_true (is_gap l) p.0) (not_true (begins is_ascii_digit l) q.0) same n.1)

abbrev IsShort : List ℕ → Option Kind → Type 0
IsShort l kind = (IsLongNumber kind → ⊥) × (IsLongName l kind → ⊥)

short_name : (l bytes : List ℕ) → IsName bytes → l ≡ chars bytes → IsLongName l (Some (k.Word bytes)) → ⊥
short_name l bytes name is (inl h) = omega (arith, name.characters, ap length is)
short_name l bytes name is (inr h) = let m : mangled_len l ≤ 50 = rw is name.mangled in omega arith

piece_short : (l : List ℕ) → IsPiece l → IsShort l (kind_of l)
piece_short l (inl b) = rw (kind_of_blank l b) ((λ h. h), (λ h. h))
piece_short l (inr (inl s)) = rw (sign_kind l s).2 ((λ h. h), (λ h. h))
piece_short l (inr (inr (inl n))) =
    let is : kind_of l ≡ Some (k.Word n.0) = ap kind_of n.2 ∙ kind_of_name n.0 n.1 in
    rw is ((λ h. h), (λ h. short_name l n.0 n.1 n.2 h))
piece_short l (inr (inr (inr n))) = rw (kind_of_number l n.0) ((λ h. omega (arith, n.1)), (λ h. h))

-- what a sign stands for is its number
pub kind_of_sign : (l : List ℕ) (n : ℕ) → Contains signs l → sign_number l ≡ Some n → kind_of l ≡ Some (k.Sign n)
kind_of_sign l n s is =
    let found = sign_kind l s in
    found.2 ∙ ap (λ (o : Option ℕ). Some (sign_or_name o l)) (sym found.1 ∙ is)

-- ---- pieces in a row

first_piece : (ls : List (List ℕ)) (l : List ℕ) → AreApart (l ∷ ls) → IsPiece l
first_piece [] l a = a
first_piece (m ∷ ls) l a = a.0

other_pieces : (ls : List (List ℕ)) (l : List ℕ) → AreApart (l ∷ ls) → AreApart ls
other_pieces [] l a = tt
other_pieces (m ∷ ls) l a = a.2

ends_before : (l m rest : List ℕ) → begins (is_apart l) m ≡ true → EndsBefore l (m ++ rest)
ends_before l [] rest e = absurd cc
ends_before l (d ∷ m) rest e = e

first_ends : (ls : List (List ℕ)) (l : List ℕ) → AreApart (l ∷ ls) → EndsBefore l (concat ls)
first_ends [] l a = tt
first_ends (m ∷ ls) l a = ends_before l m (concat ls) a.1

pub apart_cut : (ls : List (List ℕ)) → AreApart ls → Cut (concat ls) ls []
apart_cut [] a = refl
apart_cut (l ∷ ls) a = (concat ls, refl, plain_longest l (concat ls) (piece_plain l (first_piece ls l a)) (first_ends ls l a), apart_cut ls (other_pieces ls l a))

apart_short : (ls : List (List ℕ)) → AreApart ls → AllShort ls
apart_short [] a = tt
apart_short (l ∷ ls) a = let s = piece_short l (first_piece ls l a) in (s.0, s.1, apart_short ls (other_pieces ls l a))

both_scalars : (xs ys : List ℕ) → all_scalars xs ≡ true → all_scalars ys ≡ true → all_scalars (xs ++ ys) ≡ true
both_scalars [] ys e f = f
both_scalars (x ∷ xs) ys e f = let p = and_parts _ (all_scalars xs) e in and_from _ (all_scalars (xs ++ ys)) p.0 (both_scalars xs ys p.1 f)

apart_scalars : (ls : List (List ℕ)) → AreApart ls → all_scalars (concat ls) ≡ true
apart_scalars [] a = refl
apart_scalars (l ∷ ls) a = both_scalars l (concat ls) (piece_scalars l (first_piece ls l a)) (apart_scalars ls (other_pieces ls l a))

-- the tokens of pieces that are apart are theirs
pub apart_lexed : (ls : List (List ℕ)) → AreApart ls → IsLexed (encode_utf8_all (concat ls)) (all_tokens ls)
apart_lexed ls a =
    let scalars = apart_scalars ls a in
    let back : concat ls ≡ chars (encode_utf8_all (concat ls)) = sym (chars-encodes (concat ls) scalars) in (
      (concat ls, (scalars, refl)),
      (ls, place_behind start ls, subst (λ (t : List ℕ). Lexed t ls [] (place_behind start ls)) back (record { cut = apart_cut ls a; short = apart_short ls a; place = refl }), refl),
    )
