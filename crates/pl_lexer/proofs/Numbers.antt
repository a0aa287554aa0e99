-- The number of a sign: a word begins as an identifier does, and a symbol does not.
use Rattle.std.proofs.Common.{◌≡◌, ℕ, suc, ◌+◌, ◌||◌, ◌&&◌, ◌==◌, Bool, true, false, cond, List, [], ◌∷◌, ◌++◌, length, Some, None, refl, sym, ap, ◌∙◌, arith}
use Rattle.std.specs.Prelude.{not, nat_lt, Contains, position, encode_utf8_all, option_map}
use Rattle.std.specs.Char.{is_ascii_alphabetic}
use Rattle.std.specs.List.{list_all, position_from}
use Rattle.std.specs.Str.{bytes_eq, IsAscii}
use Rattle.std.proofs.lemmas.Bool.{ltb-true, and_parts}
use Rattle.std.proofs.lemmas.Iterator.Adapters.{position_from-zero}
use Rattle.std.proofs.lemmas.List.Elements.{All-contains_itself}
use Rattle.std.proofs.lemmas.List.Sums.{AllPass-from_list_all, list_all-from_AllPass}
use Rattle.std.proofs.lemmas.Slice.Eq.{bytes_eq-Decides}
use Rattle.std.proofs.lemmas.Str.{encodes-IsAscii, encodes_same}
use Rattle.std.proofs.lemmas.Str.Ascii.{IsAscii-from_all}
use Rattle.pl_readers.specs.Reader.{begins}
use Rattle.pl_base.specs.Tokens.{words}
use Rattle.pl_lexer.specs.Lexemes.{is_start, symbols}
use Rattle.pl_lexer.specs.Tokens.{sign_number}
use Rattle.pl_lexer.proofs.Symbols.{of_each, first_of}
use Rattle.pl_lexer.proofs.Longest.{start_ascii}

-- ---- places in a list of two parts

skip_from : {X : Type 0} (p : X → Bool) (i : ℕ) (xs ys : List X) → list_all (λ x. not (p x)) xs ≡ true → position_from p i (xs ++ ys) ≡ position_from p (length xs + i) ys
skip_from p i [] ys none = let e : 0 + i ≡ i = omega arith in rw e refl
skip_from p i (x ∷ xs) ys none = skip_at p i x xs ys (p x) refl none (λ h. skip_from p (i + 1) xs ys h)
  where
    skip_at : {X : Type 0} (p : X → Bool) (i : ℕ) (x : X) (xs ys : List X) (b : Bool) → p x ≡ b → list_all (λ z. not (p z)) (x ∷ xs) ≡ true → (list_all (λ z. not (p z)) xs ≡ true → position_from p (i + 1) (xs ++ ys) ≡ position_from p (length xs + (i + 1)) ys)
        → position_from p i (x ∷ (xs ++ ys)) ≡ position_from p (suc (length xs) + i) ys
    skip_at p i x xs ys true e none ih = let h = (and_parts (not (p x)) (list_all (λ z. not (p z)) xs) none).0 in let h1 : false ≡ true = rw e at h in absurd cc
    skip_at p i x xs ys false e none ih =
        let h = (and_parts (not (p x)) (list_all (λ z. not (p z)) xs) none).1 in
        let n : length xs + (i + 1) ≡ suc (length xs) + i = omega arith in
        rw e (ih h ∙ ap (λ m. position_from p m ys) n)

shift_from : {X : Type 0} (p : X → Bool) (i j : ℕ) (ys : List X) → position_from p (i + j) ys ≡ option_map (λ n. i + n) (position_from p j ys)
shift_from p i j [] = refl
shift_from p i j (y ∷ ys) = shift_at p i j y ys (p y) refl (shift_from p i (j + 1) ys)
  where
    shift_at : {X : Type 0} (p : X → Bool) (i j : ℕ) (y : X) (ys : List X) (b : Bool) → p y ≡ b → position_from p (i + (j + 1)) ys ≡ option_map (λ n. i + n) (position_from p (j + 1) ys)
        → position_from p (i + j) (y ∷ ys) ≡ option_map (λ n. i + n) (position_from p j (y ∷ ys))
    shift_at p i j y ys true e ih = rw e refl
    shift_at p i j y ys false e ih = let n : i + j + 1 ≡ i + (j + 1) = omega arith in rw (e, n) ih

-- where none of the first part passes
position_skip : {X : Type 0} (p : X → Bool) (xs ys : List X) → list_all (λ x. not (p x)) xs ≡ true → position p (xs ++ ys) ≡ option_map (λ n. length xs + n) (position p ys)
position_skip p xs ys none =
    position_from-zero p (xs ++ ys) ∙ skip_from p 0 xs ys none ∙ shift_from p (length xs) 0 ys ∙ ap (option_map (λ n. length xs + n)) (sym (position_from-zero p ys))

none_from : {X : Type 0} (p : X → Bool) (i : ℕ) (ys : List X) → list_all (λ x. not (p x)) ys ≡ true → position_from p i ys ≡ None
none_from p i [] none = refl
none_from p i (y ∷ ys) none = none_at p i y ys (p y) refl none (λ h. none_from p (i + 1) ys h)
  where
    none_at : {X : Type 0} (p : X → Bool) (i : ℕ) (y : X) (ys : List X) (b : Bool) → p y ≡ b → list_all (λ z. not (p z)) (y ∷ ys) ≡ true → (list_all (λ z. not (p z)) ys ≡ true → position_from p (i + 1) ys ≡ None) → position_from p i (y ∷ ys) ≡ None
    none_at p i y ys true e none ih = let h = (and_parts (not (p y)) (list_all (λ z. not (p z)) ys) none).0 in let h1 : false ≡ true = rw e at h in absurd cc
    none_at p i y ys false e none ih = rw e (ih (and_parts (not (p y)) (list_all (λ z. not (p z)) ys) none).1)

keep_from : {X : Type 0} (p : X → Bool) (i : ℕ) (xs ys : List X) → list_all (λ x. not (p x)) ys ≡ true → position_from p i (xs ++ ys) ≡ position_from p i xs
keep_from p i [] ys none = none_from p i ys none
keep_from p i (x ∷ xs) ys none = ap (λ r. cond (p x) (Some i) r) (keep_from p (i + 1) xs ys none)

-- where none of the second part passes
position_keep : {X : Type 0} (p : X → Bool) (xs ys : List X) → list_all (λ x. not (p x)) ys ≡ true → position p (xs ++ ys) ≡ position p xs
position_keep p xs ys none = position_from-zero p (xs ++ ys) ∙ keep_from p 0 xs ys none ∙ sym (position_from-zero p xs)

-- ---- words and symbols apart

not_from : (b : Bool) → (b ≡ true → ⊥) → not b ≡ true
not_from true h = absurd (h refl)
not_from false h = refl

none_equal : (xs : List (List ℕ)) (bytes : List ℕ) → ((x : List ℕ) → Contains xs x → x ≡ bytes → ⊥) → list_all (λ s. not (bytes_eq s bytes)) xs ≡ true
none_equal xs bytes h =
    list_all-from_AllPass (λ s. not (bytes_eq s bytes)) xs
    (λ i d lt. not_from _ (λ e. h _ (All-contains_itself xs i d lt) ((bytes_eq-Decides _ bytes).0 e)))

abbrev pub all_ascii : List ℕ → Bool
all_ascii s = list_all (λ c. nat_lt c 128) s

pub ascii_is : (s : List ℕ) → all_ascii s ≡ true → IsAscii s
ascii_is s e = IsAscii-from_all s (λ i d lt. ltb-true _ 128 (AllPass-from_list_all (λ c. nat_lt c 128) s e i d lt))

-- a sign spelled by characters is these
spelled : (s l : List ℕ) → all_ascii s ≡ true → s ≡ encode_utf8_all l → s ≡ l
spelled s l e is = encodes_same s l (encodes-IsAscii s (ascii_is s e) ∙ is)

symbols_ascii : list_all all_ascii symbols ≡ true
symbols_ascii = refl

words_ascii : list_all all_ascii words ≡ true
words_ascii = refl

abbrev begins_letter : List ℕ → Bool
begins_letter [] = false
begins_letter (c ∷ cs) = nat_lt c 128 && (is_ascii_alphabetic c || (c == 95))

words_begin : list_all begins_letter words ≡ true
words_begin = refl

letter_starts : (w : List ℕ) → begins_letter w ≡ true → begins is_start w ≡ true
letter_starts [] e = absurd cc
letter_starts (c ∷ cs) e = let p = and_parts (nat_lt c 128) (is_ascii_alphabetic c || (c == 95)) e in start_ascii c (ltb-true c 128 p.0) ∙ p.1

symbol_starts : (s : List ℕ) → Contains symbols s → begins is_start s ≡ false
symbol_starts s i = let f = first_of s i in rw f.is (start_ascii f.c f.low ∙ f.letter)

-- what begins as an identifier does is no symbol
pub word_number : (l : List ℕ) → begins is_start l ≡ true → sign_number (encode_utf8_all l) ≡ option_map (λ n. 30 + n) (position (λ s. bytes_eq s (encode_utf8_all l)) words)
word_number l starts =
    position_skip (λ s. bytes_eq s (encode_utf8_all l)) symbols words
    (none_equal symbols (encode_utf8_all l) (λ s i is.
    let same = spelled s l (of_each all_ascii symbols s symbols_ascii i) is in
    let no_start : begins is_start l ≡ false = ap (begins is_start) (sym same) ∙ symbol_starts s i in absurd cc))

-- and what does not is no word
pub symbol_number : (l : List ℕ) → begins is_start l ≡ false → sign_number (encode_utf8_all l) ≡ position (λ s. bytes_eq s (encode_utf8_all l)) symbols
symbol_number l starts =
    position_keep (λ s. bytes_eq s (encode_utf8_all l)) symbols words
    (none_equal words (encode_utf8_all l) (λ s i is.
    let same = spelled s l (of_each all_ascii words s words_ascii i) is in
    let start : begins is_start l ≡ true = ap (begins is_start) (sym same) ∙ letter_starts s (of_each begins_letter words s words_begin i) in absurd cc))

pub ascii_symbol : (l : List ℕ) → Contains symbols l → encode_utf8_all l ≡ l
ascii_symbol l i = encodes-IsAscii l (ascii_is l (of_each all_ascii symbols l symbols_ascii i))
