-- What pieces stand for, and what the tokens of a file are like.
use Rattle.std.proofs.Common.{◌≡◌, ℕ, ◌^◌, ◌≤◌, ◌<◌, inl, inr, ◌==◌, Bool, true, false, cond, List, [], ◌∷◌, ◌++◌, length, map, Option, Some, None, refl, sym, ap, subst, ◌∙◌, append_assoc, arith}
use Rattle.std.specs.Prelude.{pos, encode_utf8_all, is_some}
use Rattle.std.specs.Char.{is_ascii_digit}
use Rattle.std.specs.List.{list_all, cons_option}
use Rattle.std.specs.Str.{bytes_eq, chars, all_scalars}
use Rattle.std.proofs.lemmas.Bool.{eqb-true, and_parts, and_from}
use Rattle.std.proofs.lemmas.List.Quantifiers.{position-Some}
use Rattle.std.proofs.lemmas.Str.{chars-encodes, encodes-chars, scalars-chars}
use Rattle.pl_base.specs.declared.pos.Pos.{Pos}
use Rattle.pl_readers.specs.Bytes.{value_from}
use Rattle.pl_readers.specs.Reader.{begins}
use Rattle.pl_lexer.specs.declared.tokens.Kind.{Kind}
use Rattle.pl_lexer.specs.declared.tokens.Kind.TheVariants as k
use Rattle.pl_lexer.specs.declared.tokens.Token.{Token}
use Rattle.pl_lexer.specs.Lexemes.{is_blank, is_start, IsBlank, IsIdentifier, IsNumber, IsSymbol, IsLexeme, symbols, signs}
use Rattle.pl_lexer.specs.Tokens.{sign_or_name, Cut, start, moved, place_behind, sign_number, is_gap, kind_of, token_at, tokens_of, all_tokens, mangled_len, IsLongNumber, IsLongName, AllShort, IsLexed}
use Rattle.pl_lexer.specs.Printing.{kinds_of}
use Rattle.pl_lexer.specs.Proper.{IsName, IsProper, AreProper}
use Rattle.pl_lexer.proofs.Numbers.{ascii_symbol}
use Rattle.pl_lexer.proofs.Symbols.{of_each}
use Rattle.pl_lexer.proofs.Longest.{start_apart, start_ascii, digit_apart}

-- ---- without places

abbrev kind_at : Token → Kind
kind_at t = t.kind

kinds_step : (p : Pos) (kind : Option Kind) (ts : List Token) → map kind_at (token_at p kind ++ ts) ≡ cons_option kind (map kind_at ts)
kinds_step p None ts = refl
kinds_step p (Some kind) ts = refl

pub kinds_are : (p : Pos) (ls : List (List ℕ)) → map (λ t. t.kind) (tokens_of p ls) ≡ kinds_of ls
kinds_are p [] = refl
kinds_are p (l ∷ ls) = kinds_step p (kind_of l) (tokens_of (moved p l) ls) ∙ ap (cons_option (kind_of l)) (kinds_are (moved p l) ls)

kinds_append : (ts us : List Token) → map kind_at (ts ++ us) ≡ map kind_at ts ++ map kind_at us
kinds_append [] us = refl
kinds_append (t ∷ ts) us = ap (λ (ks : List Kind). kind_at t ∷ ks) (kinds_append ts us)

pub all_kinds_are : (ls : List (List ℕ)) → map (λ t. t.kind) (all_tokens ls) ≡ kinds_of ls ++ k.End ∷ []
all_kinds_are ls =
    kinds_append (tokens_of start ls) (token_at (place_behind start ls) (Some k.End)) ∙ ap (λ (ks : List Kind). ks ++ k.End ∷ []) (kinds_are start ls)

-- ---- what pieces stand for

pub kind_of_blank : (l : List ℕ) → IsBlank l → kind_of l ≡ None
kind_of_blank l b = rw (b.1, b.2) refl

digit_no_slash : (c : ℕ) → is_ascii_digit c ≡ true → (c == 47) ≡ false
digit_no_slash c e = slash_at c (c == 47) refl e
  where
    slash_at : (c : ℕ) (b : Bool) → (c == 47) ≡ b → is_ascii_digit c ≡ true → b ≡ false
    slash_at c true is e = let low : is_ascii_digit 47 ≡ true = rw (eqb-true c 47 is) at e in absurd cc
    slash_at c false is e = refl

start_no_slash : (c : ℕ) → is_start c ≡ true → (c == 47) ≡ false
start_no_slash c e = slash_at c (c == 47) refl e
  where
    slash_at : (c : ℕ) (b : Bool) → (c == 47) ≡ b → is_start c ≡ true → b ≡ false
    slash_at c true is e =
        let low : is_start 47 ≡ true = rw (eqb-true c 47 is) at e in
        let none : is_start 47 ≡ false = start_ascii 47 (omega arith) in absurd cc
    slash_at c false is e = refl

no_gap : (c : ℕ) (cs : List ℕ) → is_blank c ≡ false → (c == 47) ≡ false → is_gap (c ∷ cs) ≡ false
no_gap c [] blank slash = blank
no_gap c (d ∷ cs) blank slash = rw (blank, slash) refl

number_at : (l : List ℕ) → (l ≡ [] → ⊥) → list_all is_ascii_digit l ≡ true → kind_of l ≡ Some (k.Number (pos (value_from 0 l)))
number_at [] some digits = absurd (some refl)
number_at (c ∷ cs) some digits =
    let p = and_parts (is_ascii_digit c) (list_all is_ascii_digit cs) digits in
    rw (no_gap c cs (digit_apart c p.0).0 (digit_no_slash c p.0), p.0) refl

pub kind_of_number : (l : List ℕ) → IsNumber l → kind_of l ≡ Some (k.Number (pos (value_from 0 l)))
kind_of_number l n = number_at l n.0 n.1

start_no_digit : (c : ℕ) (b : Bool) → is_ascii_digit c ≡ b → is_start c ≡ true → b ≡ false
start_no_digit c true e s = let no_start = (digit_apart c e).1 in absurd cc
start_no_digit c false e s = refl

pub kind_of_identifier : (l : List ℕ) → IsIdentifier l → sign_number (encode_utf8_all l) ≡ None → kind_of l ≡ Some (k.Word (encode_utf8_all l))
kind_of_identifier l w none =
    let gap : is_gap l ≡ false = rw w.2 (no_gap w.0 w.1 (start_apart w.0 (is_blank w.0) refl w.3) (start_no_slash w.0 w.3)) in
    let digit : begins is_ascii_digit l ≡ false = rw w.2 (start_no_digit w.0 (is_ascii_digit w.0) refl w.3) in
    rw (gap, digit, none) refl

pub kind_of_name : (bytes : List ℕ) → IsName bytes → kind_of (chars bytes) ≡ Some (k.Word bytes)
kind_of_name bytes name =
    let back = encodes-chars bytes name.utf8 in
    let none : sign_number (encode_utf8_all (chars bytes)) ≡ None = ap sign_number back ∙ name.no_word in
    kind_of_identifier (chars bytes) name.identifier none ∙ ap (λ (b : List ℕ). Some (k.Word b)) back

-- ---- tokens are proper

symbols_numbered : list_all (λ s. is_some (sign_number s)) symbols ≡ true
symbols_numbered = refl

symbol_numbered : (l : List ℕ) → IsSymbol l → sign_number (encode_utf8_all l) ≡ None → ⊥
symbol_numbered l i none =
    let same : encode_utf8_all l ≡ l = ascii_symbol l i in
    let some = of_each (λ s. is_some (sign_number s)) symbols l symbols_numbered i in
    let no_some : is_some (sign_number l) ≡ false = ap (λ (b : List ℕ). is_some (sign_number b)) (sym same) ∙ ap is_some none in absurd cc

begins_gap : (l : List ℕ) → IsBlank l → is_gap l ≡ true
begins_gap l b = rw (b.1, b.2) refl

-- what is no gap, no number and no sign is an identifier
identifier_left : (l : List ℕ) → IsLexeme l → is_gap l ≡ false → begins is_ascii_digit l ≡ false → sign_number (encode_utf8_all l) ≡ None → IsIdentifier l
unfolding IsLexeme
identifier_left l (inl b) gap digit none = let e = begins_gap l b in absurd cc
identifier_left l (inr (inl c)) gap digit none = let e : is_gap l ≡ true = rw c.1 refl in absurd cc
identifier_left l (inr (inr (inl w))) gap digit none = w
identifier_left l (inr (inr (inr (inl n)))) gap digit none = let e = digits_begin l n.0 n.1 in absurd cc
  where
    digits_begin : (l : List ℕ) → (l ≡ [] → ⊥) → list_all is_ascii_digit l ≡ true → begins is_ascii_digit l ≡ true
    digits_begin [] some e = absurd (some refl)
    digits_begin (c ∷ cs) some e = (and_parts (is_ascii_digit c) (list_all is_ascii_digit cs) e).0
identifier_left l (inr (inr (inr (inr s)))) gap digit none = absurd (symbol_numbered l s none)

sign_below : (bytes : List ℕ) (n : ℕ) → sign_number bytes ≡ Some n → n < 101
sign_below bytes n is = (position-Some (λ s. bytes_eq s bytes) signs n [] is).0

sign_or_word : (l : List ℕ) (number : Option ℕ) → sign_number (encode_utf8_all l) ≡ number → IsLexeme l → all_scalars l ≡ true → is_gap l ≡ false → begins is_ascii_digit l ≡ false
    → (IsLongName l (Some (sign_or_name number l)) → ⊥) → IsProper (sign_or_name number l)
sign_or_word l (Some n) is lexeme scalars gap digit short = sign_below (encode_utf8_all l) n is
sign_or_word l None is lexeme scalars gap digit short =
    let back = chars-encodes l scalars in
    record {
      utf8 = (l, (scalars, refl));
      identifier = rw back (identifier_left l lexeme gap digit is);
      no_word = is;
      characters = rw back (not_more (length l) 40 (λ h. short (inl h)));
      mangled = rw back (not_more (mangled_len l) 50 (λ h. short (inr h)));
    }
  where
    not_more : (n m : ℕ) → (m < n → ⊥) → n ≤ m
    not_more n m h = omega arith

abbrev ProperKind : Option Kind → Type 0
ProperKind None = Unit {0}
ProperKind (Some kind) = IsProper kind

proper_by : (l : List ℕ) (gap digit : Bool) → is_gap l ≡ gap → begins is_ascii_digit l ≡ digit → IsLexeme l → all_scalars l ≡ true
    → (IsLongNumber (cond gap None (Some (cond digit (k.Number (pos (value_from 0 l))) (sign_or_name (sign_number (encode_utf8_all l)) l)))) → ⊥)
    → (IsLongName l (cond gap None (Some (cond digit (k.Number (pos (value_from 0 l))) (sign_or_name (sign_number (encode_utf8_all l)) l)))) → ⊥)
    → ProperKind (cond gap None (Some (cond digit (k.Number (pos (value_from 0 l))) (sign_or_name (sign_number (encode_utf8_all l)) l))))
proper_by l true digit g d lexeme scalars number name = tt
proper_by l false true g d lexeme scalars number name = (value_from 0 l, refl, not_most (value_from 0 l) number)
  where
    not_most : (n : ℕ) → (2 ^ 127 ≤ n → ⊥) → n < 2 ^ 127
    not_most n h = omega arith
proper_by l false false g d lexeme scalars number name = sign_or_word l (sign_number (encode_utf8_all l)) refl lexeme scalars g d name

proper_kind : (l : List ℕ) → IsLexeme l → all_scalars l ≡ true → (IsLongNumber (kind_of l) → ⊥) → (IsLongName l (kind_of l) → ⊥) → ProperKind (kind_of l)
proper_kind l lexeme scalars number name = proper_by l (is_gap l) (begins is_ascii_digit l) refl refl lexeme scalars number name

proper_token : (p : Pos) (kind : Option Kind) (ts : List Token) → ProperKind kind → AreProper ts → AreProper (token_at p kind ++ ts)
proper_token p None ts h rest = rest
proper_token p (Some kind) ts h rest = (h, rest)

scalars_parts : (xs ys : List ℕ) → all_scalars (xs ++ ys) ≡ true → (all_scalars xs ≡ true) × (all_scalars ys ≡ true)
scalars_parts [] ys e = (refl, e)
scalars_parts (x ∷ xs) ys e =
    let p = and_parts _ (all_scalars (xs ++ ys)) e in
    let q = scalars_parts xs ys p.1 in
    (and_from _ (all_scalars xs) p.0 q.0, q.1)

proper_tokens : (text : List ℕ) (ls : List (List ℕ)) (p : Pos) (end : List Token) → all_scalars text ≡ true → Cut text ls [] → AllShort ls → AreProper end → AreProper (tokens_of p ls ++ end)
proper_tokens text [] p end scalars cut short last = last
proper_tokens text (l ∷ ls) p end scalars cut short last =
    let parts = scalars_parts l cut.0 (ap all_scalars (sym cut.1) ∙ scalars) in
    let rest = proper_tokens cut.0 ls (moved p l) end parts.1 cut.3 short.2 last in
    subst AreProper (sym (append_assoc (token_at p (kind_of l)) (tokens_of (moved p l) ls) end))
    (proper_token p (kind_of l) (tokens_of (moved p l) ls ++ end) (proper_kind l cut.2.0 parts.0 short.0 short.1) rest)

pub lexed_proper : (bytes : List ℕ) (ts : List Token) → IsLexed bytes ts → AreProper ts
lexed_proper bytes ts lexed =
    let found = lexed.1 in
    subst AreProper (sym found.3)
    (proper_tokens (chars bytes) found.0 start (token_at (place_behind start found.0) (Some k.End)) (scalars-chars bytes lexed.0) found.2.cut found.2.short (tt, tt))
