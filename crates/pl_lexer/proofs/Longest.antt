-- The length that is scanned is that of a lexeme, and no lexeme at the front is longer.
use Rattle.std.proofs.Common.{◌≡◌, ℕ, suc, ◌+◌, ◌≤◌, ◌<◌, inl, inr, ◌||◌, ◌&&◌, ◌==◌, Bool, true, false, cond, List, [], ◌∷◌, ◌++◌, length, take, refl, sym, ap, subst, ◌∙◌, arith}
use Rattle.std.specs.Prelude.{not, nat_le}
use Rattle.std.specs.Char.{is_ascii_digit, is_ascii_alphabetic}
use Rattle.std.specs.List.{list_all, prefix_len}
use Rattle.std.proofs.lemmas.Bool.{eqb-true, leb-true, or_cases, and_parts, and_from, agree_below_at}
use Rattle.std.proofs.lemmas.List.Sums.{prefix_len-le-length}
use Rattle.unicode_ident.proofs.IdentLemmas.{is_xid_start-ascii}
use Rattle.pl_lexer.specs.Lexemes.{is_blank, is_start, is_more, is_lf, IsLexeme, IsSymbol}
use Rattle.pl_lexer.specs.Scan.{begins_slash, symbol_len, lexeme_len}
use Rattle.pl_lexer.proofs.Symbols.{symbol_longest, symbol_is, First, first_of}

-- ---- runs of characters

-- a run in front is no longer than the longest
pub run_least : (test : ℕ → Bool) (t r : List ℕ) → list_all test t ≡ true → length t ≤ prefix_len test (t ++ r)
run_least test [] r h = omega arith
run_least test (c ∷ t) r h =
    let p = and_parts (test c) (list_all test t) h in
    rw p.0 (omega (arith, run_least test t r p.1))

one_more : (n : ℕ) (c : ℕ) (cs : List ℕ) → take (1 + n) (c ∷ cs) ≡ c ∷ take n cs
one_more n c cs = let k : 1 + n ≡ suc n = omega arith in rw k refl

run_all_at : (test : ℕ → Bool) (c : ℕ) (cs : List ℕ) (b : Bool) → test c ≡ b → list_all test (take (prefix_len test cs) cs) ≡ true → list_all test (take (cond b (1 + prefix_len test cs) 0) (c ∷ cs)) ≡ true
run_all_at test c cs true e ih = rw one_more (and_from (test c) (list_all test (take (prefix_len test cs) cs)) e ih)
run_all_at test c cs false e ih = refl

-- the longest run is one
pub run_all : (test : ℕ → Bool) (cs : List ℕ) → list_all test (take (prefix_len test cs) cs) ≡ true
run_all test [] = refl
run_all test (c ∷ cs) = run_all_at test c cs (test c) refl (run_all test cs)

-- ---- the kinds of lexemes apart

pub start_ascii : (c : ℕ) → c < 128 → is_start c ≡ (is_ascii_alphabetic c || (c == 95))
start_ascii c h = rw (is_xid_start-ascii c h) refl

equal_low : (c d : ℕ) → d < 128 → (c == d) ≡ true → c < 128
equal_low c d h e = rw (eqb-true c d e) h

pub blank_low : (c : ℕ) → is_blank c ≡ true → c < 128
blank_low c e =
    elim (or_cases ((c == 32) || (c == 9) || (c == 13)) (c == 10) e) [
      | inr h ↦ equal_low c 10 (omega arith) h
      | inl f ↦ elim (or_cases ((c == 32) || (c == 9)) (c == 13) f) [
        | inr h ↦ equal_low c 13 (omega arith) h
        | inl g ↦ elim (or_cases (c == 32) (c == 9) g) [ inl h ↦ equal_low c 32 (omega arith) h | inr h ↦ equal_low c 9 (omega arith) h ]
      ]
    ]

digit_low : (c : ℕ) → is_ascii_digit c ≡ true → c < 128
digit_low c e = let p = and_parts (nat_le 48 c) (nat_le c 57) e in omega (arith, leb-true c 57 p.1)

pub digit_apart : (c : ℕ) → is_ascii_digit c ≡ true → (is_blank c ≡ false) × (is_start c ≡ false)
digit_apart c e =
    let low = digit_low c e in
    let a = agree_below_at (λ x. is_ascii_digit x && is_blank x) (λ _. false) 128 c refl low in
    let b = agree_below_at (λ x. is_ascii_digit x && (is_ascii_alphabetic x || (x == 95))) (λ _. false) 128 c refl low in
    (rw e at a, start_ascii c low ∙ (rw e at b))

pub start_apart : (c : ℕ) (b : Bool) → is_blank c ≡ b → is_start c ≡ true → b ≡ false
start_apart c false e s = refl
start_apart c true e s =
    let low = blank_low c e in
    let a = agree_below_at (λ x. is_blank x && (is_ascii_alphabetic x || (x == 95))) (λ _. false) 128 c refl low in
    let a1 : (is_ascii_alphabetic c || (c == 95)) ≡ false = rw e at a in
    let a2 : true ≡ false = sym s ∙ start_ascii c low ∙ a1 in absurd cc

-- ---- the longest lexeme

-- a symbol, or the comment that begins as it does
symbol_behind : (t r : List ℕ) → IsSymbol t → (f : First t) → (b : Bool) → ((f.c == 47) && begins_slash (f.more ++ r)) ≡ b
    → length t ≤ cond b (1 + prefix_len (λ d. not (is_lf d)) (f.more ++ r)) (symbol_len (f.c ∷ (f.more ++ r)))
symbol_behind t r i f true e =
    let p = and_parts (f.c == 47) (begins_slash (f.more ++ r)) e in
    omega (arith, ap length f.is, ap length (f.slash p.0))
symbol_behind t r i f false e =
    let h = symbol_longest t r i in
    let e1 : t ++ r ≡ f.c ∷ (f.more ++ r) = ap (λ (x : List ℕ). x ++ r) f.is in
    subst (λ (x : List ℕ). length t ≤ symbol_len x) e1 h

number_longest : (t r : List ℕ) → (t ≡ [] → ⊥) → list_all is_ascii_digit t ≡ true → length t ≤ lexeme_len (t ++ r)
unfolding lexeme_len
number_longest [] r some d = absurd (some refl)
number_longest (c ∷ cs) r some d =
    let p = and_parts (is_ascii_digit c) (list_all is_ascii_digit cs) d in
    let a = digit_apart c p.0 in
    rw (a.0, a.1, p.0) (omega (arith, run_least is_ascii_digit cs r p.1))

-- no lexeme at the front is longer
pub longest : (t r : List ℕ) → IsLexeme t → length t ≤ lexeme_len (t ++ r)
unfolding IsLexeme lexeme_len
longest t r (inl b) = rw (b.1, b.2) (omega arith)
longest t r (inr (inl c)) =
    let s : is_start 47 ≡ false = start_ascii 47 (omega arith) in
    let h : list_all (λ d. not (is_lf d)) (47 ∷ c.0) ≡ true = c.2 in
    rw (c.1, s) (omega (arith, run_least (λ d. not (is_lf d)) (47 ∷ c.0) r h))
longest t r (inr (inr (inl w))) =
    rw (w.2, start_apart w.0 (is_blank w.0) refl w.3, w.3) (omega (arith, run_least is_more w.1 r w.4))
longest t r (inr (inr (inr (inl n)))) = number_longest t r n.0 n.1
longest t r (inr (inr (inr (inr i)))) =
    let f = first_of t i in
    let e1 : lexeme_len (t ++ r) ≡ cond ((f.c == 47) && begins_slash (f.more ++ r)) (1 + prefix_len (λ d. not (is_lf d)) (f.more ++ r)) (symbol_len (f.c ∷ (f.more ++ r))) =
    ap (λ (x : List ℕ). lexeme_len (x ++ r)) f.is ∙ rw (f.blank, start_ascii f.c f.low ∙ f.letter, f.digit) refl in
    rw e1 (symbol_behind t r i f _ refl)

-- ---- the front of that length

abbrev pub Front : ℕ → List ℕ → Type 0
Front n cs = IsLexeme (take n cs) × (n ≤ length cs)

-- by the tests of the first character, one after the other
lexeme_by : (c : ℕ) (cs : List ℕ) (blank start digit comment : Bool) → is_blank c ≡ blank → is_start c ≡ start → is_ascii_digit c ≡ digit → ((c == 47) && begins_slash cs) ≡ comment
    → 0 < cond blank 1 (cond start (1 + prefix_len is_more cs) (cond digit (1 + prefix_len is_ascii_digit cs) (cond comment (1 + prefix_len (λ d. not (is_lf d)) cs) (symbol_len (c ∷ cs)))))
    → Front (cond blank 1 (cond start (1 + prefix_len is_more cs) (cond digit (1 + prefix_len is_ascii_digit cs) (cond comment (1 + prefix_len (λ d. not (is_lf d)) cs) (symbol_len (c ∷ cs)))))) (c ∷ cs)
unfolding IsLexeme
lexeme_by c cs true s d k e1 e2 e3 e4 h = (inl (c, refl, e1), omega arith)
lexeme_by c cs false true d k e1 e2 e3 e4 h =
    (inr (inr (inl (c, take (prefix_len is_more cs) cs, one_more (prefix_len is_more cs) c cs, e2, run_all is_more cs))), omega (arith, prefix_len-le-length is_more cs))
lexeme_by c cs false false true k e1 e2 e3 e4 h =
    let n = prefix_len is_ascii_digit cs in
    let is = one_more n c cs in
    (inr (inr (inr (inl ((λ none. let no : c ∷ take n cs ≡ [] = sym is ∙ none in absurd cc), rw is (and_from (is_ascii_digit c) (list_all is_ascii_digit (take n cs)) e3 (run_all is_ascii_digit cs)))))), omega (arith, prefix_len-le-length is_ascii_digit cs))
lexeme_by c [] false false false true e1 e2 e3 e4 h = let p = and_parts (c == 47) false e4 in let q = p.1 in absurd cc
lexeme_by c (d ∷ cs) false false false true e1 e2 e3 e4 h =
    let p = and_parts (c == 47) (d == 47) e4 in
    let f : not (is_lf d) ≡ true = rw (eqb-true d 47 p.1) refl in
    let m = prefix_len (λ x. not (is_lf x)) cs in
    let n : prefix_len (λ x. not (is_lf x)) (d ∷ cs) ≡ suc m = rw f (omega arith) in
    let t : take (1 + prefix_len (λ x. not (is_lf x)) (d ∷ cs)) (c ∷ d ∷ cs) ≡ 47 ∷ 47 ∷ take m cs =
    one_more (prefix_len (λ x. not (is_lf x)) (d ∷ cs)) c (d ∷ cs) ∙ rw (n, eqb-true c 47 p.0, eqb-true d 47 p.1) refl in
    (inr (inl (take m cs, t, run_all (λ x. not (is_lf x)) cs)), omega (arith, prefix_len-le-length (λ x. not (is_lf x)) (d ∷ cs)))
lexeme_by c cs false false false false e1 e2 e3 e4 h = let i = symbol_is (c ∷ cs) h in (inr (inr (inr (inr i.0))), i.1)

pub lexeme_is : (cs : List ℕ) → 0 < lexeme_len cs → Front (lexeme_len cs) cs
unfolding lexeme_len
lexeme_is [] h = absurd (omega arith)
lexeme_is (c ∷ cs) h = lexeme_by c cs (is_blank c) (is_start c) (is_ascii_digit c) ((c == 47) && begins_slash cs) refl refl refl refl h

length_some : (t : List ℕ) → (t ≡ [] → ⊥) → 0 < length t
length_some [] some = absurd (some refl)
length_some (c ∷ t) some = omega arith

-- no lexeme is empty
pub lexeme_some : (t : List ℕ) → IsLexeme t → 0 < length t
unfolding IsLexeme
lexeme_some t (inl b) = rw b.1 (omega arith)
lexeme_some t (inr (inl c)) = rw c.1 (omega arith)
lexeme_some t (inr (inr (inl w))) = rw w.2 (omega arith)
lexeme_some t (inr (inr (inr (inl n)))) = length_some t n.0
lexeme_some t (inr (inr (inr (inr i)))) = let f = first_of t i in rw f.is (omega arith)
