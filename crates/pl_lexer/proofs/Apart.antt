-- Pieces that are apart are found again.
use Rattle.std.proofs.Common.{◌≡◌, ℕ, suc, ◌+◌, ◌≤◌, ◌<◌, ◌⊎◌, inl, inr, ◌||◌, ◌&&◌, ◌==◌, Bool, true, false, List, [], ◌∷◌, ◌++◌, length, take, drop, ◌-◌, refl, sym, ap, subst, ◌∙◌, arith}
use Rattle.std.proofs.Math.Seq.{take-append-add, drop-append_seam}
use Rattle.std.specs.Prelude.{not}
use Rattle.std.specs.Char.{is_ascii_digit}
use Rattle.std.specs.List.{list_all, prefix_len}
use Rattle.std.proofs.lemmas.Bool.{eq-eqb, and_parts, and_from}
use Rattle.std.proofs.lemmas.List.{length-append}
use Rattle.pl_lexer.specs.Lexemes.{is_blank, is_more, IsBlank, IsIdentifier, IsNumber, IsSymbol, IsLexeme, symbols}
use Rattle.pl_lexer.specs.Scan.{is_prefix, symbol_len, begins_slash, lexeme_len}
use Rattle.pl_lexer.specs.Tokens.{IsLongest}
use Rattle.pl_lexer.specs.Printing.{is_joining, is_apart}
use Rattle.pl_lexer.proofs.Symbols.{of_each, symbol_is, symbol_longest, first_of}
use Rattle.pl_lexer.proofs.Longest.{longest, start_apart, digit_apart, start_ascii}

-- the next character, if there is one, fails the test
abbrev pub Stops : (ℕ → Bool) → List ℕ → Type 0
Stops test [] = Unit {0}
Stops test (c ∷ cs) = test c ≡ false

-- a run ends where the next character fails the test
run_exact : (test : ℕ → Bool) (t rest : List ℕ) → list_all test t ≡ true → Stops test rest → prefix_len test (t ++ rest) ≡ length t
run_exact test [] [] e s = refl
run_exact test [] (c ∷ rest) e s = rw s refl
run_exact test (c ∷ t) rest e s =
    let p = and_parts (test c) (list_all test t) e in
    rw p.0 (omega (arith, run_exact test t rest p.1 s))

pub identifier_len : (l rest : List ℕ) → IsIdentifier l → Stops is_more rest → lexeme_len (l ++ rest) ≡ length l
unfolding lexeme_len
identifier_len l rest w s = rw (w.2, start_apart w.0 (is_blank w.0) refl w.3, w.3) (omega (arith, run_exact is_more w.1 rest w.4 s))

number_len_at : (l rest : List ℕ) → (l ≡ [] → ⊥) → list_all is_ascii_digit l ≡ true → Stops is_ascii_digit rest → lexeme_len (l ++ rest) ≡ length l
unfolding lexeme_len
number_len_at [] rest some d s = absurd (some refl)
number_len_at (c ∷ cs) rest some d s =
    let p = and_parts (is_ascii_digit c) (list_all is_ascii_digit cs) d in
    let a = digit_apart c p.0 in
    rw (a.0, a.1, p.0) (omega (arith, run_exact is_ascii_digit cs rest p.1 s))

pub number_len : (l rest : List ℕ) → IsNumber l → Stops is_ascii_digit rest → lexeme_len (l ++ rest) ≡ length l
number_len l rest n s = number_len_at l rest n.0 n.1 s

pub blank_len : (l rest : List ℕ) → IsBlank l → lexeme_len (l ++ rest) ≡ length l
unfolding lexeme_len
blank_len l rest b = rw (b.1, b.2) refl

-- ---- symbols

abbrev next_joins : List ℕ → Bool
next_joins [] = true
next_joins (d ∷ ds) = is_joining d

-- a symbol that goes on with another does so with a joining character
abbrev goes_on : List ℕ → List ℕ → Bool
goes_on s u = not (is_prefix s u) || next_joins (drop (length s) u)

abbrev all_go_on : List ℕ → Bool
all_go_on s = list_all (goes_on s) symbols

symbols_go_on : list_all all_go_on symbols ≡ true
symbols_go_on = refl

prefix_front : (s r : List ℕ) → is_prefix s (s ++ r) ≡ true
prefix_front [] r = refl
prefix_front (c ∷ s) r = and_from (c == c) (is_prefix s (s ++ r)) (eq-eqb c c refl) (prefix_front s r)

joins_true : (b : Bool) (c : Bool) → (not b || c) ≡ true → b ≡ true → c ≡ true
joins_true true c h e = h
joins_true false c h e = absurd cc

-- a longer symbol here goes on with the next character
longer : (s rest : List ℕ) (n : ℕ) → IsSymbol s → IsSymbol (take n (s ++ rest)) → length s < n → Stops is_joining rest → n ≤ length (s ++ rest) → ⊥
longer s [] n i j lt stops le = omega (arith, length-append s [])
longer s (d ∷ rest) n i j lt stops le =
    let m = n - (length s + 1) in
    let k : n ≡ length s + suc m = omega arith in
    let front : take n (s ++ d ∷ rest) ≡ s ++ d ∷ take m rest = ap (λ x. take x (s ++ d ∷ rest)) k ∙ take-append-add s (d ∷ rest) (suc m) in
    let pair = of_each (goes_on s) symbols (s ++ d ∷ take m rest) (of_each all_go_on symbols s symbols_go_on i) (subst IsSymbol front j) in
    let next = joins_true (is_prefix s (s ++ d ∷ take m rest)) (next_joins (drop (length s) (s ++ d ∷ take m rest))) pair (prefix_front s (d ∷ take m rest)) in
    let joined : is_joining d ≡ true = ap next_joins (sym (drop-append_seam s (d ∷ take m rest))) ∙ next in absurd cc

symbol_exact : (s rest : List ℕ) → IsSymbol s → Stops is_joining rest → symbol_len (s ++ rest) ≡ length s
symbol_exact s rest i stops =
    let low = symbol_longest s rest i in
    let f = first_of s i in
    let some : 0 < symbol_len (s ++ rest) = omega (arith, low, ap length f.is) in
    let here = symbol_is (s ++ rest) some in
    let high : length s < symbol_len (s ++ rest) → ⊥ = λ lt. longer s rest (symbol_len (s ++ rest)) i here.0 lt stops here.1 in
    omega (arith, low, high)

no_slash : (rest : List ℕ) → Stops is_joining rest → begins_slash rest ≡ false
no_slash [] stops = refl
no_slash (c ∷ rest) stops = last_false ((c == 61) || (c == 62) || (c == 42)) (c == 47) stops
  where
    last_false : (a b : Bool) → (a || b) ≡ false → b ≡ false
    last_false true b e = absurd cc
    last_false false b e = e

no_comment : (b : Bool) (more rest : List ℕ) → (b ≡ true → more ≡ []) → Stops is_joining rest → (b && begins_slash (more ++ rest)) ≡ false
no_comment false more rest alone stops = refl
no_comment true more rest alone stops = rw (alone refl) (no_slash rest stops)

pub symbol_lexeme_len : (l rest : List ℕ) → IsSymbol l → Stops is_joining rest → lexeme_len (l ++ rest) ≡ length l
unfolding lexeme_len
symbol_lexeme_len l rest i stops =
    let f = first_of l i in
    let quiet = no_comment (f.c == 47) f.more rest f.slash stops in
    let e1 : lexeme_len (l ++ rest) ≡ symbol_len (f.c ∷ (f.more ++ rest)) =
    ap (λ (x : List ℕ). lexeme_len (x ++ rest)) f.is ∙ rw (f.blank, start_ascii f.c f.low ∙ f.letter, f.digit, quiet) refl in
    e1 ∙ ap (λ (x : List ℕ). symbol_len (x ++ rest)) (sym f.is) ∙ symbol_exact l rest i stops

-- ---- lexemes in a row

-- a lexeme that is no comment
abbrev pub IsPlain : List ℕ → Type 0
IsPlain l = IsBlank l ⊎ IsIdentifier l ⊎ IsNumber l ⊎ IsSymbol l

plain_lexeme : (l : List ℕ) → IsPlain l → IsLexeme l
unfolding IsLexeme
plain_lexeme l (inl b) = inl b
plain_lexeme l (inr (inl w)) = inr (inr (inl w))
plain_lexeme l (inr (inr (inl n))) = inr (inr (inr (inl n)))
plain_lexeme l (inr (inr (inr s))) = inr (inr (inr (inr s)))

-- a lexeme ends before this text
abbrev pub EndsBefore : List ℕ → List ℕ → Type 0
EndsBefore l [] = Unit {0}
EndsBefore l (d ∷ rest) = is_apart l d ≡ true

not_true : (b : Bool) → not b ≡ true → b ≡ false
not_true true e = absurd cc
not_true false e = refl

identifier_stops : (l rest : List ℕ) → IsIdentifier l → EndsBefore l rest → Stops is_more rest
identifier_stops l [] w a = tt
identifier_stops l (d ∷ rest) w a =
    let e : is_apart l d ≡ not (is_more d) = rw (w.2, start_apart w.0 (is_blank w.0) refl w.3, w.3) refl in
    not_true (is_more d) (sym e ∙ a)

number_apart : (l : List ℕ) (d : ℕ) → (l ≡ [] → ⊥) → list_all is_ascii_digit l ≡ true → is_apart l d ≡ not (is_ascii_digit d)
number_apart [] d some digits = absurd (some refl)
number_apart (c ∷ cs) d some digits =
    let p = and_parts (is_ascii_digit c) (list_all is_ascii_digit cs) digits in
    let a = digit_apart c p.0 in
    rw (a.0, a.1, p.0) refl

number_stops : (l rest : List ℕ) → IsNumber l → EndsBefore l rest → Stops is_ascii_digit rest
number_stops l [] n a = tt
number_stops l (d ∷ rest) n a = not_true (is_ascii_digit d) (sym (number_apart l d n.0 n.1) ∙ a)

symbol_stops : (l rest : List ℕ) → IsSymbol l → EndsBefore l rest → Stops is_joining rest
symbol_stops l [] i a = tt
symbol_stops l (d ∷ rest) i a =
    let f = first_of l i in
    let e : is_apart l d ≡ not (is_joining d) = rw (f.is, f.blank, start_ascii f.c f.low ∙ f.letter, f.digit) refl in
    not_true (is_joining d) (sym e ∙ a)

-- a lexeme that ends before a text is the longest lexeme there
pub plain_len : (l rest : List ℕ) → IsPlain l → EndsBefore l rest → lexeme_len (l ++ rest) ≡ length l
plain_len l rest (inl b) a = blank_len l rest b
plain_len l rest (inr (inl w)) a = identifier_len l rest w (identifier_stops l rest w a)
plain_len l rest (inr (inr (inl n))) a = number_len l rest n (number_stops l rest n a)
plain_len l rest (inr (inr (inr s))) a = symbol_lexeme_len l rest s (symbol_stops l rest s a)

pub plain_longest : (l rest : List ℕ) → IsPlain l → EndsBefore l rest → IsLongest l rest
plain_longest l rest plain a = (
  plain_lexeme l plain,
  λ front back is f.
      let h = longest front back f in
      omega (arith, h, ap lexeme_len is, plain_len l rest plain a),
)
