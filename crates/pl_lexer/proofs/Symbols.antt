-- The symbols: how they begin, and which is the longest at the front of a text.
use Rattle.std.proofs.Common.{◌≡◌, ℕ, zero, suc, ◌≤◌, ◌<◌, ◌||◌, ◌&&◌, ◌==◌, Bool, true, false, cond, List, [], ◌∷◌, ◌++◌, length, take, refl, sym, ap, subst, ◌∙◌, arith}
use Rattle.std.specs.Prelude.{not, nat_le, nat_lt, Contains}
use Rattle.std.specs.Char.{is_ascii_digit, is_ascii_alphabetic}
use Rattle.std.specs.List.{list_all}
use Rattle.std.proofs.lemmas.Bool.{eqb-true, eq-eqb, leb-true, ltb-true, and_parts, and_from}
use Rattle.std.proofs.lemmas.List.Folds.{Any-from_list_any, list_any-from_Any}
use Rattle.std.proofs.lemmas.List.Sums.{AllPass-from_list_all}
use Rattle.pl_lexer.specs.Lexemes.{is_blank, symbols, IsSymbol}
use Rattle.pl_lexer.specs.Scan.{is_prefix, begins_symbol, symbol_len}

-- what a test finds true of all is true of each
pub of_each : {X : Type 0} (p : X → Bool) (xs : List X) (x : X) → list_all p xs ≡ true → Contains xs x → p x ≡ true
of_each p xs x all in_list = subst (λ y. p y ≡ true) in_list.2 (AllPass-from_list_all p xs all in_list.0 x in_list.1)

prefix_self : (s r : List ℕ) → is_prefix s (s ++ r) ≡ true
prefix_self [] r = refl
prefix_self (c ∷ s) r = and_from (c == c) (is_prefix s (s ++ r)) (eq-eqb c c refl) (prefix_self s r)

pub prefix_take : (s cs : List ℕ) → is_prefix s cs ≡ true → (take (length s) cs ≡ s) × (length s ≤ length cs)
prefix_take [] cs e = (refl, omega arith)
prefix_take (c ∷ s) [] e = absurd cc
prefix_take (c ∷ s) (d ∷ cs) e =
    let p = and_parts (d == c) (is_prefix s cs) e in
    let t = prefix_take s cs p.1 in
    (rw (eqb-true d c p.0, t.0) refl, omega (arith, t.1))

-- ---- lengths

abbrev has_length : List ℕ → Bool
has_length s = nat_le 1 (length s) && nat_le (length s) 3

all_have_length : list_all has_length symbols ≡ true
all_have_length = refl

begins_own : (t r : List ℕ) → IsSymbol t → begins_symbol (length t) (t ++ r) ≡ true
begins_own t r i =
    list_any-from_Any (λ s. (length s == length t) && is_prefix s (t ++ r)) symbols
    (i.0, t, i.1, i.2, and_from (length t == length t) (is_prefix t (t ++ r)) (eq-eqb (length t) (length t) refl) (prefix_self t r))

len_at_least : (b3 b2 b1 : Bool) (n : ℕ) → 1 ≤ n → n ≤ 3 → (n ≡ 3 → b3 ≡ true) → (n ≡ 2 → b2 ≡ true) → (n ≡ 1 → b1 ≡ true) → n ≤ cond b3 3 (cond b2 2 (cond b1 1 0))
len_at_least true b2 b1 n low high e3 e2 e1 = high
len_at_least false b2 b1 (suc (suc (suc n))) low high e3 e2 e1 = let h : false ≡ true = e3 (omega arith) in absurd cc
len_at_least false true b1 (suc (suc zero)) low high e3 e2 e1 = omega arith
len_at_least false false b1 (suc (suc zero)) low high e3 e2 e1 = let h : false ≡ true = e2 (omega arith) in absurd cc
len_at_least false true b1 (suc zero) low high e3 e2 e1 = omega arith
len_at_least false false true (suc zero) low high e3 e2 e1 = omega arith
len_at_least false false false (suc zero) low high e3 e2 e1 = let h : false ≡ true = e1 (omega arith) in absurd cc
len_at_least false b2 b1 zero low high e3 e2 e1 = absurd (omega arith)

begins_len : (t r : List ℕ) (n : ℕ) → IsSymbol t → length t ≡ n → begins_symbol n (t ++ r) ≡ true
begins_len t r n i e = subst (λ m. begins_symbol m (t ++ r) ≡ true) e (begins_own t r i)

-- no symbol at the front is longer
pub symbol_longest : (t r : List ℕ) → IsSymbol t → length t ≤ symbol_len (t ++ r)
unfolding symbol_len
symbol_longest t r i =
    let h = of_each has_length symbols t all_have_length i in
    let p = and_parts (nat_le 1 (length t)) (nat_le (length t) 3) h in
    len_at_least (begins_symbol 3 (t ++ r)) (begins_symbol 2 (t ++ r)) (begins_symbol 1 (t ++ r)) (length t)
    (leb-true 1 (length t) p.0) (leb-true (length t) 3 p.1) (begins_len t r 3 i) (begins_len t r 2 i) (begins_len t r 1 i)

-- a symbol at the front
abbrev Fronts : ℕ → List ℕ → Type 0
Fronts n cs = IsSymbol (take n cs) × (n ≤ length cs)

found : (n : ℕ) (cs : List ℕ) → begins_symbol n cs ≡ true → Fronts n cs
found n cs e =
    let a = Any-from_list_any (λ s. (length s == n) && is_prefix s cs) symbols e in
    let s = a.1 in
    let p = and_parts (length s == n) (is_prefix s cs) a.4 in
    let t = prefix_take s cs p.1 in
    let len : length s ≡ n = eqb-true (length s) n p.0 in
    let is : take n cs ≡ s = ap (λ m. take m cs) (sym len) ∙ t.0 in
    (subst IsSymbol (sym is) (a.0, a.2, a.3), omega (arith, t.1))

found_len : (cs : List ℕ) (b3 b2 b1 : Bool) → begins_symbol 3 cs ≡ b3 → begins_symbol 2 cs ≡ b2 → begins_symbol 1 cs ≡ b1 → 0 < cond b3 3 (cond b2 2 (cond b1 1 0)) → Fronts (cond b3 3 (cond b2 2 (cond b1 1 0))) cs
found_len cs true b2 b1 e3 e2 e1 h = found 3 cs e3
found_len cs false true b1 e3 e2 e1 h = found 2 cs e2
found_len cs false false true e3 e2 e1 h = found 1 cs e1
found_len cs false false false e3 e2 e1 h = absurd (omega arith)

pub symbol_is : (cs : List ℕ) → 0 < symbol_len cs → IsSymbol (take (symbol_len cs) cs) × (symbol_len cs ≤ length cs)
unfolding symbol_len
symbol_is cs h = found_len cs (begins_symbol 3 cs) (begins_symbol 2 cs) (begins_symbol 1 cs) refl refl refl h

-- ---- with which a symbol begins

abbrev is_plain : ℕ → Bool
is_plain c = nat_lt c 128 && (not (is_blank c) && (not (is_ascii_alphabetic c || (c == 95)) && not (is_ascii_digit c)))

abbrev begins_plain : List ℕ → Bool
begins_plain [] = false
begins_plain (c ∷ more) = is_plain c && (not (c == 47) || (length more == 0))

all_begin_plain : list_all begins_plain symbols ≡ true
all_begin_plain = refl

pub record First (t : List ℕ) : Type 0 where
  pub c : ℕ
  pub more : List ℕ
  pub is : t ≡ c ∷ more
  pub low : c < 128
  pub blank : is_blank c ≡ false
  pub letter : (is_ascii_alphabetic c || (c == 95)) ≡ false
  pub digit : is_ascii_digit c ≡ false
  pub slash : (c == 47) ≡ true → more ≡ []

not_true : (b : Bool) → not b ≡ true → b ≡ false
not_true true e = absurd cc
not_true false e = refl

none_left : (more : List ℕ) → (length more == 0) ≡ true → more ≡ []
none_left [] e = refl
none_left (d ∷ more) e = let h = eqb-true (length (d ∷ more)) 0 e in absurd (omega arith)

slash_alone : (b : Bool) (more : List ℕ) → (not b || (length more == 0)) ≡ true → b ≡ true → more ≡ []
slash_alone true more e h = none_left more e
slash_alone false more e h = absurd cc

first_at : (t : List ℕ) → begins_plain t ≡ true → First t
first_at [] e = absurd cc
first_at (c ∷ more) e =
    let p = and_parts (is_plain c) (not (c == 47) || (length more == 0)) e in
    let a = and_parts (nat_lt c 128) (not (is_blank c) && (not (is_ascii_alphabetic c || (c == 95)) && not (is_ascii_digit c))) p.0 in
    let b = and_parts (not (is_blank c)) (not (is_ascii_alphabetic c || (c == 95)) && not (is_ascii_digit c)) a.1 in
    let d = and_parts (not (is_ascii_alphabetic c || (c == 95))) (not (is_ascii_digit c)) b.1 in
    record {
      c = c;
      more = more;
      is = refl;
      low = ltb-true c 128 a.0;
      blank = not_true (is_blank c) b.0;
      letter = not_true (is_ascii_alphabetic c || (c == 95)) d.0;
      digit = not_true (is_ascii_digit c) d.1;
      slash = slash_alone (c == 47) more p.1;
    }

pub first_of : (t : List ℕ) → IsSymbol t → First t
first_of t i = first_at t (of_each begins_plain symbols t all_begin_plain i)
