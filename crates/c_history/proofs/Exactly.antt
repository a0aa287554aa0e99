-- Readers that take exactly the texts of values.
use Rattle.std.proofs.Common.{◌≡◌, ◌∙◌, sym, ap, subst, refl, ℕ, zero, suc, ℤ, pos, negsuc, ◌+◌, ◌<◌, ◌≤◌, ◌^◌, arith, ◌==◌, Bool, true, false, cond, List, ◌++◌, Result, Ok, append_assoc}
use Rattle.std.proofs.lemmas.Bool.{eqb-true}
use Rattle.std.specs.Prelude.{codes}
use Rattle.std.specs.Char.{is_ascii_digit}
use Rattle.std.specs.Fmt.{decimal, signed_decimal}
use Rattle.std.specs.Int.{w64}
use Rattle.std.specs.Prelude.{FitsSigned}
use Rattle.pl_readers.specs.declared.error.Stop.{Stop}
use Rattle.pl_readers.specs.Reader.{Reader, begins, next, mapped}
use Rattle.pl_readers.specs.Reads.{Ends, never}
use Rattle.pl_readers.specs.Bytes.{is, word, number}
use Rattle.pl_readers.proofs.Correct.{bind_ok, fine_is}
use Rattle.pl_readers.proofs.Exact.{Reads-word, Reads-number, word_takes}
use Rattle.pl_resource.specs.declared.value.Value.{Value}
use Rattle.pl_resource.specs.declared.value.Value.TheVariants as value
use Rattle.c_history.specs.Text.{truth_text, cell_text, value_text}
use Rattle.c_history.specs.Bounds.{IsU32, IsCellWithin, IsValueWithin}
use Rattle.c_history.specs.Readers.{behind, pair, unsigned, negated, signed, truth, numbered, cell, value_of}
use Rattle.c_history.proofs.NumberTexts.{number_is, is_number}

abbrev pub NoDigit : List ℕ → Type 0
NoDigit rest = Ends is_ascii_digit rest

-- what P takes is the text of a value that fits
abbrev pub Found : {A : Type 0} → (A → List ℕ) → (A → Type 0) → Reader ℕ A → Type 0
Found {A} text Fits P = (xs : List ℕ) (a : A) (rest : List ℕ) → P xs ≡ Ok (a, rest) → Fits a × (xs ≡ text a ++ rest)

-- and it takes each such text behind which no digit stands
pub record Exact {A : Type 0} (text : A → List ℕ) (Fits : A → Type 0) (P : Reader ℕ A) : Type 0 where
  pub found : Found text Fits P
  pub takes : (a : A) (rest : List ℕ) → Fits a → NoDigit rest → P (text a ++ rest) ≡ Ok (a, rest)

abbrev pub always : {A : Type 0} → A → Type 0
always a = Unit {0}

pub exact_word : (w : List ℕ) → Exact (λ (u : Unit {0}). w) always (word w)
exact_word w = record {
  found = λ xs u rest e. let t = (Reads-word w never).took xs u rest e in (tt, t.parts ∙ ap (λ (s : List ℕ). s ++ rest) t.is_text);
  takes = λ u rest f n. word_takes w rest;
}

pub exact_number : (limit : ℕ) → 10 ≤ limit → limit ≤ 2 ^ 64 → Exact decimal (λ n. n < limit) (number limit)
exact_number limit ten most = record {
  found = λ xs n rest e.
      let t = (Reads-number limit ten).took xs n rest e in
      (t.is_text.7, t.parts ∙ ap (λ (s : List ℕ). s ++ rest) (number_is limit n t.text most t.is_text));
  takes = λ n rest f ends. (Reads-number limit ten).takes n (decimal n) rest (is_number limit n most f) ends;
}

module _ {A : Type 0} (text : A → List ℕ) (Fits : A → Type 0) (P : Reader ℕ A) (p : Found text Fits P) where
  pub found_behind : (w : List ℕ) → Found (λ a. w ++ text a) Fits (behind w P)
  found_behind w xs a rest e =
      let x = bind_ok (word w xs) (λ z. P z.1) (a, rest) e in
      let f = (exact_word w).found xs x.0.0 x.0.1 x.1 in
      let g = p x.0.1 a rest x.2 in
      (g.0, f.1 ∙ ap (λ (s : List ℕ). w ++ s) g.1 ∙ sym (append_assoc w (text a) rest))

  pub found_pair : {B : Type 0} (more : B → List ℕ) (Also : B → Type 0) (Q : Reader ℕ B) → Found more Also Q → Found (λ (z : A × B). text z.0 ++ more z.1) (λ z. Fits z.0 × Also z.1) (pair P Q)
  found_pair {B} more Also Q q xs z rest e =
      let x = bind_ok (P xs) (λ y. mapped (λ b. (y.0, b)) Q y.1) (z, rest) e in
      let y = bind_ok (Q x.0.1) (λ y. Ok ((x.0.0, y.0), y.1)) (z, rest) x.2 in
      let same = fine_is ((x.0.0, y.0.0), y.0.1) (z, rest) y.2 in
      let f = p xs x.0.0 x.0.1 x.1 in
      let g = q x.0.1 y.0.0 y.0.1 y.1 in
      let both : xs ≡ (text x.0.0 ++ more y.0.0) ++ y.0.1 = f.1 ∙ ap (λ (s : List ℕ). text x.0.0 ++ s) g.1 ∙ sym (append_assoc (text x.0.0) (more y.0.0) y.0.1) in
      subst (λ (w : (A × B) × List ℕ). (Fits w.0.0 × Also w.0.1) × (xs ≡ (text w.0.0 ++ more w.0.1) ++ w.1)) same ((f.0, g.0), both)

module _ {A : Type 0} (text : A → List ℕ) (Fits : A → Type 0) (P : Reader ℕ A) (p : Exact text Fits P) where
  pub exact_behind : (w : List ℕ) → Exact (λ a. w ++ text a) Fits (behind w P)
  exact_behind w = record {
    found = found_behind text Fits P p.found w;
    takes = λ a rest f n. rw (append_assoc w (text a) rest, word_takes w (text a ++ rest)) (p.takes a rest f n);
  }

  module _ {B : Type 0} (more : B → List ℕ) (Also : B → Type 0) (Q : Reader ℕ B) (q : Exact more Also Q) where
    pub exact_pair : ((b : B) (rest : List ℕ) → NoDigit (more b ++ rest)) → Exact (λ (z : A × B). text z.0 ++ more z.1) (λ z. Fits z.0 × Also z.1) (pair P Q)
    exact_pair apart = record {
      found = found_pair text Fits P p.found more Also Q q.found;
      takes = λ z rest f n.
          rw (append_assoc (text z.0) (more z.1) rest, p.takes z.0 (more z.1 ++ rest) f.0 (apart z.1 rest), q.takes z.1 rest f.1 n) refl;
    }

  -- a value that is made of another one
  pub exact_mapped : {B : Type 0} (make : A → B) (back : B → A) (shows : B → List ℕ) (Also : B → Type 0) → ((b : B) → make (back b) ≡ b) → ((a : A) → shows (make a) ≡ text a) → ((a : A) → Fits a → Also (make a)) → ((b : B) → Also b → Fits (back b)) → Exact shows Also (mapped make P)
  exact_mapped make back shows Also round same to from = record {
    found = λ xs b rest e.
        let x = bind_ok (P xs) (λ y. Ok (make y.0, y.1)) (b, rest) e in
        let is = fine_is (make x.0.0, x.0.1) (b, rest) x.2 in
        let f = p.found xs x.0.0 x.0.1 x.1 in
        subst (λ (w : _ × List ℕ). Also w.0 × (xs ≡ shows w.0 ++ w.1)) is (to x.0.0 f.0, f.1 ∙ ap (λ (s : List ℕ). s ++ x.0.1) (sym (same x.0.0)));
    takes = λ b rest f n.
        let shown : shows b ≡ text (back b) = ap shows (sym (round b)) ∙ same (back b) in
        rw (shown, p.takes (back b) rest (from b f) n) (ap (λ c. Ok (c, rest)) (round b));
  }

-- ---- what a choice or a change of the value read

pub found_either : {Y C : Type 0} (b : Bool) (r s : Result Y Stop) (y : Y) → (r ≡ Ok y → C) → (s ≡ Ok y → C) → cond b r s ≡ Ok y → C
found_either true r s y f g e = f e
found_either false r s y f g e = g e

pub record Made {A B : Type 0} (text : A → List ℕ) (Fits : A → Type 0) (f : A → B) (xs : List ℕ) (b : B) (rest : List ℕ) : Type 0 where
  pub from : A
  pub is : f from ≡ b
  pub fits : Fits from
  pub parts : xs ≡ text from ++ rest

pub found_mapped : {A B : Type 0} (text : A → List ℕ) (Fits : A → Type 0) (P : Reader ℕ A) → Found text Fits P → (f : A → B) (xs : List ℕ) (b : B) (rest : List ℕ) → mapped f P xs ≡ Ok (b, rest) → Made text Fits f xs b rest
found_mapped {A} {B} text Fits P p f xs b rest e =
    let x = bind_ok (P xs) (λ y. Ok (f y.0, y.1)) (b, rest) e in
    let is = fine_is (f x.0.0, x.0.1) (b, rest) x.2 in
    let g = p xs x.0.0 x.0.1 x.1 in
    record {
      from = x.0.0;
      is = ap (λ (w : B × List ℕ). w.0) is;
      fits = g.0;
      parts = g.1 ∙ ap (λ (w : B × List ℕ). text x.0.0 ++ w.1) is;
    }

pub takes_mapped : {A B : Type 0} (text : A → List ℕ) (Fits : A → Type 0) (P : Reader ℕ A) → Exact text Fits P → (f : A → B) (a : A) (rest : List ℕ) → Fits a → NoDigit rest → mapped f P (text a ++ rest) ≡ Ok (f a, rest)
takes_mapped text Fits P p f a rest fits n = rw (p.takes a rest fits n) refl

-- ---- numbers

pub exact_unsigned : Exact decimal IsU32 unsigned
unfolding unsigned
exact_unsigned = exact_number (2 ^ 32) (omega arith) (omega arith)

pub exact_numbered : (w : List ℕ) → Exact (λ n. w ++ decimal n) IsU32 (numbered w)
exact_numbered w = exact_behind decimal IsU32 unsigned exact_unsigned w

not_equal : (c k : ℕ) → is_ascii_digit c ≡ true → is_ascii_digit k ≡ false → (b : Bool) → (c == k) ≡ b → b ≡ false
not_equal c k digit none true e = sym (sym (ap is_ascii_digit (eqb-true c k e) ∙ none) ∙ digit)
not_equal c k digit none false e = refl

-- a number does not begin with that byte, which is no digit
pub decimal_begins : (n k : ℕ) (rest : List ℕ) → n < 2 ^ 64 → is_ascii_digit k ≡ false → begins (is k) (decimal n ++ rest) ≡ false
decimal_begins n k rest small none =
    let d = is_number (2 ^ 64) n (omega arith) small in
    rw d.2 (not_equal d.0 k d.3 none (d.0 == k) refl)

pub signed_begins : (z : ℤ) (k : ℕ) (rest : List ℕ) → FitsSigned w64 z → is_ascii_digit k ≡ false → (45 == k) ≡ false → begins (is k) (signed_decimal z ++ rest) ≡ false
signed_begins (pos n) k rest fits none minus = decimal_begins n k rest (omega arith) none
signed_begins (negsuc n) k rest fits none minus = minus

abbrev size_text : ℕ → List ℕ
size_text n = codes "-" ++ decimal n

abbrev IsSize : ℕ → Type 0
IsSize n = n < 2 ^ 63 + 1

exact_size : Exact decimal IsSize (number (2 ^ 63 + 1))
exact_size = exact_number (2 ^ 63 + 1) (omega arith) (omega arith)

negated_found : (n : ℕ) (xs : List ℕ) (z : ℤ) (rest : List ℕ) → IsSize n → negated n xs ≡ Ok (z, rest) → FitsSigned w64 z × (codes "-" ++ (decimal n ++ xs) ≡ signed_decimal z ++ rest)
negated_found zero xs z rest fits e = absurd cc
negated_found (suc n) xs z rest fits e =
    let is = fine_is (negsuc n, xs) (z, rest) e in
    subst (λ (w : ℤ × List ℕ). FitsSigned w64 w.0 × (codes "-" ++ (decimal (suc n) ++ xs) ≡ signed_decimal w.0 ++ w.1)) is (omega arith, refl)

below_found : (xs : List ℕ) (z : ℤ) (rest : List ℕ) → behind (codes "-") (next (number (2 ^ 63 + 1)) negated) xs ≡ Ok (z, rest) → FitsSigned w64 z × (xs ≡ signed_decimal z ++ rest)
below_found xs z rest e =
    let x = bind_ok (word (codes "-") xs) (λ y. next (number (2 ^ 63 + 1)) negated y.1) (z, rest) e in
    let f = (exact_word (codes "-")).found xs x.0.0 x.0.1 x.1 in
    let y = bind_ok (number (2 ^ 63 + 1) x.0.1) (λ y. negated y.0 y.1) (z, rest) x.2 in
    let g = exact_size.found x.0.1 y.0.0 y.0.1 y.1 in
    let h = negated_found y.0.0 y.0.1 z rest g.0 y.2 in
    (h.0, f.1 ∙ ap (λ (s : List ℕ). codes "-" ++ s) g.1 ∙ h.1)

above_found : (xs : List ℕ) (z : ℤ) (rest : List ℕ) → Made decimal (λ n. n < 2 ^ 63) pos xs z rest → FitsSigned w64 z × (xs ≡ signed_decimal z ++ rest)
above_found xs z rest m = subst (λ y. FitsSigned w64 y × (xs ≡ signed_decimal y ++ rest)) m.is (omega (arith, m.fits), m.parts)

exact_above : Exact decimal (λ n. n < 2 ^ 63) (number (2 ^ 63))
exact_above = exact_number (2 ^ 63) (omega arith) (omega arith)

signed_takes : (z : ℤ) (rest : List ℕ) → FitsSigned w64 z → NoDigit rest → signed (signed_decimal z ++ rest) ≡ Ok (z, rest)
unfolding signed
signed_takes (pos n) rest fits ends =
    rw (decimal_begins n 45 rest (omega arith) refl) (takes_mapped decimal (λ n. n < 2 ^ 63) (number (2 ^ 63)) exact_above pos n rest (omega arith) ends)
signed_takes (negsuc n) rest fits ends =
    rw (word_takes (codes "-") (decimal (suc n) ++ rest), exact_size.takes (suc n) rest (omega arith) ends) refl

pub exact_signed : Exact signed_decimal (FitsSigned w64) signed
unfolding signed
exact_signed = record {
  found = λ xs z rest e.
      found_either (begins (is 45) xs) (behind (codes "-") (next (number (2 ^ 63 + 1)) negated) xs) (mapped pos (number (2 ^ 63)) xs) (z, rest)
      (below_found xs z rest)
      (λ h. above_found xs z rest (found_mapped decimal (λ n. n < 2 ^ 63) (number (2 ^ 63)) exact_above.found pos xs z rest h)) e;
  takes = signed_takes;
}

-- ---- truth values, cells and values

truth_found : (b : Bool) (xs : List ℕ) (c : Bool) (rest : List ℕ) → Made (λ (u : Unit {0}). truth_text b) always (λ _. b) xs c rest → Unit {0} × (xs ≡ truth_text c ++ rest)
truth_found b xs c rest m = (tt, m.parts ∙ ap (λ (d : Bool). truth_text d ++ rest) m.is)

truth_takes : (b : Bool) (rest : List ℕ) → NoDigit rest → truth (truth_text b ++ rest) ≡ Ok (b, rest)
unfolding truth
truth_takes true rest ends = rw (word_takes (codes "true") rest) refl
truth_takes false rest ends = rw (word_takes (codes "false") rest) refl

pub exact_truth : Exact truth_text always truth
unfolding truth
exact_truth = record {
  found = λ xs c rest e.
      found_either (begins (is 116) xs) (mapped (λ _. true) (word (codes "true")) xs) (mapped (λ _. false) (word (codes "false")) xs) (c, rest)
      (λ h. truth_found true xs c rest (found_mapped (λ u. codes "true") always (word (codes "true")) (exact_word (codes "true")).found (λ _. true) xs c rest h))
      (λ h. truth_found false xs c rest (found_mapped (λ u. codes "false") always (word (codes "false")) (exact_word (codes "false")).found (λ _. false) xs c rest h)) e;
  takes = λ b rest f ends. truth_takes b rest ends;
}

abbrev dotted : ℕ → List ℕ
dotted n = codes "." ++ decimal n

abbrev places : ℕ × ℕ → List ℕ
places p = dotted p.0 ++ dotted p.1

abbrev numbers : ℕ × (ℕ × ℕ) → List ℕ
numbers p = (codes "b" ++ decimal p.0) ++ places p.1

abbrev AreSmall : ℕ × ℕ → Type 0
AreSmall p = IsU32 p.0 × IsU32 p.1

exact_places : Exact places AreSmall (pair (numbered (codes ".")) (numbered (codes ".")))
exact_places = exact_pair dotted IsU32 (numbered (codes ".")) (exact_numbered (codes ".")) dotted IsU32 (numbered (codes ".")) (exact_numbered (codes ".")) (λ n rest. refl)

exact_numbers : Exact numbers (λ p. IsU32 p.0 × AreSmall p.1) (pair (numbered (codes "b")) (pair (numbered (codes ".")) (numbered (codes "."))))
exact_numbers = exact_pair (λ n. codes "b" ++ decimal n) IsU32 (numbered (codes "b")) (exact_numbered (codes "b")) places AreSmall (pair (numbered (codes ".")) (numbered (codes "."))) exact_places (λ p rest. refl)

pub exact_cell : Exact cell_text IsCellWithin cell
unfolding cell
exact_cell = exact_mapped numbers (λ p. IsU32 p.0 × AreSmall p.1) (pair (numbered (codes "b")) (pair (numbered (codes ".")) (numbered (codes ".")))) exact_numbers
    (λ p. record { block = p.0; index = p.1.0; field = p.1.1 }) (λ c. (c.block, (c.index, c.field))) cell_text IsCellWithin
    (λ c. refl) (λ p. simp append_assoc) (λ p f. (f.0, f.1.0, f.1.1)) (λ c f. (f.0, (f.1, f.2)))

abbrev ValueFound : List ℕ → Value → List ℕ → Type 0
ValueFound xs v rest = IsValueWithin v × (xs ≡ value_text v ++ rest)

module _ (xs : List ℕ) (v : Value) (rest : List ℕ) where
  block_found : Made (λ n. codes "b" ++ decimal n) IsU32 value.Block xs v rest → ValueFound xs v rest
  block_found m = subst (λ w. ValueFound xs w rest) m.is (m.fits, m.parts)

  lock_found : Made (λ n. codes "k" ++ decimal n) IsU32 value.Lock xs v rest → ValueFound xs v rest
  lock_found m = subst (λ w. ValueFound xs w rest) m.is (m.fits, m.parts)

  null_found : Made (λ (u : Unit {0}). codes "null") always (λ _. value.Null) xs v rest → ValueFound xs v rest
  null_found m = subst (λ w. ValueFound xs w rest) m.is (tt, m.parts)

  bool_found : Made truth_text always value.Truth xs v rest → ValueFound xs v rest
  bool_found m = subst (λ w. ValueFound xs w rest) m.is (tt, m.parts)

  int_found : Made signed_decimal (FitsSigned w64) value.Int xs v rest → ValueFound xs v rest
  int_found m = subst (λ w. ValueFound xs w rest) m.is (m.fits, m.parts)

  truth_or : mapped value.Truth truth xs ≡ Ok (v, rest) → ValueFound xs v rest
  truth_or h = bool_found (found_mapped truth_text always truth exact_truth.found value.Truth xs v rest h)

  value_found : value_of xs ≡ Ok (v, rest) → ValueFound xs v rest
  unfolding value_of
  value_found e =
      found_either (begins (is 98) xs) (mapped value.Block (numbered (codes "b")) xs) _ (v, rest) (λ h. block_found (found_mapped (λ n. codes "b" ++ decimal n) IsU32 (numbered (codes "b")) (exact_numbered (codes "b")).found value.Block xs v rest h))
      (found_either (begins (is 107) xs) (mapped value.Lock (numbered (codes "k")) xs) _ (v, rest) (λ h. lock_found (found_mapped (λ n. codes "k" ++ decimal n) IsU32 (numbered (codes "k")) (exact_numbered (codes "k")).found value.Lock xs v rest h))
      (found_either (begins (is 110) xs) (mapped (λ _. value.Null) (word (codes "null")) xs) _ (v, rest) (λ h. null_found (found_mapped (λ u. codes "null") always (word (codes "null")) (exact_word (codes "null")).found (λ _. value.Null) xs v rest h))
      (found_either (begins (is 116) xs) (mapped value.Truth truth xs) _ (v, rest) truth_or
      (found_either (begins (is 102) xs) (mapped value.Truth truth xs) (mapped value.Int signed xs) (v, rest) truth_or
      (λ h. int_found (found_mapped signed_decimal (FitsSigned w64) signed exact_signed.found value.Int xs v rest h)))))) e

value_takes : (v : Value) (rest : List ℕ) → IsValueWithin v → NoDigit rest → value_of (value_text v ++ rest) ≡ Ok (v, rest)
unfolding value_of
value_takes (value.Int z) rest f ends =
    rw (signed_begins z 98 rest f refl refl, signed_begins z 107 rest f refl refl, signed_begins z 110 rest f refl refl, signed_begins z 116 rest f refl refl, signed_begins z 102 rest f refl refl)
    (takes_mapped signed_decimal (FitsSigned w64) signed exact_signed value.Int z rest f ends)
value_takes (value.Truth true) rest f ends = takes_mapped truth_text always truth exact_truth value.Truth true rest tt ends
value_takes (value.Truth false) rest f ends = takes_mapped truth_text always truth exact_truth value.Truth false rest tt ends
value_takes value.Null rest f ends = rw (word_takes (codes "null") rest) refl
value_takes (value.Block b) rest f ends = takes_mapped (λ n. codes "b" ++ decimal n) IsU32 (numbered (codes "b")) (exact_numbered (codes "b")) value.Block b rest f ends
value_takes (value.Lock l) rest f ends = takes_mapped (λ n. codes "k" ++ decimal n) IsU32 (numbered (codes "k")) (exact_numbered (codes "k")) value.Lock l rest f ends

pub exact_value : Exact value_text IsValueWithin value_of
exact_value = record { found = λ xs v rest e. value_found xs v rest e; takes = value_takes }
