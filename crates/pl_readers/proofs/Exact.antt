-- Words and numbers are read right.
use Rattle.std.proofs.Common.{◌≡◌, ℕ, zero, suc, ◌+◌, ◌-◌, ◌*◌, ◌≤◌, ◌<◌, ◌&&◌, ◌==◌, Bool, true, false, List, [], ◌∷◌, ◌++◌, length, Ok, Err, refl, sym, ap, ◌∙◌, arith}
use Rattle.std.specs.Prelude.{nat_le, nat_lt}
use Rattle.std.proofs.lemmas.Bool.{eqb-true, eq-eqb, leb-true, and_parts, and_from, lt-ltb, ltb-true}
use Rattle.std.specs.Char.{is_ascii_digit}
use Rattle.std.specs.List.{list_all}
use Rattle.pl_readers.specs.declared.error.Stop.{Stop}
use Rattle.pl_readers.specs.Reader.{begins, SameHead}
use Rattle.pl_readers.specs.Reads.{Ends, at_left, Took, Stopped, Reads}
use Rattle.pl_readers.specs.Bytes.{Word, value_from, Number, word, grows, digits, number}
use Rattle.pl_readers.proofs.Correct.{fine_is, err_left}

-- ---- words

word_took_at : (c : ℕ) (s : List ℕ) (x : ℕ) (xs : List ℕ) (u : Unit {0}) (rest : List ℕ) → (word s xs ≡ Ok (u, rest) → (xs ≡ s ++ rest) × ((other : List ℕ) → word s (s ++ other) ≡ Ok (u, other)))
    → (b : Bool) → (x == c) ≡ b → word (c ∷ s) (x ∷ xs) ≡ Ok (u, rest) → (x ∷ xs ≡ (c ∷ s) ++ rest) × ((other : List ℕ) → word (c ∷ s) ((c ∷ s) ++ other) ≡ Ok (u, other))
unfolding word
word_took_at c s x xs u rest ih true b e =
    let e1 : word s xs ≡ Ok (u, rest) = rw b at e in
    let h = ih e1 in
    (rw (eqb-true x c b, h.0) refl, λ other. rw (eq-eqb c c refl) (h.1 other))
word_took_at c s x xs u rest ih false b e = let e1 = rw b at e in absurd cc

word_took : (s xs : List ℕ) (u : Unit {0}) (rest : List ℕ) → word s xs ≡ Ok (u, rest) → (xs ≡ s ++ rest) × ((other : List ℕ) → word s (s ++ other) ≡ Ok (u, other))
unfolding word
word_took [] xs u rest e = (ap (λ (z : Unit {0} × List ℕ). z.1) (fine_is (tt, xs) (u, rest) e), λ other. refl)
word_took (c ∷ s) [] u rest e = absurd cc
word_took (c ∷ s) (x ∷ xs) u rest e = word_took_at c s x xs u rest (λ h. word_took s xs u rest h) (x == c) refl e

head_only : (x : ℕ) (xs other : List ℕ) → SameHead (x ∷ xs) other → SameHead (x ∷ []) other
head_only x xs [] h = h
head_only x xs (y ∷ ys) h = h

-- what a word stops at
record Partly (s xs : List ℕ) (t : Stop) : Type 0 where
  before : List ℕ
  more : List ℕ
  bad : List ℕ
  parts : xs ≡ before ++ bad
  of_word : s ≡ before ++ more
  left : t.left ≡ length bad
  sure : t.is_deep ≡ true → ⊥
  again : (other : List ℕ) → SameHead bad other → word s (before ++ other) ≡ Err (at_left t (length other))

none_again : (c : ℕ) (s : List ℕ) (t : Stop) → record { is_deep = false; left = 0 } ≡ t → (other : List ℕ) → SameHead {S = ℕ} [] other → word (c ∷ s) other ≡ Err (at_left t (length other))
unfolding word
none_again c s t e [] same = rw (← e) refl
none_again c s t e (y ∷ ys) same = absurd same

bad_again : (c : ℕ) (s : List ℕ) (x : ℕ) (t : Stop) (n : ℕ) → (x == c) ≡ false → record { is_deep = false; left = n } ≡ t → (other : List ℕ) → SameHead (x ∷ []) other → word (c ∷ s) other ≡ Err (at_left t (length other))
unfolding word
bad_again c s x t n b e [] same = absurd same
bad_again c s x t n b e (y ∷ ys) same = rw (← same, b, ← e) refl

word_stopped_at : (c : ℕ) (s : List ℕ) (x : ℕ) (xs : List ℕ) (t : Stop) → (word s xs ≡ Err t → Partly s xs t) → (b : Bool) → (x == c) ≡ b → word (c ∷ s) (x ∷ xs) ≡ Err t → Partly (c ∷ s) (x ∷ xs) t
unfolding word
word_stopped_at c s x xs t ih true b e =
    let e1 : word s xs ≡ Err t = rw b at e in
    let h = ih e1 in
    record {
      before = c ∷ h.before;
      more = h.more;
      bad = h.bad;
      parts = ap (λ (r : List ℕ). x ∷ r) h.parts ∙ ap (λ (z : ℕ). z ∷ (h.before ++ h.bad)) (eqb-true x c b);
      of_word = ap (λ (r : List ℕ). c ∷ r) h.of_word;
      left = h.left;
      sure = h.sure;
      again = λ other same. rw (eq-eqb c c refl) (h.again other same);
    }
word_stopped_at c s x xs t ih false b e =
    let e1 = rw b at e in
    let e2 = err_left _ (record { is_deep = false; left = suc (length xs) }) t e1 in
    record {
      before = [];
      more = c ∷ s;
      bad = x ∷ xs;
      parts = refl;
      of_word = refl;
      left = ap (λ (z : Stop). z.left) (sym e2);
      sure = λ d. let e3 = ap (λ (z : Stop). z.is_deep) e2 in absurd cc;
      again = λ other same. bad_again c s x t (suc (length xs)) b e2 other (head_only x xs other same);
    }

word_stopped : (s xs : List ℕ) (t : Stop) → word s xs ≡ Err t → Partly s xs t
unfolding word
word_stopped [] xs t e = absurd cc
word_stopped (c ∷ s) [] t e =
    let e1 = err_left _ (record { is_deep = false; left = 0 }) t e in
    record {
      before = [];
      more = c ∷ s;
      bad = [];
      parts = refl;
      of_word = refl;
      left = ap (λ (z : Stop). z.left) (sym e1);
      sure = λ d. let e2 = ap (λ (z : Stop). z.is_deep) e1 in absurd cc;
      again = λ other same. none_again c s t e1 other same;
    }
word_stopped (c ∷ s) (x ∷ xs) t e = word_stopped_at c s x xs t (λ h. word_stopped s xs t h) (x == c) refl e

pub word_takes : (s rest : List ℕ) → word s (s ++ rest) ≡ Ok (tt, rest)
unfolding word
word_takes [] rest = refl
word_takes (c ∷ s) rest = rw (eq-eqb c c refl) (word_takes s rest)

pub Reads-word : (s : List ℕ) (goes : ℕ → Bool) → Reads (Word s) (Word s) goes (word s)
Reads-word s goes = record {
  within = λ u text t. t;
  took = λ xs u rest e. let h = word_took s xs u rest e in record { text = s; is_text = refl; parts = h.0; again = λ other same. h.1 other };
  stopped = λ xs t e.
      let h = word_stopped s xs t e in
      record { before = h.before; bad = h.bad; parts = h.parts; left = h.left; viable = (h.more, tt, sym h.of_word); deeper = λ d y ys b. absurd (h.sure d); some_bad = λ d b. h.sure d; again = h.again };
  takes = λ u text rest t e. rw t (word_takes s rest);
}

-- ---- numbers

pub value_grows : (v : ℕ) (cs : List ℕ) → v ≤ value_from v cs
value_grows v [] = omega arith
value_grows v (c ∷ cs) = omega (arith, value_grows (v * 10 + (c - 48)) cs)

record Digits (limit v : ℕ) (xs : List ℕ) (n : ℕ) (rest : List ℕ) : Type 0 where
  text : List ℕ
  parts : xs ≡ text ++ rest
  each : list_all is_ascii_digit text ≡ true
  value : value_from v text ≡ n
  below : n < limit
  none : v ≡ 0 → text ≡ []
  again : (other : List ℕ) → SameHead rest other → digits limit v (text ++ other) ≡ Ok (n, other)

no_digit : (limit v : ℕ) (xs other : List ℕ) → begins (grows limit v) xs ≡ false → SameHead xs other → digits limit v other ≡ Ok (v, other)
unfolding digits
no_digit limit v xs [] b same = refl
no_digit limit v [] (y ∷ ys) b same = absurd same
no_digit limit v (x ∷ xs) (y ∷ ys) b same = rw (← same, b) refl

digits_at : (limit v c : ℕ) (cs : List ℕ) (n : ℕ) (rest : List ℕ) → v < limit → (digits limit (v * 10 + (c - 48)) cs ≡ Ok (n, rest) → v * 10 + (c - 48) < limit → Digits limit (v * 10 + (c - 48)) cs n rest)
    → (b : Bool) → grows limit v c ≡ b → digits limit v (c ∷ cs) ≡ Ok (n, rest) → Digits limit v (c ∷ cs) n rest
unfolding digits
digits_at limit v c cs n rest lt ih true b e =
    let p = and_parts (is_ascii_digit c) (nat_lt 0 v && nat_lt (v * 10 + (c - 48)) limit) b in
    let q = and_parts (nat_lt 0 v) (nat_lt (v * 10 + (c - 48)) limit) p.1 in
    let some = ltb-true 0 v q.0 in
    let h = ih (rw b at e) (ltb-true (v * 10 + (c - 48)) limit q.1) in
    record {
      text = c ∷ h.text;
      parts = ap (λ (r : List ℕ). c ∷ r) h.parts;
      each = and_from (is_ascii_digit c) (list_all is_ascii_digit h.text) p.0 h.each;
      value = h.value;
      below = h.below;
      none = λ z. absurd (omega arith);
      again = λ other same. rw b (h.again other same);
    }
digits_at limit v c cs n rest lt ih false b e =
    let y = fine_is (v, c ∷ cs) (n, rest) (rw b at e) in
    let n_is : v ≡ n = ap (λ (z : ℕ × List ℕ). z.0) y in
    let rest_is : c ∷ cs ≡ rest = ap (λ (z : ℕ × List ℕ). z.1) y in
    record {
      text = [];
      parts = rest_is;
      each = refl;
      value = n_is;
      below = rw (← n_is) lt;
      none = λ z. refl;
      again = λ other same. no_digit limit v (c ∷ cs) other b (rw rest_is same) ∙ ap (λ (z : ℕ). Ok (z, other)) n_is;
    }

digits_took : (limit v : ℕ) (xs : List ℕ) (n : ℕ) (rest : List ℕ) → v < limit → digits limit v xs ≡ Ok (n, rest) → Digits limit v xs n rest
unfolding digits
digits_took limit v [] n rest lt e =
    let y = fine_is (v, []) (n, rest) e in
    let n_is : v ≡ n = ap (λ (z : ℕ × List ℕ). z.0) y in
    let rest_is : [] ≡ rest = ap (λ (z : ℕ × List ℕ). z.1) y in
    record {
      text = [];
      parts = rest_is;
      each = refl;
      value = n_is;
      below = rw (← n_is) lt;
      none = λ z. refl;
      again = λ other same. no_digit limit v [] other refl (rw rest_is same) ∙ ap (λ (z : ℕ). Ok (z, other)) n_is;
    }
digits_took limit v (c ∷ cs) n rest lt e = digits_at limit v c cs n rest lt (λ h k. digits_took limit (v * 10 + (c - 48)) cs n rest k h) (grows limit v c) refl e

some_first : (v c : ℕ) (text : List ℕ) → (v ≡ 0 → c ∷ text ≡ []) → 0 < v
some_first zero c text z = let h = z refl in absurd cc
some_first (suc v) c text z = omega arith

digits_takes : (limit v : ℕ) (text rest : List ℕ) → list_all is_ascii_digit text ≡ true → (v ≡ 0 → text ≡ []) → value_from v text < limit → Ends is_ascii_digit rest → digits limit v (text ++ rest) ≡ Ok (value_from v text, rest)
unfolding digits
digits_takes limit v [] [] d z lt e = refl
digits_takes limit v [] (x ∷ rest) d z lt e = rw e refl
digits_takes limit v (c ∷ text) rest d z lt e =
    let some : 0 < v = some_first v c text z in
    let each = and_parts (is_ascii_digit c) (list_all is_ascii_digit text) d in
    let small : v * 10 + (c - 48) < limit = omega (arith, value_grows (v * 10 + (c - 48)) text) in
    let g : grows limit v c ≡ true = rw (each.0, lt-ltb 0 v some, lt-ltb (v * 10 + (c - 48)) limit small) refl in
    rw g (digits_takes limit (v * 10 + (c - 48)) text rest each.1 (λ z1. absurd (omega arith)) lt e)

digit_small : (c : ℕ) → is_ascii_digit c ≡ true → (c - 48 < 10) × (48 ≤ c)
digit_small c e = let p = and_parts (nat_le 48 c) (nat_le c 57) e in let a = leb-true 48 c p.0 in let b = leb-true c 57 p.1 in (omega arith, omega arith)

number_took_at : (limit c : ℕ) (cs : List ℕ) (n : ℕ) (rest : List ℕ) → 10 ≤ limit → (b : Bool) → is_ascii_digit c ≡ b → number limit (c ∷ cs) ≡ Ok (n, rest) → Took (Number limit) (number limit) (c ∷ cs) n rest
unfolding number
number_took_at limit c cs n rest ten true b e =
    let small = digit_small c b in
    let h = digits_took limit (c - 48) cs n rest (omega (arith, small.0)) (rw b at e) in
    record {
      text = c ∷ h.text;
      is_text = (c, h.text, refl, b, h.each, λ z. h.none (omega arith), h.value, h.below);
      parts = ap (λ (r : List ℕ). c ∷ r) h.parts;
      again = λ other same. rw b (h.again other same);
    }
number_took_at limit c cs n rest ten false b e = let e1 = rw b at e in absurd cc

number_took : (limit : ℕ) → 10 ≤ limit → (xs : List ℕ) (n : ℕ) (rest : List ℕ) → number limit xs ≡ Ok (n, rest) → Took (Number limit) (number limit) xs n rest
unfolding number
number_took limit ten [] n rest e = absurd cc
number_took limit ten (c ∷ cs) n rest e = number_took_at limit c cs n rest ten (is_ascii_digit c) refl e

number_none : (limit : ℕ) (t : Stop) → record { is_deep = false; left = 0 } ≡ t → (other : List ℕ) → SameHead {S = ℕ} [] other → number limit other ≡ Err (at_left t (length other))
unfolding number
number_none limit t e [] same = rw (← e) refl
number_none limit t e (y ∷ ys) same = absurd same

number_bad : (limit x : ℕ) (t : Stop) (n : ℕ) → is_ascii_digit x ≡ false → record { is_deep = false; left = n } ≡ t → (other : List ℕ) → SameHead (x ∷ []) other → number limit other ≡ Err (at_left t (length other))
unfolding number
number_bad limit x t n b e [] same = absurd same
number_bad limit x t n b e (y ∷ ys) same = rw (← same, b, ← e) refl

digits_ok_at : (limit v c : ℕ) (cs : List ℕ) (t : Stop) → (digits limit (v * 10 + (c - 48)) cs ≡ Err t → ⊥) → (b : Bool) → grows limit v c ≡ b → digits limit v (c ∷ cs) ≡ Err t → ⊥
unfolding digits
digits_ok_at limit v c cs t ih true b e = ih (rw b at e)
digits_ok_at limit v c cs t ih false b e = let e1 = rw b at e in absurd cc

digits_ok : (limit v : ℕ) (xs : List ℕ) (t : Stop) → digits limit v xs ≡ Err t → ⊥
unfolding digits
digits_ok limit v [] t e = absurd cc
digits_ok limit v (c ∷ cs) t e = digits_ok_at limit v c cs t (λ h. digits_ok limit (v * 10 + (c - 48)) cs t h) (grows limit v c) refl e

number_stopped_at : (limit c : ℕ) (cs : List ℕ) (t : Stop) → 10 ≤ limit → (b : Bool) → is_ascii_digit c ≡ b → number limit (c ∷ cs) ≡ Err t → Stopped (Number limit) (number limit) (c ∷ cs) t
unfolding number
number_stopped_at limit c cs t ten true b e = absurd (digits_ok limit (c - 48) cs t (rw b at e))
number_stopped_at limit c cs t ten false b e =
    let e1 = rw b at e in
    let e2 = err_left _ (record { is_deep = false; left = suc (length cs) }) t e1 in
    record {
      before = [];
      bad = c ∷ cs;
      parts = refl;
      left = ap (λ (z : Stop). z.left) (sym e2);
      viable = (49 ∷ [], 1, (49, [], refl, refl, refl, λ z. refl, refl, omega arith));
      deeper = λ d y ys h. let e3 = ap (λ (z : Stop). z.is_deep) e2 in absurd cc;
      some_bad = λ d h. let e3 = ap (λ (z : Stop). z.is_deep) e2 in absurd cc;
      again = λ other same. number_bad limit c t (suc (length cs)) b e2 other (head_only c cs other same);
    }

number_stopped : (limit : ℕ) → 10 ≤ limit → (xs : List ℕ) (t : Stop) → number limit xs ≡ Err t → Stopped (Number limit) (number limit) xs t
unfolding number
number_stopped limit ten [] t e =
    let e2 = err_left _ (record { is_deep = false; left = 0 }) t e in
    record {
      before = [];
      bad = [];
      parts = refl;
      left = ap (λ (z : Stop). z.left) (sym e2);
      viable = (49 ∷ [], 1, (49, [], refl, refl, refl, λ z. refl, refl, omega arith));
      deeper = λ d y ys h. let e3 = ap (λ (z : Stop). z.is_deep) e2 in absurd cc;
      some_bad = λ d h. let e3 = ap (λ (z : Stop). z.is_deep) e2 in absurd cc;
      again = λ other same. number_none limit t e2 other same;
    }
number_stopped limit ten (c ∷ cs) t e = number_stopped_at limit c cs t ten (is_ascii_digit c) refl e

number_takes : (limit n : ℕ) (text rest : List ℕ) → Number limit n text → Ends is_ascii_digit rest → number limit (text ++ rest) ≡ Ok (n, rest)
unfolding number
number_takes limit n text rest t e =
    let c = t.0 in
    let cs = t.1 in
    let small = digit_small c t.3 in
    let h = digits_takes limit (c - 48) cs rest t.4 (λ z. t.5 (omega (arith, small.1))) (rw t.6 t.7) e in
    rw (t.2, t.3) (h ∙ ap (λ (m : ℕ). Ok (m, rest)) t.6)

pub Reads-number : (limit : ℕ) → 10 ≤ limit → Reads (Number limit) (Number limit) is_ascii_digit (number limit)
Reads-number limit ten = record {
  within = λ n text t. t;
  took = λ xs n rest e. number_took limit ten xs n rest e;
  stopped = λ xs s e. number_stopped limit ten xs s e;
  takes = λ n text rest t e. number_takes limit n text rest t e;
}
