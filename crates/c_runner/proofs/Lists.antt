-- Lists of the numbers that pass a test.
use Rattle.std.proofs.Common.{◌≡◌, ℕ, zero, suc, ◌+◌, ◌-◌, ◌<◌, ◌≤◌, ◌%◌, ◌==◌, ◌&&◌, ◌||◌, inl, inr, Bool, true, false, List, [], ◌∷◌, ◌++◌, Option, Some, None, cond, not, length, refl, sym, ap, ◌∙◌, subst, arith}
use Rattle.std.specs.Prelude.{filter, nat_le, count_by, slice_index_or, if◌then◌else◌, IfSome, IfNone}
use Rattle.std.proofs.lemmas.Bool.{eq-eqb, eqb-true, leb-true, leb-false}
use Rattle.std.proofs.lemmas.List.Sums.{sum_by-cons}
use Rattle.c_runner.specs.Numbers.{Are, IsLeast, IsNext, mine, first_among, or_else, next_among, without, followed}

-- j is below y, or is y, or comes behind it
pub data Place (j y : ℕ) : Type 0 where
  before : (h : j < y) → Place j y
  here : (h : j ≡ y) → Place j y
  behind : (h : suc y ≤ j) → Place j y

pub place : (j y : ℕ) → Place j y
place zero zero = here refl
place zero (suc y) = before (omega arith)
place (suc j) zero = behind (omega arith)
place (suc j) (suc y) = shifted (place j y)
  where
    shifted : Place j y → Place (suc j) (suc y)
    shifted (before h) = before (omega (arith, h))
    shifted (here h) = here (ap suc h)
    shifted (behind h) = behind (omega (arith, h))

pub unlike : (a b : ℕ) → (a ≡ b → ⊥) → (a == b) ≡ false
unlike a b h = by (a == b) refl
  where
    by : (c : Bool) → (a == b) ≡ c → (a == b) ≡ false
    by true e = absurd (h (eqb-true a b e))
    by false e = e

pub are_same : (test other : ℕ → Bool) (k : ℕ) (xs : List ℕ) → ((t : ℕ) → k ≤ t → other t ≡ test t) → Are test k xs → Are other k xs
are_same test other k [] same h = λ t from. same t from ∙ h t from
are_same test other k (x ∷ xs) same h = (h.0, λ t from below. same t from ∙ h.1 t from below, same x h.0 ∙ h.2, are_same test other (suc x) xs (λ t from. same t (omega (arith, h.0, from))) h.3)

are_down : (test : ℕ → Bool) (k y : ℕ) (xs : List ℕ) → k ≤ y → ((t : ℕ) → k ≤ t → t < y → test t ≡ false) → test y ≡ false → Are test (suc y) xs → Are test k xs
are_down test k y [] low gap at h = λ t from. by t from (place t y)
  where
    by : (t : ℕ) → k ≤ t → Place t y → test t ≡ false
    by t from (before g) = gap t from g
    by t from (here g) = ap test g ∙ at
    by t from (behind g) = h t g
are_down test k y (x ∷ xs) low gap at h = (omega (arith, h.0, low), λ t from below. by t from below (place t y), h.2, h.3)
  where
    by : (t : ℕ) → k ≤ t → t < x → Place t y → test t ≡ false
    by t from below (before g) = gap t from g
    by t from below (here g) = ap test g ∙ at
    by t from below (behind g) = h.1 t g below

no_and : (a b : Bool) → a ≡ false → (a && b) ≡ false
no_and a b h = ap (λ z. z && b) h

and_no : (a b : Bool) → b ≡ false → (a && b) ≡ false
and_no true b h = h
and_no false b h = refl

both_true : (a b : Bool) → a ≡ true → b ≡ true → (a && b) ≡ true
both_true a b h g = ap (λ z. z && b) h ∙ g

filter_one : (test other f : ℕ → Bool) (k x : ℕ) (xs : List ℕ) (b : Bool) → f x ≡ b → ((t : ℕ) → other t ≡ (test t && f t)) → k ≤ x → ((t : ℕ) → k ≤ t → t < x → test t ≡ false) → test x ≡ true → Are other (suc x) (filter f xs) → Are other k (cond b (x ∷ filter f xs) (filter f xs))
filter_one test other f k x xs true is same low gap at h = (low, λ t from below. same t ∙ no_and (test t) (f t) (gap t from below), same x ∙ both_true (test x) (f x) at is, h)
filter_one test other f k x xs false is same low gap at h = are_down other k x (filter f xs) low (λ t from below. same t ∙ no_and (test t) (f t) (gap t from below)) (same x ∙ and_no (test x) (f x) is) h

pub are_filter : (test other f : ℕ → Bool) (k : ℕ) (xs : List ℕ) → ((t : ℕ) → other t ≡ (test t && f t)) → Are test k xs → Are other k (filter f xs)
are_filter test other f k [] same h = λ t from. same t ∙ no_and (test t) (f t) (h t from)
are_filter test other f k (x ∷ xs) same h = filter_one test other f k x xs (f x) refl same h.0 h.1 h.2 (are_filter test other f (suc x) xs same h.3)

-- ---- one more, and one less

abbrev pub with_one : Bool → ℕ → (ℕ → Bool) → ℕ → Bool
with_one made n test t = (made && (t == n)) || test t

one_here : (test : ℕ → Bool) (n : ℕ) → with_one true n test n ≡ true
one_here test n = ap (λ z. z || test n) (eq-eqb n n refl)

one_elsewhere : (test : ℕ → Bool) (n t : ℕ) → (t ≡ n → ⊥) → with_one true n test t ≡ test t
one_elsewhere test n t h = ap (λ z. z || test t) (unlike t n h)

apart : (a b : Bool) → a ≡ true → b ≡ false → a ≡ b → ⊥
apart a b h g e = let w : true ≡ false = sym h ∙ (e ∙ g) in cc

are_push : (test : ℕ → Bool) (n k : ℕ) (xs : List ℕ) → k ≤ n → ((t : ℕ) → n ≤ t → test t ≡ false) → Are test k xs → Are (with_one true n test) k (xs ++ n ∷ [])
are_push test n k [] low none h =
    (low, λ t from below. one_elsewhere test n t (λ e. omega (arith, e, below)) ∙ h t from, one_here test n, λ t from. one_elsewhere test n t (λ e. omega (arith, e, from)) ∙ none t (omega (arith, from)))
are_push test n k (x ∷ xs) low none h =
    let below_n : x < n = under (place x n) in
    (h.0, λ t from below. one_elsewhere test n t (λ e. omega (arith, e, below, below_n)) ∙ h.1 t from below, one_elsewhere test n x (λ e. omega (arith, e, below_n)) ∙ h.2, are_push test n (suc x) xs below_n none h.3)
  where
    under : Place x n → x < n
    under (before g) = g
    under (here g) = absurd (apart (test x) (test x) h.2 (none x (omega (arith, g))) refl)
    under (behind g) = absurd (apart (test x) (test x) h.2 (none x (omega (arith, g))) refl)

made_are : (made : Bool) (test : ℕ → Bool) (n : ℕ) (xs : List ℕ) → ((t : ℕ) → n ≤ t → test t ≡ false) → Are test 0 xs → Are (with_one made n test) 0 (if made then xs ++ n ∷ [] else xs)
made_are true test n xs none h = are_push test n 0 xs (omega arith) none h
made_are false test n xs none h = h

ended_are : (ended : Bool) (t : ℕ) (test other : ℕ → Bool) (xs : List ℕ) → ((u : ℕ) → other u ≡ (test u && not (ended && (u == t)))) → Are test 0 xs → Are other 0 (if ended then without t xs else xs)
ended_are true t test other xs same h = are_filter test other (λ x. not (x == t)) 0 xs same h
ended_are false t test other xs same h = are_same test other 0 xs (λ u from. same u ∙ and_true (test u)) h
  where
    and_true : (b : Bool) → (b && true) ≡ b
    and_true true = refl
    and_true false = refl

followed_is : (ended : Bool) (t : ℕ) (made : Bool) (n : ℕ) (xs : List ℕ) → followed ended t made n xs ≡ (if ended then without t (if made then xs ++ n ∷ [] else xs) else (if made then xs ++ n ∷ [] else xs))
followed_is true t made n xs = refl
followed_is false t made n xs = refl

-- thread t has ended or not, and thread n was made or not
pub followed_are : (ended made : Bool) (t n : ℕ) (test other : ℕ → Bool) (xs : List ℕ) → ((u : ℕ) → n ≤ u → test u ≡ false) → ((u : ℕ) → other u ≡ (with_one made n test u && not (ended && (u == t)))) → Are test 0 xs → Are other 0 (followed ended t made n xs)
followed_are ended made t n test other xs none same h =
    subst (Are other 0) (sym (followed_is ended t made n xs)) (ended_are ended t (with_one made n test) other (if made then xs ++ n ∷ [] else xs) same (made_are made test n xs none h))

-- ---- the next one

abbrev pub LeastFrom : (ℕ → Bool) → ℕ → ℕ → ℕ → ℕ → Option ℕ → Type 0
LeastFrom test worker workers from k (Some t) = (k ≤ t) × (from ≤ t) × (mine worker workers test t ≡ true) × ((j : ℕ) → k ≤ j → from ≤ j → j < t → mine worker workers test j ≡ false)
LeastFrom test worker workers from k None = (j : ℕ) → k ≤ j → from ≤ j → mine worker workers test j ≡ false

module _ (test : ℕ → Bool) (worker workers from : ℕ) where
  none_mine : (j : ℕ) → test j ≡ false → mine worker workers test j ≡ false
  none_mine j h = and_no (j % workers == worker) (test j) h

  least_wider : (k x : ℕ) (r : Option ℕ) → k ≤ x → ((t : ℕ) → k ≤ t → t < x → test t ≡ false) → (from ≤ x → mine worker workers test x ≡ false) → LeastFrom test worker workers from (suc x) r → LeastFrom test worker workers from k r
  least_wider k x (Some t) low gap at h = (omega (arith, h.0, low), h.1, h.2, λ j kj fj less. by j kj fj less (place j x))
    where
      by : (j : ℕ) → k ≤ j → from ≤ j → j < t → Place j x → mine worker workers test j ≡ false
      by j kj fj less (before g) = none_mine j (gap j kj g)
      by j kj fj less (here g) = ap (mine worker workers test) g ∙ at (omega (arith, g, fj))
      by j kj fj less (behind g) = h.3 j g fj less
  least_wider k x None low gap at h = λ j kj fj. by j kj fj (place j x)
    where
      by : (j : ℕ) → k ≤ j → from ≤ j → Place j x → mine worker workers test j ≡ false
      by j kj fj (before g) = none_mine j (gap j kj g)
      by j kj fj (here g) = ap (mine worker workers test) g ∙ at (omega (arith, g, fj))
      by j kj fj (behind g) = h j g fj

  least_one : (k x : ℕ) (a b : Bool) (rest : Option ℕ) → nat_le from x ≡ a → (x % workers == worker) ≡ b → k ≤ x → ((t : ℕ) → k ≤ t → t < x → test t ≡ false) → test x ≡ true → LeastFrom test worker workers from (suc x) rest → LeastFrom test worker workers from k (if a && b then Some x else rest)
  least_one k x true true rest above own low gap at h = (low, leb-true from x above, both_true (x % workers == worker) (test x) own at, λ j kj fj less. none_mine j (gap j kj less))
  least_one k x true false rest above own low gap at h = least_wider k x rest low gap (λ z. no_and (x % workers == worker) (test x) own) h
  least_one k x false b rest above own low gap at h = least_wider k x rest low gap (λ z. absurd (omega (arith, z, leb-false from x above))) h

  pub least_among : (k : ℕ) (xs : List ℕ) → Are test k xs → LeastFrom test worker workers from k (first_among xs from worker workers)
  least_among k [] h = λ j kj fj. none_mine j (h j kj)
  least_among k (x ∷ xs) h = least_one k x (nat_le from x) (x % workers == worker) (first_among xs from worker workers) refl refl h.0 h.1 h.2 (least_among (suc x) xs h.3)

pub least_is : (test : ℕ → Bool) (worker workers from t : ℕ) (xs : List ℕ) → Are test 0 xs → first_among xs from worker workers ≡ Some t → IsLeast (mine worker workers test) from t
least_is test worker workers from t xs h e =
    let got = subst (LeastFrom test worker workers from 0) e (least_among test worker workers from 0 xs h) in
    record { above = got.1; passes = got.2; least = λ k above below. got.3 k (omega arith) above below }

pub none_is : (test : ℕ → Bool) (worker workers from : ℕ) (xs : List ℕ) → Are test 0 xs → first_among xs from worker workers ≡ None → (k : ℕ) → from ≤ k → mine worker workers test k ≡ false
none_is test worker workers from xs h e = λ k above. subst (LeastFrom test worker workers from 0) e (least_among test worker workers from 0 xs h) k (omega arith) above

next_one : (test : ℕ → Bool) (worker workers from : ℕ) (xs : List ℕ) (a b : Option ℕ) → Are test 0 xs → first_among xs from worker workers ≡ a → first_among xs 0 worker workers ≡ b → IfSome (or_else a b) (IsNext (mine worker workers test) from)
next_one test worker workers from xs (Some t) b are e g = inl (least_is test worker workers from t xs are e)
next_one test worker workers from xs None (Some t) are e g = inr (none_is test worker workers from xs are e, least_is test worker workers 0 t xs are g)
next_one test worker workers from xs None None are e g = tt

pub next_is : (test : ℕ → Bool) (worker workers from : ℕ) (xs : List ℕ) (r : Option ℕ) → Are test 0 xs → r ≡ next_among xs from worker workers → IfSome r (IsNext (mine worker workers test) from)
next_is test worker workers from xs r are e = subst (λ z. IfSome z (IsNext (mine worker workers test) from)) (sym e) (next_one test worker workers from xs (first_among xs from worker workers) (first_among xs 0 worker workers) are refl refl)

no_next : (test : ℕ → Bool) (worker workers : ℕ) (xs : List ℕ) (a b : Option ℕ) → Are test 0 xs → first_among xs 0 worker workers ≡ b → IfNone (or_else a b) ((k : ℕ) → mine worker workers test k ≡ false)
no_next test worker workers xs (Some t) b are g = tt
no_next test worker workers xs None (Some t) are g = tt
no_next test worker workers xs None None are g = λ k. none_is test worker workers 0 xs are g k (omega arith)

pub none_next : (test : ℕ → Bool) (worker workers from : ℕ) (xs : List ℕ) (r : Option ℕ) → Are test 0 xs → r ≡ next_among xs from worker workers → IfNone r ((k : ℕ) → mine worker workers test k ≡ false)
none_next test worker workers from xs r are e = subst (λ z. IfNone z ((k : ℕ) → mine worker workers test k ≡ false)) (sym e) (no_next test worker workers xs (first_among xs from worker workers) (first_among xs 0 worker workers) are refl)

-- with one worker all numbers are its own
pub all_mine : (test : ℕ → Bool) (t : ℕ) → mine 0 1 test t ≡ test t
all_mine test t = ap (λ z. z && test t) (eq-eqb (t % 1) 0 (omega arith))

least_own : (test : ℕ → Bool) (from t : ℕ) → IsLeast (mine 0 1 test) from t → IsLeast test from t
least_own test from t h = record { above = h.above; passes = sym (all_mine test t) ∙ h.passes; least = λ k above below. sym (all_mine test k) ∙ h.least k above below }

pub next_own : (test : ℕ → Bool) (from t : ℕ) → IsNext (mine 0 1 test) from t → IsNext test from t
next_own test from t (inl h) = inl (least_own test from t h)
next_own test from t (inr h) = inr (λ k above. sym (all_mine test k) ∙ h.0 k above, least_own test 0 t h.1)

pub next_passes : (worker workers : ℕ) (test : ℕ → Bool) (from t : ℕ) → IsNext (mine worker workers test) from t → mine worker workers test t ≡ true
next_passes worker workers test from t (inl h) = h.passes
next_passes worker workers test from t (inr h) = h.1.passes

pub mine_parts : (worker workers : ℕ) (test : ℕ → Bool) (t : ℕ) → mine worker workers test t ≡ true → ((t % workers == worker) ≡ true) × (test t ≡ true)
mine_parts worker workers test t h = parts (t % workers == worker) (test t) h
  where
    parts : (a b : Bool) → (a && b) ≡ true → (a ≡ true) × (b ≡ true)
    parts true true e = (refl, refl)
    parts true false e = cc
    parts false b e = cc

-- ---- how many

module _ {A : Type 0} (test : A → Bool) (default : A) where
  shifted_count : (k : ℕ) (ts : List A) (passes : ℕ → Bool) (xs : List ℕ) → test default ≡ false → ((i : ℕ) → passes (k + i) ≡ test (slice_index_or ts i default)) → Are passes k xs → length xs ≡ count_by test ts
  shifted_count k [] passes [] plain same h = refl
  shifted_count k [] passes (x ∷ xs) plain same h = absurd (apart (passes x) (passes x) h.2 (at_gap (same (x - k))) refl)
    where
      at_gap : passes (k + (x - k)) ≡ test default → passes x ≡ false
      at_gap e = let w : k + (x - k) ≡ x = omega (arith, h.0) in ap passes (sym w) ∙ (e ∙ plain)
  shifted_count k (c ∷ cs) passes xs plain same h = by (λ ys g. shifted_count (suc k) cs passes ys plain later g) (test c) refl xs h
    where
      later : (i : ℕ) → passes (suc k + i) ≡ test (slice_index_or cs i default)
      later i = let w : suc k + i ≡ k + suc i = omega arith in ap passes w ∙ same (suc i)

      here_is : passes k ≡ test c
      here_is = let w : k ≡ k + 0 = omega arith in ap passes w ∙ same 0

      counted : (b : Bool) → test c ≡ b → cond b 1 0 + count_by test cs ≡ count_by test (c ∷ cs)
      counted b is = ap (λ z. cond z 1 0 + count_by test cs) (sym is) ∙ sym (sum_by-cons (λ x. cond (test x) 1 0) c cs)

      one_more : test c ≡ true → suc (count_by test cs) ≡ count_by test (c ∷ cs)
      one_more is = omega (arith, counted true is)

      no_more : test c ≡ false → count_by test cs ≡ count_by test (c ∷ cs)
      no_more is = omega (arith, counted false is)

      by : ((ys : List ℕ) → Are passes (suc k) ys → length ys ≡ count_by test cs) → (b : Bool) → test c ≡ b → (ys : List ℕ) → Are passes k ys → length ys ≡ count_by test (c ∷ cs)
      by ih true is [] g = absurd (apart (passes k) (passes k) (here_is ∙ is) (g k (omega arith)) refl)
      by ih true is (y ∷ ys) g =
          let first : y ≡ k = at_first (place k y) in
          ap suc (ih ys (subst (λ z. Are passes (suc z) ys) first g.3)) ∙ one_more is
        where
          at_first : Place k y → y ≡ k
          at_first (before e) = absurd (apart (passes k) (passes k) (here_is ∙ is) (g.1 k (omega arith) e) refl)
          at_first (here e) = sym e
          at_first (behind e) = absurd (omega (arith, e, g.0))
      by ih false is [] g = ih [] (λ t from. g t (omega (arith, from))) ∙ no_more is
      by ih false is (y ∷ ys) g =
          ih (y ∷ ys) (after (place k y), λ t from below. g.1 t (omega (arith, from)) below, g.2, g.3) ∙ no_more is
        where
          after : Place k y → suc k ≤ y
          after (before e) = omega (arith, e)
          after (here e) = absurd (apart (passes y) (passes y) g.2 (ap passes (sym e) ∙ (here_is ∙ is)) refl)
          after (behind e) = absurd (omega (arith, e, g.0))

  pub count_is : (ts : List A) (xs : List ℕ) → test default ≡ false → Are (λ t. test (slice_index_or ts t default)) 0 xs → length xs ≡ count_by test ts
  count_is ts xs plain h = shifted_count 0 ts (λ t. test (slice_index_or ts t default)) xs plain (λ i. let e : 0 + i ≡ i = omega arith in ap (λ z. test (slice_index_or ts z default)) e) h
