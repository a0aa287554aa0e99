-- A choice by the next two tokens.
use Rattle.std.proofs.Common.{◌≡◌, ◌&&◌, inl, inr, Bool, true, false, List, [], ◌∷◌, ◌++◌, length, Result, Ok, Err, refl, sym, ap, subst, ◌∙◌, arith}
use Rattle.std.proofs.lemmas.List.{length-append, append-nil}
use Rattle.std.proofs.lemmas.Bool.{and_parts}
use Rattle.pl_readers.specs.declared.error.Stop.{Stop}
use Rattle.pl_readers.specs.Language.{Language, Either}
use Rattle.pl_readers.specs.Reader.{Reader, SameHead}
use Rattle.pl_readers.specs.Reads.{Ends, Took, Stopped, at_left}
use Rattle.pl_readers.proofs.Correct.{fine_is}
use Rattle.pl_readers.proofs.Firsts.{Starts-either, Starts-more}
use Rattle.pl_lexer.specs.declared.tokens.Token.{Token}
use Rattle.pl_grammar.specs.Signs.{Set, token_in, both}
use Rattle.pl_grammar.specs.PropReaders.{second, test, looked}
use Rattle.pl_grammar.proofs.Sets.{apart, inside, set_apart, set_inside}
use Rattle.pl_grammar.proofs.Formats.{Format, both_left, both_right}

abbrev fine : {A : Type 0} → A → Result A Stop
fine a = Ok a

ok_not_err : {A : Type 0} (r : Result A Stop) (a : A) (s : Stop) → r ≡ Ok a → r ≡ Err s → ⊥
ok_not_err r a s e h = let i : Ok a ≡ Err s = sym e ∙ h in absurd cc

same_two : (s t : Set) (x : Token) (xs ys : List Token) → SameHead xs ys → test s t (x ∷ xs) ≡ test s t (x ∷ ys)
same_two s t x [] [] h = refl
same_two s t x [] (y ∷ ys) h = absurd h
same_two s t x (y ∷ ys) [] h = absurd h
same_two s t x (y ∷ ys) (z ∷ zs) h = rw h refl

same_tail : (text rest other : List Token) → SameHead rest other → SameHead (text ++ rest) (text ++ other)
same_tail [] rest other h = h
same_tail (x ∷ xs) rest other h = refl

-- a front that is not empty decides, with the next symbol behind it
same_test : (s t : Set) (x : Token) (front rest other : List Token) → SameHead rest other → test s t ((x ∷ front) ++ rest) ≡ test s t ((x ∷ front) ++ other)
same_test s t x front rest other h = same_two s t x (front ++ rest) (front ++ other) (same_tail front rest other h)

not_first : (s t : Set) (x : Token) (xs : List Token) → token_in s x ≡ false → test s t (x ∷ xs) ≡ false
not_first s t x xs e = rw e refl

module _ {A : Type 0} (s t : Set) (T V U W : Language Token A) (g h f : Set) (P Q : Reader Token A) (p : Format T V g s P) (q : Format U W h f Q)
    (two : (a : A) (text : List Token) → T a text → (x y : Token) × (xs : List Token) × (text ≡ x ∷ y ∷ xs) × (token_in s x ≡ true) × (token_in t y ≡ true))
    (goes : (x : Token) → token_in s x ≡ true → (a : A) × (more : List Token) × T a (x ∷ more))
    (single : (x : Token) → token_in s x ≡ true → (a : A) × U a (x ∷ []))
    (apart_t : apart t h ≡ true) where
  abbrev all : Set
  all = both t (both g h)

  first_is : (xs : List Token) → test s t xs ≡ true → looked s t P Q xs ≡ P xs
  first_is xs b = rw b refl

  second_is : (xs : List Token) → test s t xs ≡ false → looked s t P Q xs ≡ Q xs
  second_is xs b = rw b refl

  two_true : (a : A) (text rest : List Token) → T a text → test s t (text ++ rest) ≡ true
  two_true a text rest u =
      let w = two a text u in
      rw w.3 (both_true (token_in s w.0) (token_in t w.1) w.4 w.5)
    where
      both_true : (a b : Bool) → a ≡ true → b ≡ true → (a && b) ≡ true
      both_true a b h i = rw (h, i) refl

  -- the second reader takes the first symbol alone, where the next isn't one that goes on
  alone : (x : Token) (rest : List Token) → token_in s x ≡ true → Ends (token_in h) rest → (a : A) × (Q (x ∷ rest) ≡ Ok (a, rest))
  alone x rest e ends = let w = single x e in (w.0, q.reads.takes w.0 (x ∷ []) rest w.1 ends)

  took : (b : Bool) (xs : List Token) → test s t xs ≡ b → (a : A) (rest : List Token) → looked s t P Q xs ≡ Ok (a, rest) → Took (Either T U) (looked s t P Q) xs a rest
  took true xs b a rest e =
      let w = p.reads.took xs a rest (sym (first_is xs b) ∙ e) in
      record {
        text = w.text;
        is_text = inl w.is_text;
        parts = w.parts;
        again = λ other same. first_is (w.text ++ other) (two_true a w.text other w.is_text) ∙ w.again other same;
      }
  took false xs b a rest e =
      let w = q.reads.took xs a rest (sym (second_is xs b) ∙ e) in
      let v = q.starts a w.text w.is_text in
      record {
        text = w.text;
        is_text = inr w.is_text;
        parts = w.parts;
        again = λ other same.
            let b1 : test s t (w.text ++ other) ≡ false =
            rw v.2 (sym (same_test s t v.0 v.1 rest other same) ∙ ap (λ (r : List Token). test s t (r ++ rest)) (sym v.2) ∙ ap (test s t) (sym w.parts) ∙ b) in
            second_is (w.text ++ other) b1 ∙ w.again other same;
      }

  -- the first reader goes on behind the first symbol
  first_goes : (x : Token) (xs : List Token) (e : Stop) → token_in s x ≡ true → ((other : List Token) → SameHead (x ∷ xs) other → P other ≡ Err (at_left e (length other))) → ⊥
  first_goes x xs e i again =
      let w = goes x i in
      ok_not_err (P (x ∷ w.1)) (w.0, []) (at_left e (length (x ∷ w.1))) (ap P (sym (append-nil (x ∷ w.1))) ∙ p.reads.takes w.0 (x ∷ w.1) [] w.2 refl) (again (x ∷ w.1) refl)

  second_goes : (x : Token) (xs : List Token) (e : Stop) → token_in s x ≡ true → ((other : List Token) → SameHead (x ∷ xs) other → Q other ≡ Err (at_left e (length other))) → ⊥
  second_goes x xs e i again =
      let w = alone x [] i refl in
      ok_not_err (Q (x ∷ [])) (w.0, []) (at_left e 1) w.1 (again (x ∷ []) refl)

  test_first : (x : Token) (xs : List Token) → test s t (x ∷ xs) ≡ true → token_in s x ≡ true
  test_first x xs e = (and_parts (token_in s x) (second t (x ∷ xs)) e).0

  first_again : (before bad : List Token) (e : Stop) → test s t (before ++ bad) ≡ true → ((other : List Token) → SameHead bad other → P (before ++ other) ≡ Err (at_left e (length other)))
      → (other : List Token) → SameHead bad other → looked s t P Q (before ++ other) ≡ Err (at_left e (length other))
  first_again (x ∷ before) bad e b again other same = first_is ((x ∷ before) ++ other) (sym (same_test s t x before bad other same) ∙ b) ∙ again other same
  first_again [] [] e b again other same = absurd cc
  first_again [] (x ∷ xs) e b again other same = absurd (first_goes x xs e (test_first x xs b) again)

  empty_again : (x : Token) (xs : List Token) (e : Stop) (c : Bool) → token_in s x ≡ c → ((other : List Token) → SameHead (x ∷ xs) other → Q other ≡ Err (at_left e (length other)))
      → (other : List Token) → SameHead (x ∷ xs) other → looked s t P Q other ≡ Err (at_left e (length other))
  empty_again x xs e true i again other same = absurd (second_goes x xs e i again)
  empty_again x xs e false i again [] same = absurd same
  empty_again x xs e false i again (y ∷ ys) same = second_is (y ∷ ys) (not_first s t y ys (subst (λ (z : Token). token_in s z ≡ false) same i)) ∙ again (y ∷ ys) same

  none_again : (e : Stop) → ((other : List Token) → SameHead {S = Token} [] other → Q other ≡ Err (at_left e (length other)))
      → (other : List Token) → SameHead {S = Token} [] other → looked s t P Q other ≡ Err (at_left e (length other))
  none_again e again [] same = again [] same
  none_again e again (y ∷ ys) same = absurd same

  second_again : (before bad : List Token) (e : Stop) → test s t (before ++ bad) ≡ false → ((other : List Token) → SameHead bad other → Q (before ++ other) ≡ Err (at_left e (length other)))
      → (other : List Token) → SameHead bad other → looked s t P Q (before ++ other) ≡ Err (at_left e (length other))
  second_again (x ∷ before) bad e b again other same = second_is ((x ∷ before) ++ other) (sym (same_test s t x before bad other same) ∙ b) ∙ again other same
  second_again [] [] e b again other same = none_again e again other same
  second_again [] (x ∷ xs) e b again other same = empty_again x xs e (token_in s x) refl again other same

  stopped : (b : Bool) (xs : List Token) → test s t xs ≡ b → (e : Stop) → looked s t P Q xs ≡ Err e → Stopped (Either V W) (looked s t P Q) xs e
  stopped true xs b e i =
      let w = p.reads.stopped xs e (sym (first_is xs b) ∙ i) in
      record {
        before = w.before;
        bad = w.bad;
        parts = w.parts;
        left = w.left;
        viable = (w.viable.0, w.viable.1, inl w.viable.2);
        deeper = λ d y ys j. let v = w.deeper d y ys j in (v.0, v.1, inl v.2);
        some_bad = w.some_bad;
        again = first_again w.before w.bad e (ap (test s t) (sym w.parts) ∙ b) w.again;
      }
  stopped false xs b e i =
      let w = q.reads.stopped xs e (sym (second_is xs b) ∙ i) in
      record {
        before = w.before;
        bad = w.bad;
        parts = w.parts;
        left = w.left;
        viable = (w.viable.0, w.viable.1, inr w.viable.2);
        deeper = λ d y ys j. let v = w.deeper d y ys j in (v.0, v.1, inr v.2);
        some_bad = w.some_bad;
        again = second_again w.before w.bad e (ap (test s t) (sym w.parts) ∙ b) w.again;
      }

  not_true : (b : Bool) → (b ≡ true → ⊥) → b ≡ false
  not_true true h = absurd (h refl)
  not_true false h = refl

  -- a text of the second doesn't begin with both
  second_false : (a : A) (x : Token) (xs rest : List Token) → U a (x ∷ xs) → Ends (token_in all) rest → test s t ((x ∷ xs) ++ rest) ≡ true → ⊥
  second_false a x [] [] u e b = let w = (and_parts (token_in s x) false b).1 in absurd cc
  second_false a x [] (y ∷ ys) u e b =
      let w = (and_parts (token_in s x) (token_in t y) b).1 in
      let v : true ≡ false = sym w ∙ both_left t (both g h) y e in absurd cc
  second_false a x (y ∷ ys) rest u e b =
      let parts = and_parts (token_in s x) (token_in t y) b in
      let w = alone x (y ∷ ys ++ rest) parts.0 (set_apart t h apart_t y parts.1) in
      let v = q.reads.takes a (x ∷ y ∷ ys) rest u (ends_all rest e) in
      let same = fine_is (w.0, y ∷ ys ++ rest) (a, rest) (sym w.1 ∙ v) in
      let size : length (y ∷ ys ++ rest) ≡ length rest = ap (λ (z : A × List Token). length z.1) same in
      absurd (omega (arith, length-append ys rest))
    where
      ends_all : (rest : List Token) → Ends (token_in all) rest → Ends (token_in h) rest
      ends_all [] e = refl
      ends_all (x ∷ xs) e = both_right g h x (both_right t (both g h) x e)

  ends_first : (rest : List Token) → Ends (token_in all) rest → Ends (token_in g) rest
  ends_first [] e = refl
  ends_first (x ∷ xs) e = both_left g h x (both_right t (both g h) x e)

  ends_second : (rest : List Token) → Ends (token_in all) rest → Ends (token_in h) rest
  ends_second [] e = refl
  ends_second (x ∷ xs) e = both_right g h x (both_right t (both g h) x e)

  takes : (a : A) (text rest : List Token) → Either T U a text → Ends (token_in all) rest → looked s t P Q (text ++ rest) ≡ Ok (a, rest)
  takes a text rest (inl u) e = first_is (text ++ rest) (two_true a text rest u) ∙ p.reads.takes a text rest u (ends_first rest e)
  takes a text rest (inr u) e =
      let v = q.starts a text u in
      let b : test s t (text ++ rest) ≡ false = rw v.2 (not_true (test s t ((v.0 ∷ v.1) ++ rest)) (second_false a v.0 v.1 rest (subst (λ (r : List Token). U a r) v.2 u) e)) in
      second_is (text ++ rest) b ∙ q.reads.takes a text rest u (ends_second rest e)

  within : (a : A) (text : List Token) → Either T U a text → Either V W a text
  within a text (inl u) = inl (p.reads.within a text u)
  within a text (inr u) = inr (q.reads.within a text u)

  pub format_looked : inside s f ≡ true → Format (Either T U) (Either V W) all f (looked s t P Q)
  format_looked i = record {
    reads = record { within = within; took = λ xs a rest e. took (test s t xs) xs refl a rest e; stopped = λ xs e i. stopped (test s t xs) xs refl e i; takes = takes };
    some = let w = q.some in (w.0, w.1, inr w.2);
    starts = Starts-either (token_in f) T U (Starts-more (token_in s) (token_in f) T (set_inside s f i) p.starts) q.starts;
  }
