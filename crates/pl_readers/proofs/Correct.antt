-- A reader is right for a language: what it takes is a text, where it stops no text goes on, and it takes each text.
use Rattle.std.proofs.Common.{◌≡◌, ℕ, zero, suc, ◌≤◌, ◌<◌, ◌⊎◌, inl, inr, Bool, true, false, List, [], ◌∷◌, ◌++◌, length, Option, Some, None, Result, Ok, Err, refl, sym, ap, subst, ◌∙◌, append_assoc, arith}
use Rattle.std.proofs.lemmas.List.{append-nil, length-append}
use Rattle.pl_readers.specs.declared.error.Stop.{Stop}
use Rattle.pl_readers.specs.Language.{Language, One, Then, Either, Nothing, Mapped, Many, IsViable, HasText, Starts}
use Rattle.pl_readers.specs.Reader.{Reader, ◌>>=◌, begins, symbol_answer, one, next, either, nothing, mapped, deep, many, repeat, ended, whole, SameHead}
use Rattle.pl_readers.specs.Reads.{Ends, at_left, Took, Stopped, Reads, Refused}

-- ---- tools

pub bind_ok : {A B : Type 0} (r : Result A Stop) (f : A → Result B Stop) (y : B) → (r >>= f) ≡ Ok y → (x : A) × (r ≡ Ok x) × (f x ≡ Ok y)
bind_ok (Ok x) f y e = (x, refl, e)
bind_ok (Err d) f y e = absurd cc

pub bind_err : {A B : Type 0} (r : Result A Stop) (f : A → Result B Stop) (s : Stop) → (r >>= f) ≡ Err s → (r ≡ Err s) ⊎ ((x : A) × (r ≡ Ok x) × (f x ≡ Err s))
bind_err (Ok x) f s e = inr (x, refl, e)
bind_err (Err d) f s e = inl cc

pub same_refl : {S : Type 0} (xs : List S) → SameHead xs xs
same_refl [] = tt
same_refl (x ∷ xs) = refl

pub same_append : {S : Type 0} (xs ys zs : List S) → SameHead ys zs → SameHead (xs ++ ys) (xs ++ zs)
same_append [] ys zs h = h
same_append (x ∷ xs) ys zs h = refl

pub same_through : {S : Type 0} (whole front rest other : List S) → whole ≡ front ++ rest → SameHead rest other → SameHead whole (front ++ other)
same_through whole front rest other e h = rw e (same_append front rest other h)

pub same_sym : {S : Type 0} (xs ys : List S) → SameHead xs ys → SameHead ys xs
same_sym [] [] h = tt
same_sym [] (y ∷ ys) h = absurd h
same_sym (x ∷ xs) [] h = absurd h
same_sym (x ∷ xs) (y ∷ ys) h = sym h

abbrev fine : {A : Type 0} → A → Result A Stop
fine a = Ok a

pub fine_is : {A : Type 0} (x y : A) → fine x ≡ fine y → x ≡ y
fine_is x y e = cc

abbrev fails : (A : Type 0) → Stop → Result A Stop
fails A s = Err s

pub err_left : (A : Type 0) (s t : Stop) → fails A s ≡ fails A t → s ≡ t
err_left A s t e = cc

not_deep : (s : Stop) (n : ℕ) → s ≡ record { is_deep = false; left = n } → s.is_deep ≡ true → ⊥
not_deep s n e d = let e1 = ap (λ (z : Stop). z.is_deep) e in absurd cc

pub same_begins : {S : Type 0} (test : S → Bool) (xs ys : List S) → SameHead xs ys → begins test xs ≡ begins test ys
same_begins test [] [] h = refl
same_begins test [] (y ∷ ys) h = absurd h
same_begins test (x ∷ xs) [] h = absurd h
same_begins test (x ∷ xs) (y ∷ ys) h = ap test h

module _ {S : Type 0} where
  -- ---- one symbol

  symbol_answer-ok : {A : Type 0} (o : Option A) (xs : List S) (a : A) (rest : List S) → symbol_answer o xs ≡ Ok (a, rest) → (o ≡ Some a) × (xs ≡ rest)
  symbol_answer-ok None xs a rest h = absurd cc
  symbol_answer-ok (Some b) xs a rest h = let e = fine_is (b, xs) (a, rest) h in (ap (λ (p : _ × List S). Some p.0) e, ap (λ (p : _ × List S). p.1) e)

  symbol_answer-err : {A : Type 0} (o : Option A) (xs : List S) (s : Stop) → symbol_answer o xs ≡ Err s → (o ≡ None) × (s ≡ record { is_deep = false; left = suc (length xs) })
  symbol_answer-err None xs s h = (refl, cc)
  symbol_answer-err (Some b) xs s h = absurd cc

  one_took : {A : Type 0} (f : S → Option A) (xs : List S) (a : A) (rest : List S) → one f xs ≡ Ok (a, rest) → Took (One f) (one f) xs a rest
  one_took f [] a rest h = absurd cc
  one_took f (x ∷ xs) a rest h =
      let g = symbol_answer-ok (f x) xs a rest h in
      record {
        text = x ∷ [];
        is_text = (x, refl, g.0);
        parts = ap (λ (r : List S). x ∷ r) g.1;
        again = λ other same. ap (λ o. symbol_answer o other) g.0;
      }

  same_head1 : (x : S) (xs other : List S) → SameHead (x ∷ xs) other → SameHead (x ∷ []) other
  same_head1 x xs [] h = h
  same_head1 x xs (y ∷ ys) h = h

  one_none : {A : Type 0} (f : S → Option A) (s : Stop) → one f [] ≡ Err s → (other : List S) → SameHead {S = S} [] other → one f other ≡ Err (at_left s (length other))
  one_none f s h [] same = rw (← err_left _ (record { is_deep = false; left = 0 }) s h) refl
  one_none f s h (y ∷ ys) same = absurd same

  one_bad : {A : Type 0} (f : S → Option A) (x : S) (s : Stop) (n : ℕ) → (f x ≡ None) × (s ≡ record { is_deep = false; left = n }) → (other : List S) → SameHead (x ∷ []) other → one f other ≡ Err (at_left s (length other))
  one_bad f x s n g [] same = absurd same
  one_bad f x s n g (y ∷ ys) same = rw (← same, g.0, g.1) refl

  one_stopped : {A : Type 0} (f : S → Option A) → HasText (One f) → (xs : List S) (s : Stop) → one f xs ≡ Err s → Stopped (One f) (one f) xs s
  one_stopped f w [] s h = record {
    before = [];
    bad = [];
    parts = refl;
    left = sym (ap (λ (r : Result _ Stop). elim r [ Ok y ↦ 0 | Err z ↦ z.left ]) h);
    viable = (w.1, w.0, w.2);
    deeper = λ d y ys b. absurd cc;
    some_bad = λ d b. not_deep s 0 (sym (err_left _ (record { is_deep = false; left = 0 }) s h)) d;
    again = λ other same. one_none f s h other same;
  }
  one_stopped f w (x ∷ xs) s h =
      let g = symbol_answer-err (f x) xs s h in
      record {
        before = [];
        bad = x ∷ xs;
        parts = refl;
        left = ap (λ (z : Stop). z.left) g.1;
        viable = (w.1, w.0, w.2);
        deeper = λ d y ys b. absurd (not_deep s (suc (length xs)) g.1 d);
        some_bad = λ d b. not_deep s (suc (length xs)) g.1 d;
        again = λ other same. one_bad f x s (suc (length xs)) g other (same_head1 x xs other same);
      }

  one_takes : {A : Type 0} (f : S → Option A) (a : A) (text rest : List S) → One f a text → one f (text ++ rest) ≡ Ok (a, rest)
  one_takes f a text rest t = rw (t.1, t.2) refl

  pub Reads-one : {A : Type 0} (f : S → Option A) (goes : S → Bool) → HasText (One f) → Reads (One f) (One f) goes (one f)
  Reads-one f goes w = record { within = λ a text t. t; took = one_took f; stopped = one_stopped f w; takes = λ a text rest t e. one_takes f a text rest t }

  -- ---- one behind the other

  module _ {A B : Type 0} (T V : Language S A) (U W : A → Language S B) (g h : S → Bool) (P : Reader S A) (Q : A → Reader S B) (p : Reads T V g P) (q : (a : A) → Reads (U a) (W a) h (Q a)) where
    then_took : (xs : List S) (b : B) (rest : List S) → next P Q xs ≡ Ok (b, rest) → Took (Then T U) (next P Q) xs b rest
    then_took xs b rest e =
        let x = bind_ok (P xs) (λ z. Q z.0 z.1) (b, rest) e in
        let t = p.took xs x.0.0 x.0.1 x.1 in
        let u = (q x.0.0).took x.0.1 b rest x.2 in
        record {
          text = t.text ++ u.text;
          is_text = (x.0.0, t.text, u.text, t.is_text, u.is_text, refl);
          parts = t.parts ∙ ap (λ (r : List S). t.text ++ r) u.parts ∙ sym (append_assoc t.text u.text rest);
          again = λ other same.
              let e1 : P (t.text ++ (u.text ++ other)) ≡ Ok (x.0.0, u.text ++ other) =
              t.again (u.text ++ other) (same_through x.0.1 u.text rest other u.parts same) in
              rw (append_assoc t.text u.text other, e1) (u.again other same);
        }

    viable_first : ((a : A) → HasText (W a)) → (before : List S) → IsViable V before → IsViable (Then V W) before
    viable_first some before v =
        let w = some v.1 in
        (v.0 ++ w.1, w.0, (v.1, before ++ v.0, w.1, v.2, w.2, sym (append_assoc before v.0 w.1)))

    viable_second : (a : A) (front before : List S) → T a front → IsViable (W a) before → IsViable (Then V W) (front ++ before)
    viable_second a front before t v = (v.0, v.1, (a, front, before ++ v.0, p.within a front t, v.2, append_assoc front before v.0))

    then_stopped : ((a : A) → HasText (W a)) → (xs : List S) (s : Stop) → next P Q xs ≡ Err s → Stopped (Then V W) (next P Q) xs s
    then_stopped some xs s e =
        elim (bind_err (P xs) (λ z. Q z.0 z.1) s e) [
          | inl e1 ↦
              let t = p.stopped xs s e1 in
              record {
                before = t.before;
                bad = t.bad;
                parts = t.parts;
                left = t.left;
                viable = viable_first some t.before t.viable;
                deeper = λ d y ys b. viable_first some (t.before ++ y ∷ []) (t.deeper d y ys b);
                some_bad = t.some_bad;
                again = λ other same. rw (t.again other same) refl;
              }
          | inr x ↦
              let t = p.took xs x.0.0 x.0.1 x.1 in
              let u = (q x.0.0).stopped x.0.1 s x.2 in
              record {
                before = t.text ++ u.before;
                bad = u.bad;
                parts = t.parts ∙ ap (λ (r : List S). t.text ++ r) u.parts ∙ sym (append_assoc t.text u.before u.bad);
                left = u.left;
                viable = viable_second x.0.0 t.text u.before t.is_text u.viable;
                deeper = λ d y ys b. subst (IsViable (Then V W)) (sym (append_assoc t.text u.before (y ∷ []))) (viable_second x.0.0 t.text (u.before ++ y ∷ []) t.is_text (u.deeper d y ys b));
                some_bad = u.some_bad;
                again = λ other same.
                    let e1 : P (t.text ++ (u.before ++ other)) ≡ Ok (x.0.0, u.before ++ other) =
                    t.again (u.before ++ other) (same_through x.0.1 u.before u.bad other u.parts same) in
                    rw (append_assoc t.text u.before other, e1) (u.again other same);
              }
        ]

    pub Reads-then : ((a : A) → HasText (W a)) → ((a : A) (b : B) (back rest : List S) → U a b back → Ends h rest → Ends g (back ++ rest)) → Reads (Then T U) (Then V W) h (next P Q)
    Reads-then some follows = record {
      within = λ b text t. (t.0, t.1, t.2, p.within t.0 t.1 t.3, (q t.0).within b t.2 t.4, t.5);
      took = then_took;
      stopped = then_stopped some;
      takes = λ b text rest t e.
          let a = t.0 in
          let e1 : P (t.1 ++ (t.2 ++ rest)) ≡ Ok (a, t.2 ++ rest) = p.takes a t.1 (t.2 ++ rest) t.3 (follows a b t.2 rest t.4 e) in
          rw (t.5, append_assoc t.1 t.2 rest, e1) ((q a).takes b t.2 rest t.4 e);
    }

  -- ---- one or the other, by the next symbol

  module _ {A : Type 0} (test : S → Bool) (T V U W : Language S A) (g : S → Bool) (P Q : Reader S A) where
    first_is : (xs : List S) → begins test xs ≡ true → either test P Q xs ≡ P xs
    first_is xs b = rw b refl

    second_is : (xs : List S) → begins test xs ≡ false → either test P Q xs ≡ Q xs
    second_is xs b = rw b refl

    module _ (p : Reads T V g P) (q : Reads U W g Q) where
      either_took : (b : Bool) (xs : List S) → begins test xs ≡ b → (a : A) (rest : List S) → either test P Q xs ≡ Ok (a, rest)
          → Took (Either T U) (either test P Q) xs a rest
      either_took true xs b a rest e =
          let t = p.took xs a rest (sym (first_is xs b) ∙ e) in
          record {
            text = t.text;
            is_text = inl t.is_text;
            parts = t.parts;
            again = λ other same.
                let b1 : begins test (t.text ++ other) ≡ true = sym (same_begins test xs (t.text ++ other) (same_through xs t.text rest other t.parts same)) ∙ b in
                first_is (t.text ++ other) b1 ∙ t.again other same;
          }
      either_took false xs b a rest e =
          let t = q.took xs a rest (sym (second_is xs b) ∙ e) in
          record {
            text = t.text;
            is_text = inr t.is_text;
            parts = t.parts;
            again = λ other same.
                let b1 : begins test (t.text ++ other) ≡ false = sym (same_begins test xs (t.text ++ other) (same_through xs t.text rest other t.parts same)) ∙ b in
                second_is (t.text ++ other) b1 ∙ t.again other same;
          }

      either_stopped : (b : Bool) (xs : List S) → begins test xs ≡ b → (s : Stop) → either test P Q xs ≡ Err s
          → Stopped (Either V W) (either test P Q) xs s
      either_stopped true xs b s e =
          let t = p.stopped xs s (sym (first_is xs b) ∙ e) in
          record {
            before = t.before;
            bad = t.bad;
            parts = t.parts;
            left = t.left;
            viable = (t.viable.0, t.viable.1, inl t.viable.2);
            deeper = λ d y ys b. let v = t.deeper d y ys b in (v.0, v.1, inl v.2);
            some_bad = t.some_bad;
            again = λ other same.
                let b1 : begins test (t.before ++ other) ≡ true = sym (same_begins test xs (t.before ++ other) (same_through xs t.before t.bad other t.parts same)) ∙ b in
                first_is (t.before ++ other) b1 ∙ t.again other same;
          }
      either_stopped false xs b s e =
          let t = q.stopped xs s (sym (second_is xs b) ∙ e) in
          record {
            before = t.before;
            bad = t.bad;
            parts = t.parts;
            left = t.left;
            viable = (t.viable.0, t.viable.1, inr t.viable.2);
            deeper = λ d y ys b. let v = t.deeper d y ys b in (v.0, v.1, inr v.2);
            some_bad = t.some_bad;
            again = λ other same.
                let b1 : begins test (t.before ++ other) ≡ false = sym (same_begins test xs (t.before ++ other) (same_through xs t.before t.bad other t.parts same)) ∙ b in
                second_is (t.before ++ other) b1 ∙ t.again other same;
          }

      either_takes : (a : A) (text rest : List S) → Starts test T → ((a : A) (text rest : List S) → U a text → Ends g rest → begins test (text ++ rest) ≡ false)
          → Either T U a text → Ends g rest → either test P Q (text ++ rest) ≡ Ok (a, rest)
      either_takes a text rest starts others (inl t) e =
          let w = starts a text t in
          let b : begins test (text ++ rest) ≡ true = rw w.2 w.3 in
          first_is (text ++ rest) b ∙ p.takes a text rest t e
      either_takes a text rest starts others (inr u) e =
          second_is (text ++ rest) (others a text rest u e) ∙ q.takes a text rest u e

      either_within : (a : A) (text : List S) → Either T U a text → Either V W a text
      either_within a text (inl t) = inl (p.within a text t)
      either_within a text (inr u) = inr (q.within a text u)

      pub Reads-either : Starts test T → ((a : A) (text rest : List S) → U a text → Ends g rest → begins test (text ++ rest) ≡ false) → Reads (Either T U) (Either V W) g (either test P Q)
      Reads-either starts others = record {
        within = λ a text t. either_within a text t;
        took = λ xs a rest e. either_took (begins test xs) xs refl a rest e;
        stopped = λ xs s e. either_stopped (begins test xs) xs refl s e;
        takes = λ a text rest t e. either_takes a text rest starts others t e;
      }

    -- where the first would be one level too deep
    deep_took : (q : Reads U W g Q) (b : Bool) (xs : List S) → begins test xs ≡ b → (a : A) (rest : List S) → either test deep Q xs ≡ Ok (a, rest)
        → Took U (either test deep Q) xs a rest
    deep_took q true xs b a rest e = let e1 : deep {A = A} xs ≡ Ok (a, rest) = rw b at e in absurd cc
    deep_took q false xs b a rest e =
        let e1 : Q xs ≡ Ok (a, rest) = rw b at e in
        let t = q.took xs a rest e1 in
        record {
          text = t.text;
          is_text = t.is_text;
          parts = t.parts;
          again = λ other same.
              let b1 : begins test (t.text ++ other) ≡ false = sym (same_begins test xs (t.text ++ other) (same_through xs t.text rest other t.parts same)) ∙ b in
              rw b1 (t.again other same);
        }

    deep_stopped : (q : Reads U W g Q) → HasText W → ((y : S) → test y ≡ true → IsViable V (y ∷ [])) → (b : Bool) (xs : List S) → begins test xs ≡ b → (s : Stop) → either test deep Q xs ≡ Err s
        → Stopped (Either V W) (either test deep Q) xs s
    deep_stopped q some opens true xs b s e =
        let e1 : deep {A = A} xs ≡ Err s = rw b at e in
        let e2 = err_left _ (record { is_deep = true; left = length xs }) s e1 in
        record {
          before = [];
          bad = xs;
          parts = refl;
          left = ap (λ (z : Stop). z.left) (sym e2);
          viable = (some.1, some.0, inr some.2);
          deeper = λ d y ys e3. let b1 : test y ≡ true = sym (ap (begins test) e3) ∙ b in let v = opens y b1 in (v.0, v.1, inl v.2);
          some_bad = λ d e3. let b1 : false ≡ true = sym (ap (begins test) e3) ∙ b in absurd cc;
          again = λ other same. rw (sym (same_begins test xs other same) ∙ b, ← e2) refl;
        }
    deep_stopped q some opens false xs b s e =
        let e1 : Q xs ≡ Err s = rw b at e in
        let t = q.stopped xs s e1 in
        record {
          before = t.before;
          bad = t.bad;
          parts = t.parts;
          left = t.left;
          viable = (t.viable.0, t.viable.1, inr t.viable.2);
          deeper = λ d y ys e3. let v = t.deeper d y ys e3 in (v.0, v.1, inr v.2);
          some_bad = t.some_bad;
          again = λ other same.
              let b1 : begins test (t.before ++ other) ≡ false = sym (same_begins test xs (t.before ++ other) (same_through xs t.before t.bad other t.parts same)) ∙ b in
              rw b1 (t.again other same);
        }

    -- The first is one level too deep.
    pub Reads-deep : Reads U W g Q → HasText W → ((y : S) → test y ≡ true → IsViable V (y ∷ [])) → ((a : A) (text rest : List S) → U a text → Ends g rest → begins test (text ++ rest) ≡ false)
        → Reads U (Either V W) g (either test deep Q)
    Reads-deep q some opens others = record {
      within = λ a text u. inr (q.within a text u);
      took = λ xs a rest e. deep_took q (begins test xs) xs refl a rest e;
      stopped = λ xs s e. deep_stopped q some opens (begins test xs) xs refl s e;
      takes = λ a text rest u e. rw (others a text rest u e) (q.takes a text rest u e);
    }

  pub ends_less : (g h : S → Bool) → ((x : S) → h x ≡ false → g x ≡ false) → (rest : List S) → Ends h rest → Ends g rest
  ends_less g h less [] e = refl
  ends_less g h less (x ∷ xs) e = less x e

  -- ---- nothing, a value made of another, fewer symbols behind

  pub Reads-nothing : {A : Type 0} (d : A) (goes : S → Bool) → Reads (Nothing d) (Nothing d) goes (nothing d)
  Reads-nothing d goes = record {
    within = λ a text t. t;
    took = λ xs a rest e.
        let p = fine_is (d, xs) (a, rest) e in
        record {
          text = [];
          is_text = (refl, sym (ap (λ (z : _ × List S). z.0) p));
          parts = ap (λ (z : _ × List S). z.1) p;
          again = λ other same. ap (λ z. Ok (z, other)) (ap (λ (z : _ × List S). z.0) p);
        };
    stopped = λ xs s e. absurd cc;
    takes = λ a text rest t e. rw (t.0, t.1) refl;
  }

  pub Reads-mapped : {A B : Type 0} (f : A → B) (T V : Language S A) (g : S → Bool) (P : Reader S A) → Reads T V g P → Reads (Mapped f T) (Mapped f V) g (mapped f P)
  Reads-mapped f T V g P p = record {
    within = λ b text t. (t.0, p.within t.0 text t.1, t.2);
    took = λ xs b rest e.
        let x = bind_ok (P xs) (λ z. Ok (f z.0, z.1)) (b, rest) e in
        let y = fine_is (f x.0.0, x.0.1) (b, rest) x.2 in
        let t = p.took xs x.0.0 x.0.1 x.1 in
        let rest_is : x.0.1 ≡ rest = ap (λ (z : _ × List S). z.1) y in
        let value_is : f x.0.0 ≡ b = ap (λ (z : _ × List S). z.0) y in
        record {
          text = t.text;
          is_text = (x.0.0, t.is_text, sym value_is);
          parts = t.parts ∙ ap (λ (r : List S). t.text ++ r) rest_is;
          again = λ other same.
              let e1 = t.again other (subst (λ (r : List S). SameHead r other) (sym rest_is) same) in
              rw e1 (ap (λ z. Ok (z, other)) value_is);
        };
    stopped = λ xs s e.
        elim (bind_err (P xs) (λ z. Ok (f z.0, z.1)) s e) [
          | inl e1 ↦
              let t = p.stopped xs s e1 in
              record {
                before = t.before;
                bad = t.bad;
                parts = t.parts;
                left = t.left;
                viable = (t.viable.0, f t.viable.1, (t.viable.1, t.viable.2, refl));
                deeper = λ d y ys b. let v = t.deeper d y ys b in (v.0, f v.1, (v.1, v.2, refl));
                some_bad = t.some_bad;
                again = λ other same. rw (t.again other same) refl;
              }
          | inr x ↦ let e2 = x.2 in absurd cc
        ];
    takes = λ b text rest t e. rw (p.takes t.0 text rest t.1 e, t.2) refl;
  }

  pub Reads-before : {A : Type 0} (T V : Language S A) (g h : S → Bool) (P : Reader S A) → ((x : S) → h x ≡ false → g x ≡ false) → Reads T V g P → Reads T V h P
  Reads-before T V g h P less p = record {
    within = p.within;
    took = p.took;
    stopped = p.stopped;
    takes = λ a text rest t e. p.takes a text rest t (ends_less g h less rest e);
  }

  -- ---- any number, one behind the other

  module _ {A : Type 0} (test : S → Bool) (T V : Language S A) (g : S → Bool) (P : Reader S A) (p : Reads T V g P) (starts : Starts test T) where
    -- what is taken is not nothing
    pub shorter : (xs : List S) (a : A) (rest : List S) → P xs ≡ Ok (a, rest) → length rest < length xs
    shorter xs a rest e =
        let t = p.took xs a rest e in
        let w = starts a t.text t.is_text in
        omega (arith, ap length t.parts, length-append t.text rest, ap length w.2)

    room_step : (n m : ℕ) (xs : List S) → length xs ≤ suc n → length xs ≤ suc m → ((rest : List S) → length rest ≤ n → length rest ≤ m → many n test P rest ≡ many m test P rest)
        → (r : Result (A × List S) Stop) → P xs ≡ r → many (suc n) test P xs ≡ many (suc m) test P xs
    unfolding many
    room_step n m xs h k ih (Err s) e = rw e refl
    room_step n m xs h k ih (Ok (a, rest)) e =
        let less = shorter xs a rest e in
        rw (e, ih rest (omega arith) (omega arith)) refl

    -- more room changes nothing
    room : (n m : ℕ) (xs : List S) → length xs ≤ n → length xs ≤ m → many n test P xs ≡ many m test P xs
    unfolding many
    room zero zero xs h k = refl
    room zero (suc m) [] h k = refl
    room zero (suc m) (x ∷ xs) h k = absurd (omega arith)
    room (suc n) zero [] h k = refl
    room (suc n) zero (x ∷ xs) h k = absurd (omega arith)
    room (suc n) (suc m) xs h k = room_step n m xs h k (λ rest i j. room n m rest i j) (P xs) refl

    pub repeat-ends : (xs : List S) → begins test xs ≡ false → repeat test P xs ≡ Ok ([], xs)
    unfolding many
    repeat-ends [] e = refl
    repeat-ends (x ∷ xs) e = rw e refl

    goes_step : (x : S) (xs : List S) → test x ≡ true → (r : Result (A × List S) Stop) → P (x ∷ xs) ≡ r
        → repeat test P (x ∷ xs) ≡ (r >>= λ q. repeat test P q.1 >>= λ o. Ok (q.0 ∷ o.0, o.1))
    unfolding many
    goes_step x xs b (Err s) e = rw (b, e) refl
    goes_step x xs b (Ok (a, rest)) e =
        let less = shorter (x ∷ xs) a rest e in
        rw (b, e, room (length xs) (length rest) rest (omega arith) (omega arith)) refl

    pub repeat-goes : (xs : List S) → begins test xs ≡ true → repeat test P xs ≡ (P xs >>= λ q. repeat test P q.1 >>= λ o. Ok (q.0 ∷ o.0, o.1))
    repeat-goes [] b = absurd cc
    repeat-goes (x ∷ xs) b = goes_step x xs b (P (x ∷ xs)) refl

    abbrev R : Reader S (List A)
    R = repeat test P

    put : A → List A × List S → Result (List A × List S) Stop
    put a o = Ok (a ∷ o.0, o.1)

    repeat_took : (n : ℕ) (b : Bool) (xs : List S) → length xs ≤ n → begins test xs ≡ b → (vs : List A) (rest : List S) → R xs ≡ Ok (vs, rest) → Took (Many T) R xs vs rest
    repeat_took n false xs le b vs rest e =
        let y = fine_is ([], xs) (vs, rest) (sym (repeat-ends xs b) ∙ e) in
        let v_is : vs ≡ [] = sym (ap (λ (z : List A × List S). z.0) y) in
        let rest_is : xs ≡ rest = ap (λ (z : List A × List S). z.1) y in
        record {
          text = [];
          is_text = rw v_is refl;
          parts = rest_is;
          again = λ other same.
              let b1 : begins test other ≡ false = sym (same_begins test xs other (rw rest_is same)) ∙ b in
              repeat-ends other b1 ∙ ap (λ (z : List A). Ok (z, other)) (sym v_is);
        }
    repeat_took zero true [] le b vs rest e = absurd cc
    repeat_took zero true (x ∷ xs) le b vs rest e = absurd (omega arith)
    repeat_took (suc n) true xs le b vs rest e =
        let x = bind_ok (P xs) (λ q. R q.1 >>= λ o. Ok (q.0 ∷ o.0, o.1)) (vs, rest) (sym (repeat-goes xs b) ∙ e) in
        let y = bind_ok (R x.0.1) (λ o. Ok (x.0.0 ∷ o.0, o.1)) (vs, rest) x.2 in
        let z = fine_is (x.0.0 ∷ y.0.0, y.0.1) (vs, rest) y.2 in
        let v_is : x.0.0 ∷ y.0.0 ≡ vs = ap (λ (w : List A × List S). w.0) z in
        let rest_is : y.0.1 ≡ rest = ap (λ (w : List A × List S). w.1) z in
        let t = p.took xs x.0.0 x.0.1 x.1 in
        let less = shorter xs x.0.0 x.0.1 x.1 in
        let u = repeat_took n (begins test x.0.1) x.0.1 (omega arith) refl y.0.0 y.0.1 y.1 in
        let all : xs ≡ (t.text ++ u.text) ++ rest = t.parts ∙ ap (λ (r : List S). t.text ++ r) (u.parts ∙ ap (λ (r : List S). u.text ++ r) rest_is) ∙ sym (append_assoc t.text u.text rest) in
        record {
          text = t.text ++ u.text;
          is_text = subst (λ (w : List A). Many T w (t.text ++ u.text)) v_is (t.text, u.text, t.is_text, u.is_text, refl);
          parts = all;
          again = λ other same.
              let same1 : SameHead y.0.1 other = subst (λ (r : List S). SameHead r other) (sym rest_is) same in
              let e1 : P (t.text ++ (u.text ++ other)) ≡ Ok (x.0.0, u.text ++ other) = t.again (u.text ++ other) (same_through x.0.1 u.text y.0.1 other u.parts same1) in
              let b1 : begins test ((t.text ++ u.text) ++ other) ≡ true = sym (same_begins test xs ((t.text ++ u.text) ++ other) (same_through xs (t.text ++ u.text) rest other all same)) ∙ b in
              let e2 : R (u.text ++ other) ≡ Ok (y.0.0, other) = u.again other same1 in
              repeat-goes ((t.text ++ u.text) ++ other) b1 ∙ rw (append_assoc t.text u.text other, e1, e2) (ap (λ (w : List A). Ok (w, other)) v_is);
        }

    viable_one : (before : List S) → IsViable V before → IsViable (Many V) before
    viable_one before v = (v.0, v.1 ∷ [], (before ++ v.0, [], v.2, refl, sym (append-nil (before ++ v.0))))

    viable_more : (a : A) (front before : List S) → T a front → IsViable (Many V) before → IsViable (Many V) (front ++ before)
    viable_more a front before t v = (v.0, a ∷ v.1, (front, before ++ v.0, p.within a front t, v.2, append_assoc front before v.0))

    many_within : (vs : List A) (text : List S) → Many T vs text → Many V vs text
    many_within [] text m = m
    many_within (v ∷ vs) text m = (m.0, m.1, p.within v m.0 m.2, many_within vs m.1 m.3, m.4)

    repeat_stopped : (n : ℕ) (b : Bool) (xs : List S) → length xs ≤ n → begins test xs ≡ b → (s : Stop) → R xs ≡ Err s → Stopped (Many V) R xs s
    repeat_stopped n false xs le b s e = let e1 = sym (repeat-ends xs b) ∙ e in absurd cc
    repeat_stopped zero true [] le b s e = absurd cc
    repeat_stopped zero true (x ∷ xs) le b s e = absurd (omega arith)
    repeat_stopped (suc n) true xs le b s e =
        elim (bind_err (P xs) (λ q. R q.1 >>= λ o. Ok (q.0 ∷ o.0, o.1)) s (sym (repeat-goes xs b) ∙ e)) [
          | inl e1 ↦
              let t = p.stopped xs s e1 in
              record {
                before = t.before;
                bad = t.bad;
                parts = t.parts;
                left = t.left;
                viable = viable_one t.before t.viable;
                deeper = λ d y ys b1. viable_one (t.before ++ y ∷ []) (t.deeper d y ys b1);
                some_bad = t.some_bad;
                again = λ other same.
                    let b1 : begins test (t.before ++ other) ≡ true = sym (same_begins test xs (t.before ++ other) (same_through xs t.before t.bad other t.parts same)) ∙ b in
                    repeat-goes (t.before ++ other) b1 ∙ rw (t.again other same) refl;
              }
          | inr x ↦
              elim (bind_err (R x.0.1) (λ o. Ok (x.0.0 ∷ o.0, o.1)) s x.2) [
                | inl e2 ↦
                    let t = p.took xs x.0.0 x.0.1 x.1 in
                    let less = shorter xs x.0.0 x.0.1 x.1 in
                    let u = repeat_stopped n (begins test x.0.1) x.0.1 (omega arith) refl s e2 in
                    let all : xs ≡ (t.text ++ u.before) ++ u.bad = t.parts ∙ ap (λ (r : List S). t.text ++ r) u.parts ∙ sym (append_assoc t.text u.before u.bad) in
                    record {
                      before = t.text ++ u.before;
                      bad = u.bad;
                      parts = all;
                      left = u.left;
                      viable = viable_more x.0.0 t.text u.before t.is_text u.viable;
                      deeper = λ d y ys b1. subst (IsViable (Many V)) (sym (append_assoc t.text u.before (y ∷ []))) (viable_more x.0.0 t.text (u.before ++ y ∷ []) t.is_text (u.deeper d y ys b1));
                      some_bad = u.some_bad;
                      again = λ other same.
                          let e3 : P (t.text ++ (u.before ++ other)) ≡ Ok (x.0.0, u.before ++ other) = t.again (u.before ++ other) (same_through x.0.1 u.before u.bad other u.parts same) in
                          let b1 : begins test ((t.text ++ u.before) ++ other) ≡ true = sym (same_begins test xs ((t.text ++ u.before) ++ other) (same_through xs (t.text ++ u.before) u.bad other all same)) ∙ b in
                          repeat-goes ((t.text ++ u.before) ++ other) b1 ∙ rw (append_assoc t.text u.before other, e3, u.again other same) refl;
                    }
                | inr y ↦ let e3 = y.2 in absurd cc
              ]
        ]

    module _ (h : S → Bool) (no_more : (x : S) → h x ≡ false → test x ≡ false) (less : (x : S) → h x ≡ false → g x ≡ false) (another : (x : S) → test x ≡ true → g x ≡ false) where
      pub follow : (vs : List A) (back rest : List S) → Many T vs back → Ends h rest → Ends g (back ++ rest)
      follow [] back rest m e = rw m (ends_less g h less rest e)
      follow (v ∷ vs) back rest m e =
          let w = starts v m.0 m.2 in
          rw (m.4, w.2) (another w.0 w.3)

      repeat_takes : (vs : List A) (text rest : List S) → Many T vs text → Ends h rest → R (text ++ rest) ≡ Ok (vs, rest)
      repeat_takes [] text rest m e = rw m (repeat-ends rest (ends_less test h no_more rest e))
      repeat_takes (v ∷ vs) text rest m e =
          let w = starts v m.0 m.2 in
          let b : begins test (m.0 ++ (m.1 ++ rest)) ≡ true = rw w.2 w.3 in
          let e1 = p.takes v m.0 (m.1 ++ rest) m.2 (follow vs m.1 rest m.3 e) in
          let e2 = repeat_takes vs m.1 rest m.3 e in
          rw (m.4, append_assoc m.0 m.1 rest) (repeat-goes (m.0 ++ (m.1 ++ rest)) b ∙ rw (e1, e2) refl)

      pub Reads-repeat : Reads (Many T) (Many V) h R
      Reads-repeat = record {
        within = many_within;
        took = λ xs vs rest e. repeat_took (length xs) (begins test xs) xs (omega arith) refl vs rest e;
        stopped = λ xs s e. repeat_stopped (length xs) (begins test xs) xs (omega arith) refl s e;
        takes = repeat_takes;
      }

  -- ---- all of the symbols

  abbrev IsOther : {A : Type 0} → Result (A × List S) Stop → Type 0
  IsOther (Err s) = Unit {0}
  IsOther (Ok (a, [])) = ⊥
  IsOther (Ok (a, y ∷ ys)) = Unit {0}

  ended_ok : {A : Type 0} (a : A) (rest : List S) (b : A) → ended a rest ≡ Ok b → (a ≡ b) × (rest ≡ [])
  ended_ok a [] b e = (fine_is a b e, refl)
  ended_ok a (y ∷ ys) b e = absurd cc

  ended_err : {A : Type 0} (a : A) (rest : List S) (s : Stop) → ended a rest ≡ Err s → (y : S) × (ys : List S) × (s.left ≡ length rest) × (rest ≡ y ∷ ys) × (s.is_deep ≡ false)
  ended_err a [] s e = absurd cc
  ended_err {A} a (y ∷ ys) s e =
      let e1 = sym (err_left A (record { is_deep = false; left = suc (length ys) }) s e) in
      (y, ys, ap (λ (z : Stop). z.left) e1, refl, ap (λ (z : Stop). z.is_deep) e1)

  module _ {A : Type 0} (T V : Language S A) (g : S → Bool) (P : Reader S A) (p : Reads T V g P) where
    pub whole-found : (xs : List S) (a : A) → whole P xs ≡ Ok a → T a xs
    whole-found xs a e =
        let x = bind_ok (P xs) (λ z. ended z.0 z.1) a e in
        let t = p.took xs x.0.0 x.0.1 x.1 in
        let n = ended_ok x.0.0 x.0.1 a x.2 in
        subst (λ (b : A). T b xs) n.0 (subst (λ (z : List S). T x.0.0 z) (sym (t.parts ∙ ap (λ (r : List S). t.text ++ r) n.1 ∙ append-nil t.text)) t.is_text)

    pub whole-only : (xs : List S) (a : A) → T a xs → whole P xs ≡ Ok a
    whole-only xs a t =
        let e1 : P (xs ++ []) ≡ Ok (a, []) = p.takes a xs [] t refl in
        let e2 : P xs ≡ Ok (a, []) = rw append-nil at e1 in
        rw e2 refl

    -- a text that is not read is no text
    not_both : (xs : List S) (a : A) → T a xs → (r : Result (A × List S) Stop) → P xs ≡ r → IsOther r → ⊥
    not_both xs a t r e other =
        let e1 : P (xs ++ []) ≡ Ok (a, []) = p.takes a xs [] t refl in
        let e2 : P xs ≡ Ok (a, []) = rw append-nil at e1 in
        let e3 : r ≡ Ok (a, []) = sym e ∙ e2 in
        subst {A = Result (A × List S) Stop} IsOther e3 other

    pub whole-refused : (xs : List S) (s : Stop) → whole P xs ≡ Err s → Refused T V xs s
    whole-refused xs s e =
        elim (bind_err (P xs) (λ z. ended z.0 z.1) s e) [
          | inl e1 ↦
              let t = p.stopped xs s e1 in
              record {
                before = t.before;
                bad = t.bad;
                parts = t.parts;
                left = t.left;
                viable = t.viable;
                deeper = t.deeper;
                some_bad = t.some_bad;
                none = λ y ys b v.
                    let e2 = t.again (y ∷ v.0) (rw b refl) in
                    not_both (t.before ++ (y ∷ v.0)) v.1 (subst (T v.1) (append_assoc t.before (y ∷ []) v.0) v.2) _ e2 tt;
                short = λ b a w. not_both xs a w _ e1 tt;
              }
          | inr x ↦
              let t = p.took xs x.0.0 x.0.1 x.1 in
              let n = ended_err x.0.0 x.0.1 s x.2 in
              record {
                before = t.text;
                bad = x.0.1;
                parts = t.parts;
                left = n.2;
                viable = ([], x.0.0, subst (V x.0.0) (sym (append-nil t.text)) (p.within x.0.0 t.text t.is_text));
                deeper = λ d y ys b. let z = n.4 in absurd cc;
                some_bad = λ d b. let z = n.4 in absurd cc;
                none = λ y ys b v.
                    let e2 = t.again (y ∷ v.0) (rw b refl) in
                    not_both (t.text ++ (y ∷ v.0)) v.1 (subst (T v.1) (append_assoc t.text (y ∷ []) v.0) v.2) _ e2 tt;
                short = λ b a w. let z = n.3 in absurd cc;
              }
        ]
