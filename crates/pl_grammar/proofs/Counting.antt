-- A loop that reads at most so many items.
use Rattle.std.proofs.Common.{◌≡◌, ℕ, zero, suc, ◌≤◌, inl, inr, Bool, true, false, List, [], ◌∷◌, ◌++◌, length, Result, Ok, Err, refl, sym, ap, subst, ◌∙◌, append_assoc, arith}
use Rattle.std.proofs.lemmas.List.{append-nil}
use Rattle.pl_readers.specs.declared.error.Stop.{Stop}
use Rattle.pl_readers.specs.Language.{Language, Many, Starts}
use Rattle.pl_readers.specs.Reader.{Reader, ◌>>=◌, begins, next, many, repeat, onto, ended, whole}
use Rattle.pl_readers.specs.Reads.{Ends, Reads}
use Rattle.pl_readers.proofs.Correct.{bind_ok, bind_err, fine_is, repeat-goes, repeat-ends}

true_false : true ≡ false → ⊥
true_false e = absurd cc

module _ {S A : Type 0} where
  abbrev with_first : A → List A × List S → Result (List A × List S) Stop
  with_first a o = Ok (a ∷ o.0, o.1)

  abbrev with_front : List A → List A × List S → Result (List A × List S) Stop
  with_front front o = Ok (front ++ o.0, o.1)

  regroup : (front : List A) (a : A) (r : Result (List A × List S) Stop) → ((r >>= with_first a) >>= with_front front) ≡ (r >>= with_front (front ++ a ∷ []))
  regroup front a (Ok x) = ap (λ (vs : List A). Ok (vs, x.1)) (sym (append_assoc front (a ∷ []) x.0))
  regroup front a (Err s) = refl

  module _ (test : S → Bool) (P : Reader S A) where
    pub count-goes : (n : ℕ) (front : List A) (a : A) (rest after : List S) → begins test rest ≡ true → P rest ≡ Ok (a, after) → onto front (many (suc n) test P) rest ≡ onto (front ++ a ∷ []) (many n test P) after
    unfolding many
    count-goes n front a rest after b e = rw (b, e) (regroup front a (many n test P after))

    pub count-stops : (n : ℕ) (front : List A) (rest : List S) (s : Stop) → begins test rest ≡ true → P rest ≡ Err s → onto front (many (suc n) test P) rest ≡ Err s
    unfolding many
    count-stops n front rest s b e = rw (b, e) refl

    pub count-full : (front : List A) (rest : List S) → onto front (many 0 test P) rest ≡ Ok (front, rest)
    unfolding many
    count-full front rest = ap (λ (vs : List A). Ok (vs, rest)) (append-nil front)

    pub count-ends : (n : ℕ) (front : List A) (rest : List S) → begins test rest ≡ false → onto front (many n test P) rest ≡ Ok (front, rest)
    unfolding many
    count-ends zero front rest b = ap (λ (vs : List A). Ok (vs, rest)) (append-nil front)
    count-ends (suc n) front rest b = rw b (ap (λ (vs : List A). Ok (vs, rest)) (append-nil front))

  module _ (test : S → Bool) (T V : Language S A) (g : S → Bool) (P : Reader S A) (p : Reads T V g P) (starts : Starts test T) where
    -- what ends by itself ends so without a bound too
    same_ok : (n : ℕ) (b : Bool) (xs : List S) → begins test xs ≡ b → (x : List A × List S) → many n test P xs ≡ Ok x → begins test x.1 ≡ false → repeat test P xs ≡ Ok x
    unfolding many
    same_ok zero b xs e x h f = repeat-ends test T V g P p starts xs (ap (λ (z : List A × List S). begins test z.1) (fine_is _ _ h) ∙ f) ∙ h
    same_ok (suc n) false xs e x h f = let h1 = rw e at h in repeat-ends test T V g P p starts xs e ∙ h1
    same_ok (suc n) true xs e x h f =
        let h1 = rw e at h in
        let z = bind_ok (P xs) (λ q. many n test P q.1 >>= λ o. Ok (q.0 ∷ o.0, o.1)) x h1 in
        let y = bind_ok (many n test P z.0.1) (λ o. Ok (z.0.0 ∷ o.0, o.1)) x z.2 in
        let same : y.0.1 ≡ x.1 = ap (λ (w : List A × List S). w.1) (fine_is _ _ y.2) in
        repeat-goes test T V g P p starts xs e ∙ rw (z.1, same_ok n (begins test z.0.1) z.0.1 refl y.0 y.1 (ap (begins test) same ∙ f)) y.2

    pub count-same : (n : ℕ) (xs : List S) (x : List A × List S) → many n test P xs ≡ Ok x → begins test x.1 ≡ false → repeat test P xs ≡ Ok x
    count-same n xs x h f = same_ok n (begins test xs) xs refl x h f

    same_err : (n : ℕ) (b : Bool) (xs : List S) → begins test xs ≡ b → (s : Stop) → many n test P xs ≡ Err s → repeat test P xs ≡ Err s
    unfolding many
    same_err zero b xs e s h = absurd cc
    same_err (suc n) false xs e s h = let h1 = rw e at h in absurd cc
    same_err (suc n) true xs e s h =
        let h1 = rw e at h in
        elim (bind_err (P xs) (λ q. many n test P q.1 >>= λ o. Ok (q.0 ∷ o.0, o.1)) s h1) [
          | inl e1 ↦ repeat-goes test T V g P p starts xs e ∙ rw e1 refl
          | inr z ↦
              elim (bind_err (many n test P z.0.1) (λ o. Ok (z.0.0 ∷ o.0, o.1)) s z.2) [
                | inl e2 ↦ repeat-goes test T V g P p starts xs e ∙ rw (z.1, same_err n (begins test z.0.1) z.0.1 refl s e2) refl
                | inr y ↦ let e3 = y.2 in absurd cc
              ]
        ]

    pub count-same-stop : (n : ℕ) (xs : List S) (s : Stop) → many n test P xs ≡ Err s → repeat test P xs ≡ Err s
    count-same-stop n xs s h = same_err n (begins test xs) xs refl s h

    -- what was read, and how much of it; where a further item begins, it is as many as may be
    pub record Counted (n : ℕ) (xs : List S) (x : List A × List S) : Type 0 where
      pub text : List S
      pub are : Many T x.0 text
      pub parts : xs ≡ text ++ x.1
      pub within : length x.0 ≤ n
      pub full : begins test x.1 ≡ true → length x.0 ≡ n

    counted_by : (n : ℕ) (b : Bool) (xs : List S) → begins test xs ≡ b → (x : List A × List S) → many n test P xs ≡ Ok x → Counted n xs x
    unfolding many
    counted_by zero b xs e x h = subst (Counted 0 xs) (fine_is _ _ h) (record { text = []; are = refl; parts = refl; within = omega arith; full = λ f. refl })
    counted_by (suc n) false xs e x h =
        let h1 = rw e at h in
        subst (Counted (suc n) xs) (fine_is _ _ h1) (record { text = []; are = refl; parts = refl; within = omega arith; full = λ f. absurd (true_false (sym f ∙ e)) })
    counted_by (suc n) true xs e x h =
        let h1 = rw e at h in
        let z = bind_ok (P xs) (λ q. many n test P q.1 >>= λ o. Ok (q.0 ∷ o.0, o.1)) x h1 in
        let y = bind_ok (many n test P z.0.1) (λ o. Ok (z.0.0 ∷ o.0, o.1)) x z.2 in
        let t = p.took xs z.0.0 z.0.1 z.1 in
        let c = counted_by n (begins test z.0.1) z.0.1 refl y.0 y.1 in
        subst (Counted (suc n) xs) (fine_is _ _ y.2)
        (record {
          text = t.text ++ c.text;
          are = (t.text, c.text, t.is_text, c.are, refl);
          parts = t.parts ∙ ap (λ (r : List S). t.text ++ r) c.parts ∙ sym (append_assoc t.text c.text y.0.1);
          within = omega (arith, c.within);
          full = λ f. ap suc (c.full f);
        })

    pub counted : (n : ℕ) (xs : List S) (x : List A × List S) → many n test P xs ≡ Ok x → Counted n xs x
    counted n xs x h = counted_by n (begins test xs) xs refl x h

    back_ok : (n : ℕ) (b : Bool) (xs : List S) → begins test xs ≡ b → (x : List A × List S) → repeat test P xs ≡ Ok x → length x.0 ≤ n → many n test P xs ≡ Ok x
    unfolding many
    back_ok zero false xs e x h le = sym (repeat-ends test T V g P p starts xs e) ∙ h
    back_ok zero true xs e x h le =
        let h1 = sym (repeat-goes test T V g P p starts xs e) ∙ h in
        let z = bind_ok (P xs) (λ q. repeat test P q.1 >>= λ o. Ok (q.0 ∷ o.0, o.1)) x h1 in
        let y = bind_ok (repeat test P z.0.1) (λ o. Ok (z.0.0 ∷ o.0, o.1)) x z.2 in
        let n1 : length x.0 ≡ suc (length y.0.0) = sym (ap (λ (w : List A × List S). length w.0) (fine_is _ _ y.2)) in
        absurd (omega (arith, n1, le))
    back_ok (suc n) false xs e x h le = rw e (sym (repeat-ends test T V g P p starts xs e) ∙ h)
    back_ok (suc n) true xs e x h le =
        let h1 = sym (repeat-goes test T V g P p starts xs e) ∙ h in
        let z = bind_ok (P xs) (λ q. repeat test P q.1 >>= λ o. Ok (q.0 ∷ o.0, o.1)) x h1 in
        let y = bind_ok (repeat test P z.0.1) (λ o. Ok (z.0.0 ∷ o.0, o.1)) x z.2 in
        let n1 : length x.0 ≡ suc (length y.0.0) = sym (ap (λ (w : List A × List S). length w.0) (fine_is _ _ y.2)) in
        rw (e, z.1, back_ok n (begins test z.0.1) z.0.1 refl y.0 y.1 (omega (arith, n1, le))) y.2

    -- what ends within the bound ends so with it
    pub count-back : (n : ℕ) (xs : List S) (x : List A × List S) → repeat test P xs ≡ Ok x → length x.0 ≤ n → many n test P xs ≡ Ok x
    count-back n xs x h le = back_ok n (begins test xs) xs refl x h le

    module _ (none : (y : S) → g y ≡ false) where
      ends_none : (xs : List S) → Ends g xs
      ends_none [] = refl
      ends_none (y ∷ ys) = none y

      -- texts one behind the other are read one behind the other
      pub count-takes : (ds : List A) (front rest : List S) → Many T ds front → many (length ds) test P (front ++ rest) ≡ Ok (ds, rest)
      unfolding many
      count-takes [] front rest m = rw m refl
      count-takes (d ∷ ds) front rest m =
          let w = starts d m.0 m.2 in
          let e1 : begins test (m.0 ++ (m.1 ++ rest)) ≡ true = ap (λ (r : List S). begins test (r ++ (m.1 ++ rest))) w.2 ∙ w.3 in
          rw (m.4, append_assoc m.0 m.1 rest, e1, p.takes d m.0 (m.1 ++ rest) m.2 (ends_none (m.1 ++ rest)), count-takes ds m.1 rest m.3) refl

    -- where no further item begins behind the last, the bound makes no difference
    bound_same : (n : ℕ) (xs : List S) (r : Result (List A × List S) Stop) → many n test P xs ≡ r → ((x : List A × List S) → r ≡ Ok x → begins test x.1 ≡ false) → repeat test P xs ≡ r
    bound_same n xs (Ok x) e h = count-same n xs x e (h x refl)
    bound_same n xs (Err s) e h = count-same-stop n xs s e

    module _ {B : Type 0} (E : List A → Reader S B) (ends : (ds : List A) (xs : List S) (z : B × List S) → E ds xs ≡ Ok z → begins test xs ≡ false) where
      pub bound-whole : (n : ℕ) (xs : List S) → ((x : List A × List S) → many n test P xs ≡ Ok x → begins test x.1 ≡ false) → whole (next (repeat test P) E) xs ≡ whole (next (many n test P) E) xs
      bound-whole n xs h = rw (bound_same n xs (many n test P xs) refl h) refl

      -- what was read ends where no further item begins
      pub bound-ends : (n : ℕ) (xs : List S) (b : B) → whole (next (many n test P) E) xs ≡ Ok b → (x : List A × List S) → many n test P xs ≡ Ok x → begins test x.1 ≡ false
      bound-ends n xs b e x h =
          let w = bind_ok (next (many n test P) E xs) (λ z. ended z.0 z.1) b e in
          let y = bind_ok (many n test P xs) (λ z. E z.0 z.1) w.0 w.1 in
          subst (λ (z : List A × List S). begins test z.1 ≡ false) (fine_is y.0 x (sym y.1 ∙ h)) (ends y.0.0 y.0.1 w.0 y.2)
