-- With which symbols texts begin, some text of each language, and what may follow.
use Rattle.std.proofs.Common.{◌≡◌, inl, inr, Bool, true, false, List, [], ◌∷◌, ◌++◌, Option, Some, refl, ap, ◌∙◌, length}
use Rattle.std.proofs.Common.{Err, sym}
use Rattle.pl_readers.specs.declared.error.Stop.{Stop}
use Rattle.pl_readers.specs.Language.{Language, One, Then, Either, Void, Mapped, HasText, Starts}
use Rattle.pl_readers.specs.Reader.{Reader, begins, refuse}
use Rattle.pl_readers.specs.Reads.{never, Ends, Stopped, Reads}
use Rattle.pl_readers.proofs.Correct.{err_left}

pub ends_never : {S : Type 0} (xs : List S) → Ends never xs
ends_never [] = refl
ends_never (x ∷ xs) = refl

module _ {S A : Type 0} where
  pub Starts-one : (test : S → Bool) (f : S → Option A) → ((x : S) (a : A) → f x ≡ Some a → test x ≡ true) → Starts test (One f)
  Starts-one test f passes a text t = (t.0, [], t.1, passes t.0 a t.2)

  pub Starts-either : (test : S → Bool) (T U : Language S A) → Starts test T → Starts test U → Starts test (Either T U)
  Starts-either test T U t u a text (inl x) = t a text x
  Starts-either test T U t u a text (inr y) = u a text y

  pub Starts-more : (test test' : S → Bool) (T : Language S A) → ((x : S) → test x ≡ true → test' x ≡ true) → Starts test T → Starts test' T
  Starts-more test test' T less starts a text t =
      let w = starts a text t in
      (w.0, w.1, w.2, less w.0 w.3)

  -- what begins with such a symbol does not pass another test
  pub others_fail : (test other : S → Bool) (T : Language S A) → Starts test T → ((x : S) → test x ≡ true → other x ≡ false) → (a : A) (text rest : List S) → T a text → begins other (text ++ rest) ≡ false
  others_fail test other T starts apart a text rest t =
      let w = starts a text t in
      rw w.2 (apart w.0 w.3)

module _ {S A B : Type 0} where
  pub Starts-then : (test : S → Bool) (T : Language S A) (U : A → Language S B) → Starts test T → Starts test (Then T U)
  Starts-then test T U starts b text t =
      let w = starts t.0 t.1 t.3 in
      (w.0, w.1 ++ t.2, t.5 ∙ ap (λ (r : List S). r ++ t.2) w.2, w.3)

  pub Starts-mapped : (test : S → Bool) (f : A → B) (T : Language S A) → Starts test T → Starts test (Mapped f T)
  Starts-mapped test f T starts b text t = starts t.0 text t.1

  pub some_then : (T : Language S A) (U : A → Language S B) → HasText T → ((a : A) → HasText (U a)) → HasText (Then T U)
  some_then T U t u = let v = u t.0 in (v.0, t.1 ++ v.1, (t.0, t.1, v.1, t.2, v.2, refl))

  pub some_mapped : (f : A → B) (T : Language S A) → HasText T → HasText (Mapped f T)
  some_mapped f T t = (f t.0, t.1, (t.0, t.2, refl))

refuse_stopped : {S A : Type 0} (W : Language S A) → HasText W → (xs : List S) (s : Stop) → refuse {S = S} {A = A} xs ≡ Err s → Stopped W refuse xs s
refuse_stopped {S} {A} W some xs s e =
    let e1 = err_left (A × List S) (record { is_deep = false; left = length xs }) s e in
    record {
      before = [];
      bad = xs;
      parts = refl;
      left = ap (λ (z : Stop). z.left) (sym e1);
      viable = (some.1, some.0, some.2);
      deeper = λ d y ys b. let e2 = ap (λ (z : Stop). z.is_deep) e1 in absurd cc;
      some_bad = λ d b. let e2 = ap (λ (z : Stop). z.is_deep) e1 in absurd cc;
      again = λ other same. rw (← e1) refl;
    }

-- nothing is read where only one more level would have a text
pub Reads-refuse : {S A : Type 0} (W : Language S A) (goes : S → Bool) → HasText W → Reads Void W goes refuse
Reads-refuse W goes some = record {
  within = λ a text t. absurd t;
  took = λ xs a rest e. absurd cc;
  stopped = refuse_stopped W some;
  takes = λ a text rest t e. absurd t;
}

-- more texts of one level more
pub Reads-wider : {S A : Type 0} (T V V' : Language S A) (goes : S → Bool) (P : Reader S A) → ((a : A) (text : List S) → V a text → V' a text) → Reads T V goes P → Reads T V' goes P
Reads-wider T V V' goes P wider p = record {
  within = λ a text t. wider a text (p.within a text t);
  took = p.took;
  stopped = λ xs s e.
      let t = p.stopped xs s e in
      record {
        before = t.before;
        bad = t.bad;
        parts = t.parts;
        left = t.left;
        viable = (t.viable.0, t.viable.1, wider t.viable.1 _ t.viable.2);
        deeper = λ d y ys b. let v = t.deeper d y ys b in (v.0, v.1, wider v.1 _ v.2);
        some_bad = t.some_bad;
        again = t.again;
      };
  takes = p.takes;
}
