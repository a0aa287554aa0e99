-- Readers with more levels: what one answers, the other answers too, but where the first stops at a level too many.
use Rattle.std.proofs.Common.{◌≡◌, ℕ, zero, suc, ◌+◌, ◌-◌, ◌≤◌, inl, inr, Bool, true, false, cond, List, [], ◌∷◌, ◌++◌, length, take, Result, Ok, Err, refl, sym, ap, subst, ◌∙◌, append_assoc, zero-add, arith}
use Rattle.std.proofs.lemmas.List.{length-append, take_at}
use Rattle.pl_readers.specs.declared.error.Stop.{Stop}
use Rattle.pl_readers.specs.Language.{Language, IsViable, Starts}
use Rattle.pl_readers.specs.Reader.{Reader, ◌>>=◌, begins, next, either, mapped, deep, repeat, ended, whole}
use Rattle.pl_readers.specs.Reads.{Reads, Refused, RefusedAt, Agrees}
use Rattle.pl_readers.proofs.Correct.{bind_ok, bind_err, err_left, repeat-ends, repeat-goes, shorter, whole-refused}

pub Agrees-same : {S A : Type 0} (P : Reader S A) → Agrees P P
Agrees-same P = record { ok = λ xs x e. e; err = λ xs s e d. e }

pub Agrees-trans : {S A : Type 0} (P Q R : Reader S A) → Agrees P Q → Agrees Q R → Agrees P R
Agrees-trans P Q R p q = record { ok = λ xs x e. q.ok xs x (p.ok xs x e); err = λ xs s e d. q.err xs s (p.err xs s e d) d }

pub Agrees-then : {S A B : Type 0} (P P' : Reader S A) (Q Q' : A → Reader S B) → Agrees P P' → ((a : A) → Agrees (Q a) (Q' a)) → Agrees (next P Q) (next P' Q')
Agrees-then {S} {A} {B} P P' Q Q' p q = record {
  ok = λ xs x e.
      let z = bind_ok (P xs) (λ w. Q w.0 w.1) x e in
      rw (p.ok xs z.0 z.1) ((q z.0.0).ok z.0.1 x z.2);
  err = λ xs s e d.
      elim (bind_err (P xs) (λ w. Q w.0 w.1) s e) [
        | inl e1 ↦ rw (p.err xs s e1 d) refl
        | inr z ↦ rw (p.ok xs z.0 z.1) ((q z.0.0).err z.0.1 s z.2 d)
      ];
}

pub Agrees-mapped : {S A B : Type 0} (f : A → B) (P P' : Reader S A) → Agrees P P' → Agrees (mapped f P) (mapped f P')
Agrees-mapped f P P' p = Agrees-then P P' (λ a xs. Ok (f a, xs)) (λ a xs. Ok (f a, xs)) p (λ a. Agrees-same (λ xs. Ok (f a, xs)))

-- neither at a level too many
abbrev IsSure : {S A : Type 0} → Result (A × List S) Stop → Type 0
IsSure (Ok x) = Unit {0}
IsSure (Err s) = s.is_deep ≡ false

either_step : {S A : Type 0} (b : Bool) (P P' Q Q' : Reader S A) → Agrees P P' → Agrees Q Q' → (xs : List S) → (r : Result (A × List S) Stop) → cond b (P xs) (Q xs) ≡ r → IsSure r → cond b (P' xs) (Q' xs) ≡ r
either_step true P P' Q Q' p q xs (Ok x) e d = p.ok xs x e
either_step true P P' Q Q' p q xs (Err s) e d = p.err xs s e d
either_step false P P' Q Q' p q xs (Ok x) e d = q.ok xs x e
either_step false P P' Q Q' p q xs (Err s) e d = q.err xs s e d

pub Agrees-either : {S A : Type 0} (test : S → Bool) (P P' Q Q' : Reader S A) → Agrees P P' → Agrees Q Q' → Agrees (either test P Q) (either test P' Q')
Agrees-either test P P' Q Q' p q = record {
  ok = λ xs x e. either_step (begins test xs) P P' Q Q' p q xs (Ok x) e tt;
  err = λ xs s e d. either_step (begins test xs) P P' Q Q' p q xs (Err s) e d;
}

Agrees-stop : {S A : Type 0} (P : Reader S A) → Agrees deep P
Agrees-stop {S} {A} P = record {
  ok = λ xs x e. absurd cc;
  err = λ xs s e d.
      let e1 = ap (λ (z : Stop). z.is_deep) (err_left (A × List S) (record { is_deep = true; left = length xs }) s e) in absurd cc;
}

pub Agrees-deep : {S A : Type 0} (test : S → Bool) (P Q Q' : Reader S A) → Agrees Q Q' → Agrees (either test deep Q) (either test P Q')
Agrees-deep test P Q Q' q = Agrees-either test deep P Q Q' (Agrees-stop P) q

module _ {S A : Type 0} (test : S → Bool) (T V T' V' : Language S A) (g : S → Bool) (P P' : Reader S A) (p : Reads T V g P) (p' : Reads T' V' g P') (starts : Starts test T) (starts' : Starts test T') (a : Agrees P P') where
  repeat_ok : (n : ℕ) (b : Bool) (xs : List S) → length xs ≤ n → begins test xs ≡ b → (x : List A × List S) → repeat test P xs ≡ Ok x → repeat test P' xs ≡ Ok x
  repeat_ok n false xs le b x e = repeat-ends test T' V' g P' p' starts' xs b ∙ sym (repeat-ends test T V g P p starts xs b) ∙ e
  repeat_ok zero true [] le b x e = absurd cc
  repeat_ok zero true (y ∷ xs) le b x e = absurd (omega arith)
  repeat_ok (suc n) true xs le b x e =
      let z = bind_ok (P xs) (λ q. repeat test P q.1 >>= λ o. Ok (q.0 ∷ o.0, o.1)) x (sym (repeat-goes test T V g P p starts xs b) ∙ e) in
      let y = bind_ok (repeat test P z.0.1) (λ o. Ok (z.0.0 ∷ o.0, o.1)) x z.2 in
      let less = shorter test T V g P p starts xs z.0.0 z.0.1 z.1 in
      repeat-goes test T' V' g P' p' starts' xs b ∙ rw (a.ok xs z.0 z.1, repeat_ok n (begins test z.0.1) z.0.1 (omega arith) refl y.0 y.1) y.2

  repeat_err : (n : ℕ) (b : Bool) (xs : List S) → length xs ≤ n → begins test xs ≡ b → (s : Stop) → repeat test P xs ≡ Err s → s.is_deep ≡ false → repeat test P' xs ≡ Err s
  repeat_err n false xs le b s e d = repeat-ends test T' V' g P' p' starts' xs b ∙ sym (repeat-ends test T V g P p starts xs b) ∙ e
  repeat_err zero true [] le b s e d = absurd cc
  repeat_err zero true (y ∷ xs) le b s e d = absurd (omega arith)
  repeat_err (suc n) true xs le b s e d =
      elim (bind_err (P xs) (λ q. repeat test P q.1 >>= λ o. Ok (q.0 ∷ o.0, o.1)) s (sym (repeat-goes test T V g P p starts xs b) ∙ e)) [
        | inl e1 ↦ repeat-goes test T' V' g P' p' starts' xs b ∙ rw (a.err xs s e1 d) refl
        | inr z ↦
            elim (bind_err (repeat test P z.0.1) (λ o. Ok (z.0.0 ∷ o.0, o.1)) s z.2) [
              | inl e2 ↦
                  let less = shorter test T V g P p starts xs z.0.0 z.0.1 z.1 in
                  repeat-goes test T' V' g P' p' starts' xs b ∙ rw (a.ok xs z.0 z.1, repeat_err n (begins test z.0.1) z.0.1 (omega arith) refl s e2 d) refl
              | inr y ↦ let e3 = y.2 in absurd cc
            ]
      ]

  pub Agrees-repeat : Agrees (repeat test P) (repeat test P')
  Agrees-repeat = record {
    ok = λ xs x e. repeat_ok (length xs) (begins test xs) xs (omega arith) refl x e;
    err = λ xs s e d. repeat_err (length xs) (begins test xs) xs (omega arith) refl s e d;
  }

-- ---- the answer, over any number of levels

take_one : {S : Type 0} (before : List S) (y : S) (ys : List S) (k : ℕ) → length before ≡ k → take (k + 1) (before ++ y ∷ ys) ≡ before ++ y ∷ []
take_one before y ys k e = ap (take (k + 1)) (sym (append_assoc before (y ∷ []) ys)) ∙ take_at (before ++ y ∷ []) ys (k + 1) (omega (arith, length-append before (y ∷ [])))

module _ {S A : Type 0} (T V : Language S A) (xs : List S) (s : Stop) where
  at_bad : (before bad : List S) → xs ≡ before ++ bad → s.left ≡ length bad → IsViable V before → (s.is_deep ≡ true → (y : S) (ys : List S) → bad ≡ y ∷ ys → IsViable V (before ++ y ∷ [])) → (s.is_deep ≡ true → bad ≡ [] → ⊥)
      → ((y : S) (ys : List S) → bad ≡ y ∷ ys → IsViable T (before ++ y ∷ []) → ⊥) → (bad ≡ [] → (a : A) → T a xs → ⊥) → RefusedAt T V xs (length xs - s.left) s.is_deep
  at_bad before [] parts left viable deeper some_bad none short =
      let k : length before ≡ length xs - s.left = omega (arith, ap length parts, length-append before []) in
      let e : take (length xs - s.left) xs ≡ before = ap (take (length xs - s.left)) parts ∙ take_at before [] (length xs - s.left) k in
      record {
        inside = omega arith;
        viable = rw e viable;
        deeper = λ d. absurd (some_bad d refl);
        none = λ lt v. absurd (omega arith);
        short = λ e1. short refl;
      }
  at_bad before (y ∷ ys) parts left viable deeper some_bad none short =
      let k : length before ≡ length xs - s.left = omega (arith, ap length parts, length-append before (y ∷ ys)) in
      let e : take (length xs - s.left) xs ≡ before = ap (take (length xs - s.left)) parts ∙ take_at before (y ∷ ys) (length xs - s.left) k in
      let e1 : take (length xs - s.left + 1) xs ≡ before ++ y ∷ [] = ap (take (length xs - s.left + 1)) parts ∙ take_one before y ys (length xs - s.left) k in
      record {
        inside = omega arith;
        viable = rw e viable;
        deeper = λ d. (omega (arith, left, ap length parts, length-append before (y ∷ ys)), rw e1 (deeper d y ys refl));
        none = λ lt v. none y ys refl (subst (IsViable T) e1 v);
        short = λ e2. absurd (omega (arith, ap length parts, length-append before (y ∷ ys)));
      }

  pub left_of : Refused T V xs s → s.left ≤ length xs
  left_of r = omega (arith, r.left, ap length r.parts, length-append r.before r.bad)

  pub refused_at : Refused T V xs s → RefusedAt T V xs (length xs - s.left) s.is_deep
  refused_at r = at_bad r.before r.bad r.parts r.left r.viable r.deeper r.some_bad r.none r.short

module _ {S A : Type 0} (T : ℕ → Language S A) (g : S → Bool) (P : ℕ → Reader S A) (reads : (n : ℕ) → Reads (T n) (T (suc n)) g (P n)) (agrees : (n : ℕ) → Agrees (P n) (P (suc n))) where
  suc_is : (k n : ℕ) → suc k + n ≡ suc (k + n)
  suc_is k n = omega arith

  higher : (n k : ℕ) → Agrees (P n) (P (k + n))
  higher n zero = rw zero-add (Agrees-same (P n))
  higher n (suc k) = rw (suc_is k n) (Agrees-trans (P n) (P (k + n)) (P (suc (k + n))) (higher n k) (agrees (k + n)))

  more : (n k : ℕ) (a : A) (text : List S) → T n a text → T (k + n) a text
  more n zero a text t = rw zero-add t
  more n (suc k) a text t = rw (suc_is k n) ((reads (k + n)).within a text (more n k a text t))

  whole_higher : (n k : ℕ) (xs : List S) (s : Stop) → whole (P n) xs ≡ Err s → s.is_deep ≡ false → whole (P (k + n)) xs ≡ Err s
  whole_higher n k xs s e d =
      elim (bind_err (P n xs) (λ z. ended z.0 z.1) s e) [
        | inl e1 ↦ rw ((higher n k).err xs s e1 d) refl
        | inr z ↦ rw ((higher n k).ok xs z.0 z.1) z.2
      ]

  -- no number of levels takes the refused symbol
  pub whole-none : (n m : ℕ) (xs : List S) (s : Stop) → whole (P n) xs ≡ Err s → s.is_deep ≡ false → RefusedAt (T m) (T (suc n)) xs (length xs - s.left) false
  whole-none n m xs s e d =
      let low = refused_at (T n) (T (suc n)) xs s (whole-refused (T n) (T (suc n)) g (P n) (reads n) xs s e) in
      let e1 : whole (P (m + n)) xs ≡ Err s = whole_higher n m xs s e d in
      let high = refused_at (T (m + n)) (T (suc (m + n))) xs s (whole-refused (T (m + n)) (T (suc (m + n))) g (P (m + n)) (reads (m + n)) xs s e1) in
      let up : (a : A) (text : List S) → T m a text → T (m + n) a text = λ a text t. subst (λ (j : ℕ). T j a text) (omega arith) (more m n a text t) in
      record {
        inside = low.inside;
        viable = low.viable;
        deeper = λ e2. absurd cc;
        none = λ lt v. high.none lt (v.0, v.1, up v.1 (take (length xs - s.left + 1) xs ++ v.0) v.2);
        short = λ e2 a t. high.short e2 a (up a xs t);
      }
