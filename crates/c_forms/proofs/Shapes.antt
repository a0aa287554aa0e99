-- Other texts of the same values, values made of parts, and steps until a last one.
use Rattle.std.proofs.Common.{◌≡◌, ◌⊎◌, inl, inr, ℕ, zero, suc, ◌<◌, Bool, List, [], ◌∷◌, ◌++◌, length, Result, Ok, Err, refl, sym, ap, subst, ◌∙◌, append_assoc, arith}
use Rattle.std.proofs.lemmas.List.{length-append}
use Rattle.pl_readers.specs.declared.error.Stop.{Stop}
use Rattle.pl_readers.specs.Language.{Language, Mapped, HasText, IsViable}
use Rattle.pl_readers.specs.Reader.{Reader, ◌>>=◌, mapped}
use Rattle.pl_readers.specs.Reads.{never, Took, Stopped}
use Rattle.pl_readers.proofs.Correct.{bind_ok, bind_err, fine_is, same_through, Reads-mapped}
use Rattle.pl_readers.proofs.Firsts.{ends_never}
use Rattle.c_forms.specs.Reading.{Step, on, done, steps, until}
use Rattle.c_forms.proofs.Spelling.{Spells, Good, same, good_mapped}

-- ---- other texts, and values made of parts

-- an equal text for each value
pub respelled : {A : Type 0} (W : A → Type 0) (f h : A → List ℕ) (g : ℕ → Bool) (P : Reader ℕ A) → ((a : A) → f a ≡ h a) → Good (Spells W f) g P → Good (Spells W h) g P
respelled W f h g P e p = same (Spells W f) (Spells W h) g P (λ a text u. (u.0, u.1 ∙ e a)) (λ a text u. (u.0, u.1 ∙ sym (e a))) p

-- values that are made of parts, and taken apart again
pub made_of : {A B : Type 0} (W : A → Type 0) (f : A → List ℕ) (V : B → Type 0) (h : B → List ℕ) (g : ℕ → Bool) (P : Reader ℕ A) (make : A → B) (parts : B → A)
    → ((b : B) → make (parts b) ≡ b) → ((a : A) → W a → V (make a)) → ((b : B) → V b → W (parts b)) → ((a : A) → f a ≡ h (make a))
    → Good (Spells W f) g P → Good (Spells V h) g (mapped make P)
made_of W f V h g P make parts whole there here texts p = same (Mapped make (Spells W f)) (Spells V h) g (mapped make P)
    (λ b text u. rw u.2 (there u.0 u.1.0, u.1.1 ∙ texts u.0))
    (λ b text u. (parts b, (here b u.0, u.1 ∙ ap h (sym (whole b)) ∙ sym (texts (parts b))), sym (whole b)))
    (good_mapped W f g P make p)

-- a value changed, of any language
pub mapped_good : {A B : Type 0} (φ : A → B) (T : Language ℕ A) (g : ℕ → Bool) (P : Reader ℕ A) → Good T g P → Good (Mapped φ T) g (mapped φ P)
mapped_good φ T g P p = record { reads = Reads-mapped φ T T g P p.reads; some = (φ p.some.0, p.some.1, (p.some.0, p.some.2, refl)) }

-- ---- steps until a last one

module _ {S B : Type 0} (L : S → Language ℕ (Step S B)) (P : S → Reader ℕ (Step S B)) (p : (s : S) → Good (L s) never (P s)) (some : (s : S) (q : Step S B) (text : List ℕ) → L s q text → (c : ℕ) × (cs : List ℕ) × (text ≡ c ∷ cs)) where
  -- the texts of at most n steps from a state
  abbrev pub RunOf : ℕ → S → Language ℕ B
  RunOf zero s b text = ⊥
  RunOf (suc n) s b text =
      ((front : List ℕ) × L s (done b) front × (text ≡ front))
      ⊎ ((t : S) × (front back : List ℕ) × L s (on t) front × RunOf n t b back × (text ≡ front ++ back))

  -- the texts of any number of steps
  abbrev pub Run : S → Language ℕ B
  Run s b text = (n : ℕ) × RunOf n s b text

  less : (s : S) (xs : List ℕ) (q : Step S B) (rest : List ℕ) → P s xs ≡ Ok (q, rest) → length rest < length xs
  less s xs q rest e =
      let t = (p s).reads.took xs q rest e in
      let w = some s q t.text t.is_text in
      omega (arith, ap length t.parts, length-append t.text rest, ap length w.2)

  abbrev go : ℕ → Step S B × List ℕ → Result (B × List ℕ) Stop
  go n q = elim q.0 [ on t ↦ steps n P t q.1 | done b ↦ Ok (b, q.1) ]

  steps_one : (n : ℕ) (s : S) (xs : List ℕ) → steps (suc n) P s xs ≡ (P s xs >>= go n)
  unfolding steps
  steps_one n s xs = refl

  go_same : (n m : ℕ) (q : Step S B) (rest : List ℕ) → ((t : S) → steps n P t rest ≡ steps m P t rest) → go n (q, rest) ≡ go m (q, rest)
  go_same n m (on t) rest h = h t
  go_same n m (done b) rest h = refl

  bind_same : (n m : ℕ) (r : Result (Step S B × List ℕ) Stop) → ((q : Step S B) (rest : List ℕ) → r ≡ Ok (q, rest) → go n (q, rest) ≡ go m (q, rest)) → (r >>= go n) ≡ (r >>= go m)
  bind_same n m (Ok x) h = h x.0 x.1 refl
  bind_same n m (Err e) h = refl

  -- more steps than there are bytes change nothing
  room : (n m : ℕ) (s : S) (xs : List ℕ) → length xs < n → length xs < m → steps n P s xs ≡ steps m P s xs
  room zero m s xs h k = absurd (omega (arith, h))
  room (suc n) zero s xs h k = absurd (omega (arith, k))
  room (suc n) (suc m) s xs h k =
      steps_one n s xs
      ∙ bind_same n m (P s xs) (λ q rest e. go_same n m q rest (λ t. room n m t rest (omega (arith, h, less s xs q rest e)) (omega (arith, k, less s xs q rest e))))
      ∙ sym (steps_one m s xs)

  abbrev pub turn : Step S B × List ℕ → Result (B × List ℕ) Stop
  turn q = elim q.0 [ on t ↦ until P t q.1 | done b ↦ Ok (b, q.1) ]

  go_turn : (n : ℕ) (q : Step S B) (rest : List ℕ) → length rest < n → go n (q, rest) ≡ turn (q, rest)
  go_turn n (on t) rest h = room n (suc (length rest)) t rest h (omega arith)
  go_turn n (done b) rest h = refl

  bind_turn : (n : ℕ) (r : Result (Step S B × List ℕ) Stop) → ((q : Step S B) (rest : List ℕ) → r ≡ Ok (q, rest) → length rest < n) → (r >>= go n) ≡ (r >>= turn)
  bind_turn n (Ok x) h = go_turn n x.0 x.1 (h x.0 x.1 refl)
  bind_turn n (Err e) h = refl

  -- the first step apart
  pub until_is : (s : S) (xs : List ℕ) → until P s xs ≡ (P s xs >>= turn)
  until_is s xs = steps_one (length xs) s xs ∙ bind_turn (length xs) (P s xs) (λ q rest e. less s xs q rest e)

  pub until_on : (s t : S) (xs rest : List ℕ) → P s xs ≡ Ok (on t, rest) → until P s xs ≡ until P t rest
  until_on s t xs rest e = until_is s xs ∙ rw e refl

  pub until_done : (s : S) (b : B) (xs rest : List ℕ) → P s xs ≡ Ok (done b, rest) → until P s xs ≡ Ok (b, rest)
  until_done s b xs rest e = until_is s xs ∙ rw e refl

  pub until_stops : (s : S) (xs : List ℕ) (x : Stop) → P s xs ≡ Err x → until P s xs ≡ Err x
  until_stops s xs x e = until_is s xs ∙ rw e refl

  pub until_shorter : (s : S) (xs : List ℕ) (q : Step S B) (rest : List ℕ) → P s xs ≡ Ok (q, rest) → length rest < length xs
  until_shorter s xs q rest e = less s xs q rest e

  module _ (ends : (s : S) → HasText (Run s)) where
    turned_took : (s : S) (xs : List ℕ) (q : Step S B) (mid : List ℕ) (b : B) (rest : List ℕ) → ((v : S) → length mid < length xs → until P v mid ≡ Ok (b, rest) → Took (Run v) (until P v) mid b rest) → P s xs ≡ Ok (q, mid) → turn (q, mid) ≡ Ok (b, rest) → Took (Run s) (until P s) xs b rest
    turned_took s xs (on v) mid b rest further e1 e2 =
        let t = (p s).reads.took xs (on v) mid e1 in
        let u = further v (less s xs (on v) mid e1) e2 in
        record {
          text = t.text ++ u.text;
          is_text = (suc u.is_text.0, inr (v, t.text, u.text, t.is_text, u.is_text.1, refl));
          parts = t.parts ∙ ap (λ (r : List ℕ). t.text ++ r) u.parts ∙ sym (append_assoc t.text u.text rest);
          again = λ other same.
              let e3 : P s (t.text ++ (u.text ++ other)) ≡ Ok (on v, u.text ++ other) =
              t.again (u.text ++ other) (same_through mid u.text rest other u.parts same) in
              ap (until P s) (append_assoc t.text u.text other) ∙ until_on s v (t.text ++ (u.text ++ other)) (u.text ++ other) e3 ∙ u.again other same;
        }
    turned_took s xs (done v) mid b rest further e1 e2 =
        let y = fine_is (v, mid) (b, rest) e2 in
        let v_is : v ≡ b = ap (λ (z : B × List ℕ). z.0) y in
        let mid_is : mid ≡ rest = ap (λ (z : B × List ℕ). z.1) y in
        let whole : P s xs ≡ Ok (done b, rest) = e1 ∙ ap (λ (z : B × List ℕ). Ok (done z.0, z.1)) y in
        let t = (p s).reads.took xs (done b) rest whole in
        record {
          text = t.text;
          is_text = (suc zero, inl (t.text, t.is_text, refl));
          parts = t.parts;
          again = λ other same. until_done s b (t.text ++ other) other (t.again other same);
        }

    run_took : (n : ℕ) (s : S) (xs : List ℕ) (b : B) (rest : List ℕ) → length xs < n → until P s xs ≡ Ok (b, rest) → Took (Run s) (until P s) xs b rest
    run_took zero s xs b rest h e = absurd (omega (arith, h))
    run_took (suc n) s xs b rest h e =
        let x = bind_ok (P s xs) turn (b, rest) (sym (until_is s xs) ∙ e) in
        turned_took s xs x.0.0 x.0.1 b rest (λ v l k. run_took n v x.0.1 b rest (omega (arith, h, l)) k) x.1 x.2

    step_begins : (s : S) (before : List ℕ) → IsViable (L s) before → IsViable (Run s) before
    step_begins s before v = by_step v.1 v.2
      where
        by_step : (q : Step S B) → L s q (before ++ v.0) → IsViable (Run s) before
        by_step (on t) u = let w = ends t in (v.0 ++ w.1, w.0, (suc w.2.0, inr (t, before ++ v.0, w.1, u, w.2.1, sym (append_assoc before v.0 w.1))))
        by_step (done b) u = (v.0, b, (suc zero, inl (before ++ v.0, u, refl)))

    step_before : (s t : S) (front before : List ℕ) → L s (on t) front → IsViable (Run t) before → IsViable (Run s) (front ++ before)
    step_before s t front before u v = (v.0, v.1, (suc v.2.0, inr (t, front, before ++ v.0, u, v.2.1, append_assoc front before v.0)))

    turned_stopped : (s : S) (xs : List ℕ) (q : Step S B) (mid : List ℕ) (x : Stop) → ((v : S) → length mid < length xs → until P v mid ≡ Err x → Stopped (Run v) (until P v) mid x) → P s xs ≡ Ok (q, mid) → turn (q, mid) ≡ Err x → Stopped (Run s) (until P s) xs x
    turned_stopped s xs (on v) mid x further e1 e2 =
        let t = (p s).reads.took xs (on v) mid e1 in
        let u = further v (less s xs (on v) mid e1) e2 in
        record {
          before = t.text ++ u.before;
          bad = u.bad;
          parts = t.parts ∙ ap (λ (r : List ℕ). t.text ++ r) u.parts ∙ sym (append_assoc t.text u.before u.bad);
          left = u.left;
          viable = step_before s v t.text u.before t.is_text u.viable;
          deeper = λ d y ys b. subst (IsViable (Run s)) (sym (append_assoc t.text u.before (y ∷ []))) (step_before s v t.text (u.before ++ y ∷ []) t.is_text (u.deeper d y ys b));
          some_bad = u.some_bad;
          again = λ other same.
              let e3 : P s (t.text ++ (u.before ++ other)) ≡ Ok (on v, u.before ++ other) =
              t.again (u.before ++ other) (same_through mid u.before u.bad other u.parts same) in
              ap (until P s) (append_assoc t.text u.before other) ∙ until_on s v (t.text ++ (u.before ++ other)) (u.before ++ other) e3 ∙ u.again other same;
        }
    turned_stopped s xs (done v) mid x further e1 e2 = absurd cc

    run_stopped : (n : ℕ) (s : S) (xs : List ℕ) (x : Stop) → length xs < n → until P s xs ≡ Err x → Stopped (Run s) (until P s) xs x
    run_stopped zero s xs x h e = absurd (omega (arith, h))
    run_stopped (suc n) s xs x h e =
        elim (bind_err (P s xs) turn x (sym (until_is s xs) ∙ e)) [
          | inl e1 ↦
              let t = (p s).reads.stopped xs x e1 in
              record {
                before = t.before;
                bad = t.bad;
                parts = t.parts;
                left = t.left;
                viable = step_begins s t.before t.viable;
                deeper = λ d y ys b. step_begins s (t.before ++ y ∷ []) (t.deeper d y ys b);
                some_bad = t.some_bad;
                again = λ other same. until_stops s (t.before ++ other) _ (t.again other same);
              }
          | inr y ↦ turned_stopped s xs y.0.0 y.0.1 x (λ v l k. run_stopped n v y.0.1 x (omega (arith, h, l)) k) y.1 y.2
        ]

    run_takes : (n : ℕ) (s : S) (b : B) (text rest : List ℕ) → RunOf n s b text → until P s (text ++ rest) ≡ Ok (b, rest)
    run_takes zero s b text rest u = absurd u
    run_takes (suc n) s b text rest (inl u) =
        until_done s b (text ++ rest) rest (ap (λ (r : List ℕ). P s (r ++ rest)) u.2 ∙ (p s).reads.takes (done b) u.0 rest u.1 (ends_never rest))
    run_takes (suc n) s b text rest (inr u) =
        let v = u.0 in
        let front = u.1 in
        let back = u.2 in
        ap (λ (r : List ℕ). until P s r) (ap (λ (r : List ℕ). r ++ rest) u.5 ∙ append_assoc front back rest)
        ∙ until_on s v (front ++ (back ++ rest)) (back ++ rest) ((p s).reads.takes (on v) front (back ++ rest) u.3 (ends_never (back ++ rest)))
        ∙ run_takes n v b back rest u.4

    pub good_until : (h : ℕ → Bool) (s : S) → Good (Run s) h (until P s)
    good_until h s = record {
      reads = record {
        within = λ b text u. u;
        took = λ xs b rest e. run_took (suc (length xs)) s xs b rest (omega arith) e;
        stopped = λ xs x e. run_stopped (suc (length xs)) s xs x (omega arith) e;
        takes = λ b text rest u e. run_takes u.0 s b text rest u.1;
      };
      some = ends s;
    }
