-- Readers of values by their texts: what such a reader takes is the text of a value that is as it should be.
use Rattle.std.proofs.Common.{◌≡◌, inl, inr, ℕ, Bool, true, false, List, [], ◌∷◌, ◌++◌, length, Result, Ok, Err, refl, sym, ap, subst, ◌∙◌, append_assoc, flat_map}
use mathlib.Core.Path.{fun_ext}
use Rattle.std.specs.Prelude.{◌==◌, ◌||◌, ◌&&◌, if◌then◌else◌}
use Rattle.std.specs.List.{AllByRecursion}
use Rattle.std.proofs.lemmas.Bool.{eq-eqb, eqb-true}
use Rattle.std.proofs.lemmas.List.{append-nil}
use Rattle.pl_readers.specs.Language.{Language, Then, Either, Nothing, Mapped, Many, HasText, IsViable, Starts}
use Rattle.pl_readers.specs.Reader.{Reader, begins, next, either, nothing, mapped, repeat, refuse}
use Rattle.pl_readers.specs.Reads.{never, Ends, Reads, Took, Stopped}
use Rattle.pl_readers.specs.Bytes.{Word, is, word}
use Rattle.pl_readers.specs.declared.error.Stop.{Stop}
use Rattle.pl_readers.proofs.Correct.{bind_ok, bind_err, fine_is, err_left, same_through, Reads-then, Reads-either, Reads-mapped, Reads-nothing, Reads-before, Reads-repeat}
use Rattle.pl_readers.proofs.Firsts.{ends_never}
use Rattle.pl_readers.proofs.Exact.{Reads-word}
use Rattle.c_forms.specs.Reading.{among, after, ended_by, both, both_by, just, unless}

-- the texts of the values that are as they should be
abbrev pub Spells : {A : Type 0} → (A → Type 0) → (A → List ℕ) → Language ℕ A
Spells W f a text = W a × (text ≡ f a)

-- a reader is right for a language, which has a text
pub record Good {A : Type 0} (T : Language ℕ A) (goes : ℕ → Bool) (P : Reader ℕ A) : Type 0 where
  pub reads : Reads T T goes P
  pub some : HasText T

-- a text of T behind a word
abbrev pub Behind : {A : Type 0} → List ℕ → Language ℕ A → Language ℕ A
Behind s T a text = (back : List ℕ) × T a back × (text ≡ s ++ back)

-- each text begins with one of these bytes
abbrev pub Begin : {A : Type 0} → List ℕ → Language ℕ A → Type 0
Begin ks T = Starts (among ks) T

-- and the language is read right
pub record Alts {A : Type 0} (ks : List ℕ) (T : Language ℕ A) (goes : ℕ → Bool) (P : Reader ℕ A) : Type 0 where
  pub good : Good T goes P
  pub begin : Begin ks T

-- ---- the same texts

module _ {A : Type 0} (T U : Language ℕ A) (goes : ℕ → Bool) (P : Reader ℕ A) (there : (a : A) (text : List ℕ) → T a text → U a text) (back : (a : A) (text : List ℕ) → U a text → T a text) where
  same_reads : Reads T T goes P → Reads U U goes P
  same_reads p = record {
    within = λ a text t. t;
    took = λ xs a rest e.
        let t = p.took xs a rest e in
        record { text = t.text; is_text = there a t.text t.is_text; parts = t.parts; again = t.again };
    stopped = λ xs s e.
        let t = p.stopped xs s e in
        record {
          before = t.before;
          bad = t.bad;
          parts = t.parts;
          left = t.left;
          viable = (t.viable.0, t.viable.1, there t.viable.1 _ t.viable.2);
          deeper = λ d y ys b. let v = t.deeper d y ys b in (v.0, v.1, there v.1 _ v.2);
          some_bad = t.some_bad;
          again = t.again;
        };
    takes = λ a text rest u e. p.takes a text rest (back a text u) e;
  }

  pub same : Good T goes P → Good U goes P
  same p = record { reads = same_reads p.reads; some = (p.some.0, p.some.1, there p.some.0 p.some.1 p.some.2) }

pub before : {A : Type 0} (T : Language ℕ A) (g h : ℕ → Bool) (P : Reader ℕ A) → ((x : ℕ) → h x ≡ false → g x ≡ false) → Good T g P → Good T h P
before T g h P less p = record { reads = Reads-before T T g h P less p.reads; some = p.some }

-- what ends before any byte ends before a byte that no text goes on with
pub at_any : {A : Type 0} (T : Language ℕ A) (h : ℕ → Bool) (P : Reader ℕ A) → Good T never P → Good T h P
at_any T h P p = before T never h P (λ x e. refl) p

-- ---- words before and behind

pub good_word : (s : List ℕ) (g : ℕ → Bool) → Good (Word s) g (word s)
good_word s g = record { reads = Reads-word s g; some = (tt, s, refl) }

module _ {A : Type 0} where
  pub good_just : (v : A) (s : List ℕ) (g : ℕ → Bool) → Good (Spells (λ a. a ≡ v) (λ _. s)) g (just v s)
  good_just v s g = same (Mapped (λ _. v) (Word s)) (Spells (λ a. a ≡ v) (λ _. s)) g (just v s) (λ a text t. (t.2, t.1)) (λ a text t. (tt, t.1, t.0))
      (record { reads = Reads-mapped (λ _. v) (Word s) (Word s) g (word s) (Reads-word s g); some = (v, s, (tt, refl, refl)) })

  pub good_nothing : (v : A) (g : ℕ → Bool) → Good (Nothing v) g (nothing v)
  good_nothing v g = record { reads = Reads-nothing v g; some = (v, [], (refl, refl)) }

  -- a word before any language
  pub good_behind : (s : List ℕ) (T : Language ℕ A) (g : ℕ → Bool) (P : Reader ℕ A) → Good T g P → Good (Behind s T) g (after s P)
  good_behind s T g P p = same (Then (Word s) (λ _. T)) (Behind s T) g (after s P) (λ a text t. (t.2, t.4, t.5 ∙ ap (λ (r : List ℕ). r ++ t.2) t.3)) (λ a text t. (tt, s, t.0, refl, t.1, t.2))
      (record {
        reads = Reads-then (Word s) (Word s) (λ _. T) (λ _. T) never g (word s) (λ _. P) (Reads-word s never) (λ _. p.reads) (λ _. p.some) (λ a b back rest u e. ends_never (back ++ rest));
        some = (p.some.0, s ++ p.some.1, (tt, s, p.some.1, refl, p.some.2, refl));
      })

module _ {A : Type 0} (W : A → Type 0) (f : A → List ℕ) (g : ℕ → Bool) (P : Reader ℕ A) where
  -- a word before
  pub lit : (s : List ℕ) → Good (Spells W f) g P → Good (Spells W (λ a. s ++ f a)) g (after s P)
  lit s p = same (Behind s (Spells W f)) (Spells W (λ a. s ++ f a)) g (after s P)
      (λ a text t. (t.1.0, t.2 ∙ ap (λ (r : List ℕ). s ++ r) t.1.1)) (λ a text t. (f a, (t.0, refl), t.1)) (good_behind s (Spells W f) g P p)

  -- a word behind, with which no text goes on
  pub fin : (s : List ℕ) (h : ℕ → Bool) → ((rest : List ℕ) → Ends g (s ++ rest)) → Good (Spells W f) g P → Good (Spells W (λ a. f a ++ s)) h (ended_by P s)
  fin s h follow p = same (Then (Spells W f) (λ a. Mapped (λ _. a) (Word s))) (Spells W (λ a. f a ++ s)) h (ended_by P s)
      (λ a text t. (rw t.4.2 t.3.0, t.5 ∙ rw (t.3.1, t.4.1, t.4.2) refl))
      (λ a text t. (a, f a, s, (t.0, refl), (tt, refl, refl), t.1))
      (record {
        reads = Reads-then (Spells W f) (Spells W f) (λ a. Mapped (λ _. a) (Word s)) (λ a. Mapped (λ _. a) (Word s)) g h P (λ a. mapped (λ _. a) (word s)) p.reads
            (λ a. Reads-mapped (λ _. a) (Word s) (Word s) h (word s) (Reads-word s h)) (λ a. (a, s, (tt, refl, refl))) (λ a b back rest u e. rw u.1 (follow rest));
        some = (p.some.0, p.some.1 ++ s, (p.some.0, p.some.1, s, p.some.2, (tt, refl, refl), refl));
      })

  -- the value changed
  pub good_mapped : {B : Type 0} (φ : A → B) → Good (Spells W f) g P → Good (Mapped φ (Spells W f)) g (mapped φ P)
  good_mapped φ p = record { reads = Reads-mapped φ (Spells W f) (Spells W f) g P p.reads; some = (φ p.some.0, p.some.1, (p.some.0, p.some.2, refl)) }

-- ---- one behind the other

module _ {A B : Type 0} (W : A → Type 0) (f : A → List ℕ) (g : ℕ → Bool) (P : Reader ℕ A) (U : A → B → Type 0) (k : A → B → List ℕ) (h : ℕ → Bool) (Q : A → Reader ℕ B) where
  abbrev Second : A → Language ℕ (A × B)
  Second a = Mapped (λ b. (a, b)) (Spells (U a) (k a))

  pub pair_by : ((a : A) (b : B) (rest : List ℕ) → U a b → Ends h rest → Ends g (k a b ++ rest)) → Good (Spells W f) g P → ((a : A) → Good (Spells (U a) (k a)) h (Q a))
      → Good (Spells (λ (p : A × B). W p.0 × U p.0 p.1) (λ (p : A × B). f p.0 ++ k p.0 p.1)) h (both_by P Q)
  pair_by follow p q = same (Then (Spells W f) Second) (Spells (λ (p : A × B). W p.0 × U p.0 p.1) (λ (p : A × B). f p.0 ++ k p.0 p.1)) h (both_by P Q)
      (λ v text t. rw t.4.2 ((t.3.0, t.4.1.0), t.5 ∙ rw (t.3.1, t.4.1.1) refl))
      (λ v text t. (v.0, f v.0, k v.0 v.1, (t.0.0, refl), (v.1, (t.0.1, refl), refl), t.1))
      (record {
        reads = Reads-then (Spells W f) (Spells W f) Second Second g h P (λ a. mapped (λ b. (a, b)) (Q a)) p.reads
            (λ a. Reads-mapped (λ b. (a, b)) (Spells (U a) (k a)) (Spells (U a) (k a)) h (Q a) (q a).reads)
            (λ a. ((a, (q a).some.0), (q a).some.1, ((q a).some.0, (q a).some.2, refl)))
            (λ a v back rest u e. rw u.1.1 (follow a u.0 rest u.1.0 e));
        some = let a = p.some.0 in let o = (q a).some in ((a, o.0), p.some.1 ++ o.1, (a, p.some.1, o.1, p.some.2, (o.0, o.2, refl), refl));
      })

module _ {A B : Type 0} (W : A → Type 0) (f : A → List ℕ) (g : ℕ → Bool) (P : Reader ℕ A) (U : B → Type 0) (k : B → List ℕ) (h : ℕ → Bool) (Q : Reader ℕ B) where
  pub pair : ((b : B) (rest : List ℕ) → U b → Ends h rest → Ends g (k b ++ rest)) → Good (Spells W f) g P → Good (Spells U k) h Q
      → Good (Spells (λ (p : A × B). W p.0 × U p.1) (λ (p : A × B). f p.0 ++ k p.1)) h (both P Q)
  pair follow p q = pair_by W f g P (λ _. U) (λ _. k) h (λ _. Q) (λ a b rest u e. follow b rest u e) p (λ _. q)

-- ---- one or the other, by the next byte

one_of : (b : Bool) → (b || false) ≡ true → b ≡ true
one_of true e = refl
one_of false e = e

or_right : (b c : Bool) → c ≡ true → (b || c) ≡ true
or_right true c e = refl
or_right false c e = e

pub among_has : (ks : List ℕ) (c x : ℕ) → (x == c) ≡ true → among (c ∷ ks) x ≡ true
among_has ks c x e = rw e refl

module _ {A : Type 0} where
  pub begin_mapped : {B : Type 0} (ks : List ℕ) (φ : A → B) (T : Language ℕ A) → Begin ks T → Begin ks (Mapped φ T)
  begin_mapped ks φ T starts b text t = starts t.0 text t.1

  pub begin_word : (c : ℕ) (s : List ℕ) (T : Language ℕ A) → ((a : A) (text : List ℕ) → T a text → (back : List ℕ) × (text ≡ c ∷ back)) → Begin (c ∷ []) T
  begin_word c s T front a text t = let w = front a text t in (c, w.0, w.1, among_has [] c c (eq-eqb c c refl))

  pub begin_behind : (c : ℕ) (s : List ℕ) (T : Language ℕ A) → Begin (c ∷ []) (Behind (c ∷ s) T)
  begin_behind c s T a text t = (c, s ++ t.0, t.2, among_has [] c c (eq-eqb c c refl))

  pub begin_spells : (c : ℕ) (s : List ℕ) (W : A → Type 0) (f : A → List ℕ) → Begin (c ∷ []) (Spells W (λ a. (c ∷ s) ++ f a))
  begin_spells c s W f a text t = (c, s ++ f a, t.1, among_has [] c c (eq-eqb c c refl))

  pub begin_just : (c : ℕ) (s : List ℕ) (v : A) → Begin (c ∷ []) (Spells (λ a. a ≡ v) (λ _. c ∷ s))
  begin_just c s v a text t = (c, s, t.1, among_has [] c c (eq-eqb c c refl))

  -- one more alternative, which begins with c
  module _ (c : ℕ) (ks : List ℕ) (T U : Language ℕ A) (g : ℕ → Bool) (P Q : Reader ℕ A) where
    apart_from : among ks c ≡ false → (x : ℕ) → among ks x ≡ true → (b : Bool) → (x == c) ≡ b → b ≡ false
    apart_from e x h false b = refl
    apart_from e x h true b = let s = eqb-true x c b in let k : false ≡ true = sym e ∙ ap (among ks) (sym s) ∙ h in absurd cc

    is_c : (x : ℕ) → among (c ∷ []) x ≡ true → is c x ≡ true
    is_c x e = one_of (x == c) e

    pub alt : among ks c ≡ false → Good T g P → Begin (c ∷ []) T → Alts ks U g Q → Alts (c ∷ ks) (Either T U) g (either (is c) P Q)
    alt e p begin q = record {
      good = record {
        reads = Reads-either (is c) T T U U g P Q p.reads q.good.reads
            (λ a text t. let w = begin a text t in (w.0, w.1, w.2, is_c w.0 w.3))
            (λ a text rest u ends. let w = q.begin a text u in rw w.2 (apart_from e w.0 w.3 (w.0 == c) refl));
        some = (p.some.0, p.some.1, inl p.some.2);
      };
      begin = λ a text t. elim t [
        | inl u ↦ let w = begin a text u in (w.0, w.1, w.2, among_has ks c w.0 (is_c w.0 w.3))
        | inr u ↦ let w = q.begin a text u in (w.0, w.1, w.2, more w.0 w.3)
      ];
    } where
      more : (x : ℕ) → among ks x ≡ true → among (c ∷ ks) x ≡ true
      more x h = or_right (x == c) (among ks x) h

  -- the last alternative
  pub last : (ks : List ℕ) (T : Language ℕ A) (g : ℕ → Bool) (P : Reader ℕ A) → Good T g P → Begin ks T → Alts ks T g P
  last ks T g P p begin = record { good = p; begin = begin }

-- ---- any number

module _ {A : Type 0} (W : A → Type 0) (f : A → List ℕ) where
  many_there : (as' : List A) (text : List ℕ) → Many (Spells W f) as' text → Spells (AllByRecursion W) (flat_map f) as' text
  many_there [] text t = (tt, t)
  many_there (a ∷ as') text t = let h = many_there as' t.1 t.3 in ((t.2.0, h.0), t.4 ∙ rw (t.2.1, h.1) refl)

  many_back : (as' : List A) (text : List ℕ) → Spells (AllByRecursion W) (flat_map f) as' text → Many (Spells W f) as' text
  many_back [] text t = t.1
  many_back (a ∷ as') text t = (f a, flat_map f as', (t.0.0, refl), many_back as' (flat_map f as') (t.0.1, refl), t.1)

  -- one behind the other, each of which begins with c
  pub many : (c : ℕ) (g h : ℕ → Bool) (P : Reader ℕ A) → Begin (c ∷ []) (Spells W f) → g c ≡ false → ((x : ℕ) → h x ≡ false → (x == c) ≡ false) → ((x : ℕ) → h x ≡ false → g x ≡ false)
      → Good (Spells W f) g P → Good (Spells (AllByRecursion W) (flat_map f)) h (repeat (is c) P)
  many c g h P begin at_c no_more less p = same (Many (Spells W f)) (Spells (AllByRecursion W) (flat_map f)) h (repeat (is c) P) many_there many_back
      (record {
        reads = Reads-repeat (is c) (Spells W f) (Spells W f) g P p.reads (λ a text t. let w = begin a text t in (w.0, w.1, w.2, one_of (w.0 == c) w.3))
            h no_more less (λ x e. rw (eqb-true x c e) at_c);
        some = ([], [], refl);
      })

-- ---- what follows depends on what was taken

module _ {A B : Type 0} (T : Language ℕ A) (U : A → Language ℕ B) (g h : ℕ → Bool) (P : Reader ℕ A) (Q : A → Reader ℕ B) (p : Good T g P) (q : (a : A) (front : List ℕ) → T a front → Good (U a) h (Q a)) where
  taken_took : (xs : List ℕ) (b : B) (rest : List ℕ) → next P Q xs ≡ Ok (b, rest) → Took (Then T U) (next P Q) xs b rest
  taken_took xs b rest e =
      let x = bind_ok (P xs) (λ z. Q z.0 z.1) (b, rest) e in
      let t = p.reads.took xs x.0.0 x.0.1 x.1 in
      let u = (q x.0.0 t.text t.is_text).reads.took x.0.1 b rest x.2 in
      record {
        text = t.text ++ u.text;
        is_text = (x.0.0, t.text, u.text, t.is_text, u.is_text, refl);
        parts = t.parts ∙ ap (λ (r : List ℕ). t.text ++ r) u.parts ∙ sym (append_assoc t.text u.text rest);
        again = λ other same.
            let e1 : P (t.text ++ (u.text ++ other)) ≡ Ok (x.0.0, u.text ++ other) =
            t.again (u.text ++ other) (same_through x.0.1 u.text rest other u.parts same) in
            rw (append_assoc t.text u.text other, e1) (u.again other same);
      }

  taken_first : (before : List ℕ) → IsViable T before → IsViable (Then T U) before
  taken_first before v =
      let w = (q v.1 (before ++ v.0) v.2).some in
      (v.0 ++ w.1, w.0, (v.1, before ++ v.0, w.1, v.2, w.2, sym (append_assoc before v.0 w.1)))

  taken_second : (a : A) (front before : List ℕ) → T a front → IsViable (U a) before → IsViable (Then T U) (front ++ before)
  taken_second a front before t v = (v.0, v.1, (a, front, before ++ v.0, t, v.2, append_assoc front before v.0))

  taken_stopped : (xs : List ℕ) (s : Stop) → next P Q xs ≡ Err s → Stopped (Then T U) (next P Q) xs s
  taken_stopped xs s e =
      elim (bind_err (P xs) (λ z. Q z.0 z.1) s e) [
        | inl e1 ↦
            let t = p.reads.stopped xs s e1 in
            record {
              before = t.before;
              bad = t.bad;
              parts = t.parts;
              left = t.left;
              viable = taken_first t.before t.viable;
              deeper = λ d y ys b. taken_first (t.before ++ y ∷ []) (t.deeper d y ys b);
              some_bad = t.some_bad;
              again = λ other same. rw (t.again other same) refl;
            }
        | inr x ↦
            let t = p.reads.took xs x.0.0 x.0.1 x.1 in
            let u = (q x.0.0 t.text t.is_text).reads.stopped x.0.1 s x.2 in
            record {
              before = t.text ++ u.before;
              bad = u.bad;
              parts = t.parts ∙ ap (λ (r : List ℕ). t.text ++ r) u.parts ∙ sym (append_assoc t.text u.before u.bad);
              left = u.left;
              viable = taken_second x.0.0 t.text u.before t.is_text u.viable;
              deeper = λ d y ys b. subst (IsViable (Then T U)) (sym (append_assoc t.text u.before (y ∷ []))) (taken_second x.0.0 t.text (u.before ++ y ∷ []) t.is_text (u.deeper d y ys b));
              some_bad = u.some_bad;
              again = λ other same.
                  let e1 : P (t.text ++ (u.before ++ other)) ≡ Ok (x.0.0, u.before ++ other) =
                  t.again (u.before ++ other) (same_through x.0.1 u.before u.bad other u.parts same) in
                  rw (append_assoc t.text u.before other, e1) (u.again other same);
            }
      ]

  pub good_then : ((a : A) (b : B) (back rest : List ℕ) → U a b back → Ends h rest → Ends g (back ++ rest)) → Good (Then T U) h (next P Q)
  good_then follows = record {
    reads = record {
      within = λ b text t. t;
      took = taken_took;
      stopped = taken_stopped;
      takes = λ b text rest t e.
          let e1 : P (t.1 ++ (t.2 ++ rest)) ≡ Ok (t.0, t.2 ++ rest) = p.reads.takes t.0 t.1 (t.2 ++ rest) t.3 (follows t.0 b t.2 rest t.4 e) in
          rw (t.5, append_assoc t.1 t.2 rest, e1) ((q t.0 t.1 t.3).reads.takes b t.2 rest t.4 e);
    };
    some = let a = p.some.0 in let o = (q a p.some.1 p.some.2).some in (o.0, p.some.1 ++ o.1, (a, p.some.1, o.1, p.some.2, o.2, refl));
  }

-- ---- an alternative that is there only sometimes

abbrev pub When : {A : Type 0} → Bool → Language ℕ A → Language ℕ A
When b T a text = (b ≡ true) × T a text

module _ {A : Type 0} (test : ℕ → Bool) (T U : Language ℕ A) (g : ℕ → Bool) (P Q : Reader ℕ A) (starts : Starts test T) (others : (a : A) (text rest : List ℕ) → U a text → Ends g rest → begins test (text ++ rest) ≡ false) where
  same_reader : (R R' : Reader ℕ A) → R ≡ R' → Good U g R → Good U g R'
  same_reader R R' e p = subst (λ (z : Reader ℕ A). Good U g z) e p

  never_first : (xs : List ℕ) → Q xs ≡ either (λ x. false && test x) P Q xs
  never_first [] = refl
  never_first (x ∷ xs) = refl

  pub alt_when : (b : Bool) → (b ≡ true → Good T g P) → Good U g Q → Good (Either (When b T) U) g (either (λ x. b && test x) P Q)
  alt_when true p q = same (Either T U) (Either (When true T) U) g (either test P Q)
      (λ a text t. elim t [ inl u ↦ inl (refl, u) | inr u ↦ inr u ]) (λ a text t. elim t [ inl u ↦ inl u.1 | inr u ↦ inr u ])
      (record { reads = Reads-either test T T U U g P Q (p refl).reads q.reads starts others; some = (q.some.0, q.some.1, inr q.some.2) })
  alt_when false p q = same U (Either (When false T) U) g (either (λ x. false && test x) P Q)
      (λ a text u. inr u) (λ a text t. elim t [ inl u ↦ absurd cc | inr u ↦ u ]) (same_reader Q (either (λ x. false && test x) P Q) (fun_ext never_first) q)

-- ---- a value that a test refuses

module _ {A : Type 0} (test : A → Bool) (T : Language ℕ A) (g : ℕ → Bool) (P : Reader ℕ A) (p : Good T g P) where
  abbrev pub Passes : Language ℕ A
  Passes a text = (test a ≡ false) × T a text

  module _ (extends : (a : A) (text : List ℕ) → T a text → test a ≡ true → IsViable Passes text) where
    passes_by : (b : Bool) (a : A) (text : List ℕ) → test a ≡ b → T a text → IsViable Passes text
    passes_by true a text e t = extends a text t e
    passes_by false a text e t = ([], a, (e, subst (T a) (sym (append-nil text)) t))

    viable_through : (before : List ℕ) → IsViable T before → IsViable Passes before
    viable_through before v =
        let w = passes_by (test v.1) v.1 (before ++ v.0) refl v.2 in
        (v.0 ++ w.0, w.1, (w.2.0, subst (T w.1) (append_assoc before v.0 w.0) w.2.1))

    abbrev checked : A × List ℕ → Result (A × List ℕ) Stop
    checked q = if test q.0 then refuse q.1 else Ok q

    checked_ok : (b : Bool) (q r : A × List ℕ) → test q.0 ≡ b → checked q ≡ Ok r → (b ≡ false) × (q ≡ r)
    checked_ok true q r e h = let h1 = rw e at h in absurd cc
    checked_ok false q r e h = let h1 = rw e at h in (refl, fine_is q r h1)

    checked_err : (b : Bool) (q : A × List ℕ) (s : Stop) → test q.0 ≡ b → checked q ≡ Err s → (b ≡ true) × (record { is_deep = false; left = length q.1 } ≡ s)
    checked_err true q s e h = let h1 = rw e at h in (refl, err_left _ _ s h1)
    checked_err false q s e h = let h1 = rw e at h in absurd cc

    unless_took : (xs : List ℕ) (a : A) (rest : List ℕ) → unless test P xs ≡ Ok (a, rest) → Took Passes (unless test P) xs a rest
    unless_took xs a rest e =
        let x = bind_ok (P xs) checked (a, rest) e in
        let y = checked_ok (test x.0.0) x.0 (a, rest) refl x.2 in
        let a_is : x.0.0 ≡ a = ap (λ (z : A × List ℕ). z.0) y.1 in
        let rest_is : x.0.1 ≡ rest = ap (λ (z : A × List ℕ). z.1) y.1 in
        let whole : P xs ≡ Ok (a, rest) = x.1 ∙ ap (λ (z : A × List ℕ). Ok z) y.1 in
        let no : test a ≡ false = ap test (sym a_is) ∙ y.0 in
        let t = p.reads.took xs a rest whole in
        record { text = t.text; is_text = (no, t.is_text); parts = t.parts; again = λ other same. rw (t.again other same, no) refl }

    unless_stopped : (xs : List ℕ) (s : Stop) → unless test P xs ≡ Err s → Stopped Passes (unless test P) xs s
    unless_stopped xs s e =
        elim (bind_err (P xs) checked s e) [
          | inl e1 ↦
              let t = p.reads.stopped xs s e1 in
              record {
                before = t.before;
                bad = t.bad;
                parts = t.parts;
                left = t.left;
                viable = viable_through t.before t.viable;
                deeper = λ d y ys b. viable_through (t.before ++ y ∷ []) (t.deeper d y ys b);
                some_bad = t.some_bad;
                again = λ other same. rw (t.again other same) refl;
              }
          | inr x ↦
              let y = checked_err (test x.0.0) x.0 s refl x.2 in
              let t = p.reads.took xs x.0.0 x.0.1 x.1 in
              record {
                before = t.text;
                bad = x.0.1;
                parts = t.parts;
                left = ap (λ (z : Stop). z.left) (sym y.1);
                viable = extends x.0.0 t.text t.is_text y.0;
                deeper = λ d z zs b. let k = ap (λ (z : Stop). z.is_deep) y.1 in absurd cc;
                some_bad = λ d b. let k = ap (λ (z : Stop). z.is_deep) y.1 in absurd cc;
                again = λ other same. rw (t.again other same, y.0, ← y.1) refl;
              }
        ]

    pub good_unless : Good Passes g (unless test P)
    good_unless = record {
      reads = record {
        within = λ a text t. t;
        took = unless_took;
        stopped = unless_stopped;
        takes = λ a text rest t e. rw (p.reads.takes a text rest t.1 e, t.0) refl;
      };
      some = let v = viable_through [] (p.some.1, p.some.0, p.some.2) in (v.1, v.0, v.2);
    }
