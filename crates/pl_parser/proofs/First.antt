-- Reading stops at a token whatever stands behind it, and so at the first of those at which it would.
use Rattle.std.proofs.Common.{◌≡◌, ℕ, suc, ◌+◌, ◌-◌, ◌<◌, inl, inr, Bool, false, List, [], ◌∷◌, ◌++◌, length, take, drop, Result, Ok, Err, refl, sym, ap, subst, ◌∙◌, append_assoc, arith}
use Rattle.std.proofs.lemmas.List.{length-append, length-take-le, take_at, take-append-drop}
use Rattle.pl_lexer.specs.declared.tokens.Token.{Token}
use Rattle.pl_readers.specs.declared.error.Stop.{Stop}
use Rattle.pl_readers.specs.Language.{Language}
use Rattle.pl_readers.specs.Reader.{Reader, SameHead, ended, whole}
use Rattle.pl_readers.specs.Reads.{never, Reads, at_left}
use Rattle.pl_readers.proofs.Correct.{bind_err, err_left}
use Rattle.pl_grammar.specs.FileReaders.{file}
use Rattle.pl_grammar.proofs.Answered.{Even, even, even_reads}
use Rattle.pl_parser.specs.Answer.{StopsBehind}
use Rattle.pl_parser.proofs.One.{same_stop}

-- where the whole of some symbols is refused, what stands before and what doesn't count
record Stays {S A : Type 0} (P : Reader S A) (xs : List S) (s : Stop) : Type 0 where
  before : List S
  bad : List S
  parts : xs ≡ before ++ bad
  left : s.left ≡ length bad
  again : (other : List S) → SameHead bad other → whole P (before ++ other) ≡ Err (at_left s (length other))

abbrev failed : (A : Type 0) → Stop → Result A Stop
failed A s = Err s

module _ {S A : Type 0} (T V : Language S A) (g : S → Bool) (P : Reader S A) (p : Reads T V g P) where
  -- what is behind a text is refused, whatever stands behind it
  further : (a : A) (y : S) (ys : List S) (s : Stop) → false ≡ s.is_deep → (text : List S) → ((other : List S) → SameHead (y ∷ ys) other → P (text ++ other) ≡ Ok (a, other)) → (other : List S) → SameHead (y ∷ ys) other → whole P (text ++ other) ≡ Err (at_left s (length other))
  further a y ys s plain text f [] same = absurd same
  further a y ys s plain text f (z ∷ zs) same = rw (f (z ∷ zs) same) (ap (λ (b : Bool). failed A (record { is_deep = b; left = suc (length zs) })) plain)

  behind : (xs : List S) (s : Stop) (a : A) (rest : List S) → P xs ≡ Ok (a, rest) → ended a rest ≡ Err s → Stays P xs s
  behind xs s a [] e h = absurd cc
  behind xs s a (y ∷ ys) e h =
      let t = p.took xs a (y ∷ ys) e in
      let same = err_left A (record { is_deep = false; left = suc (length ys) }) s h in
      record {
        before = t.text;
        bad = y ∷ ys;
        parts = t.parts;
        left = ap (λ (r : Stop). r.left) (sym same);
        again = further a y ys s (ap (λ (r : Stop). r.is_deep) same) t.text t.again;
      }

  stays : (xs : List S) (s : Stop) → whole P xs ≡ Err s → Stays P xs s
  stays xs s e =
      elim (bind_err (P xs) (λ z. ended z.0 z.1) s e) [
        | inl e1 ↦
            let t = p.stopped xs s e1 in
            record { before = t.before; bad = t.bad; parts = t.parts; left = t.left; again = λ other same. rw (t.again other same) refl }
        | inr x ↦ behind xs s x.0.0 x.0.1 x.1 x.2
      ]

module _ (xs more : List Token) (k : ℕ) (b : Bool) (v : StopsBehind xs k b) (inside : k < length xs) where
  abbrev stop : Stop
  stop = record { is_deep = b; left = length xs - k }

  abbrev other_text : List Token
  other_text = take (k + 1) xs ++ more

  by_parts : (before bad : List Token) → xs ≡ before ++ bad → length xs - k ≡ length bad → ((other : List Token) → SameHead bad other → whole (file 64) (before ++ other) ≡ Err (at_left stop (length other))) → StopsBehind other_text k b
  by_parts before [] parts left again = absurd (omega (arith, left, inside))
  by_parts before (y ∷ ys) parts left again =
      let all : length xs ≡ length before + suc (length ys) = ap length parts ∙ length-append before (y ∷ ys) in
      let more_left : length xs - k ≡ suc (length ys) = left in
      let at : length before ≡ k = omega (arith, all, more_left, inside) in
      let grouped : xs ≡ (before ++ y ∷ []) ++ ys = parts ∙ sym (append_assoc before (y ∷ []) ys) in
      let len : length (before ++ y ∷ []) ≡ k + 1 = length-append before (y ∷ []) ∙ omega (arith, at) in
      let front : take (k + 1) xs ≡ before ++ y ∷ [] = ap (take (k + 1)) grouped ∙ take_at (before ++ y ∷ []) ys (k + 1) len in
      let is : other_text ≡ before ++ y ∷ more = ap (λ (l : List Token). l ++ more) front ∙ append_assoc before (y ∷ []) more in
      let size : length other_text ≡ length before + suc (length more) = ap length is ∙ length-append before (y ∷ more) in
      let less : suc (length more) ≡ length other_text - k = omega (arith, size, at) in
      let read : whole (file 64) other_text ≡ Err (at_left stop (suc (length more))) = subst (λ (l : List Token). whole (file 64) l ≡ Err (at_left stop (suc (length more)))) (sym is) (again (y ∷ more) refl) in
      record {
        inside = omega (arith, size, at);
        read = subst (λ (n : ℕ). whole (file 64) other_text ≡ Err (record { is_deep = b; left = n })) less read;
      }

  pub stays_behind : StopsBehind other_text k b
  stays_behind =
      let t = stays (Even 32) (Even 33) never (even 32) (even_reads 32) xs stop v.read in
      by_parts t.before t.bad t.parts t.left t.again

pub stops_first : (xs more : List Token) (k j : ℕ) (a b : Bool) → StopsBehind xs k a → j < k → StopsBehind (take (j + 1) xs ++ more) j b → ⊥
stops_first xs more k j a b v less w =
    let len : length (take (j + 1) xs) ≡ j + 1 = length-take-le (j + 1) xs (omega (arith, less, v.inside)) in
    let inside : j < length (take (j + 1) xs ++ more) = omega (arith, len, length-append (take (j + 1) xs) more) in
    let again = stays_behind (take (j + 1) xs ++ more) (drop (j + 1) xs) j b w inside in
    let front : take (j + 1) (take (j + 1) xs ++ more) ≡ take (j + 1) xs = take_at (take (j + 1) xs) more (j + 1) len in
    let all : take (j + 1) (take (j + 1) xs ++ more) ++ drop (j + 1) xs ≡ xs = ap (λ (l : List Token). l ++ drop (j + 1) xs) front ∙ take-append-drop (j + 1) xs in
    let here : StopsBehind xs j b = subst (λ (l : List Token). StopsBehind l j b) all again in
    omega (arith, same_stop xs k j a b v here, less)
