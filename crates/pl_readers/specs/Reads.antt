-- What it means that a reader is right for a language: what it takes is a text, it takes each text, and where it stops
-- no text goes on.
use Rattle.std.specs.Prelude.{◌≡◌, ℕ, ◌+◌, ◌≤◌, ◌<◌, Bool, true, false, List, [], ◌∷◌, ◌++◌, length, take, Ok, Err}
use Rattle.pl_readers.specs.declared.error.Stop.{Stop}
use Rattle.pl_readers.specs.Language.{Language, IsViable}
use Rattle.pl_readers.specs.Reader.{Reader, begins, SameHead}

-- no symbol
abbrev pub never : {S : Type 0} → S → Bool
never x = false

-- what stands here does not begin with such a symbol
abbrev pub Ends : {S : Type 0} → (S → Bool) → List S → Type 0
Ends goes xs = begins goes xs ≡ false

-- the same stop with n symbols left
abbrev pub at_left : Stop → ℕ → Stop
at_left s n = record { is_deep = s.is_deep; left = n }

-- P took a text of T from the front of xs, whatever stands behind the next symbol
pub record Took {S A : Type 0} (T : Language S A) (P : Reader S A) (xs : List S) (a : A) (rest : List S) : Type 0 where
  pub text : List S
  pub is_text : T a text
  pub parts : xs ≡ text ++ rest
  pub again : (other : List S) → SameHead rest other → P (text ++ other) ≡ Ok (a, other)

-- P stopped at a symbol of xs, whatever stands behind it: what stands before begins a text of V, and so does what stands
-- before with that symbol, where the stop is for a level too many
pub record Stopped {S A : Type 0} (V : Language S A) (P : Reader S A) (xs : List S) (s : Stop) : Type 0 where
  pub before : List S
  pub bad : List S
  pub parts : xs ≡ before ++ bad
  pub left : s.left ≡ length bad
  pub viable : IsViable V before
  pub deeper : s.is_deep ≡ true → (y : S) (ys : List S) → bad ≡ y ∷ ys → IsViable V (before ++ y ∷ [])
  pub some_bad : s.is_deep ≡ true → bad ≡ [] → ⊥
  pub again : (other : List S) → SameHead bad other → P (before ++ other) ≡ Err (at_left s (length other))

-- P reads the texts of T, where V is T with one level more, and behind a text no symbol of goes stands
pub record Reads {S A : Type 0} (T V : Language S A) (goes : S → Bool) (P : Reader S A) : Type 0 where
  pub within : (a : A) (text : List S) → T a text → V a text
  pub took : (xs : List S) (a : A) (rest : List S) → P xs ≡ Ok (a, rest) → Took T P xs a rest
  pub stopped : (xs : List S) (s : Stop) → P xs ≡ Err s → Stopped V P xs s
  pub takes : (a : A) (text rest : List S) → T a text → Ends goes rest → P (text ++ rest) ≡ Ok (a, rest)

-- xs is refused at one symbol or at its end: what stands before begins a text of V, with the symbol it begins none of T,
-- and at the end xs itself is none
pub record Refused {S A : Type 0} (T V : Language S A) (xs : List S) (s : Stop) : Type 0 where
  pub before : List S
  pub bad : List S
  pub parts : xs ≡ before ++ bad
  pub left : s.left ≡ length bad
  pub viable : IsViable V before
  pub deeper : s.is_deep ≡ true → (y : S) (ys : List S) → bad ≡ y ∷ ys → IsViable V (before ++ y ∷ [])
  pub some_bad : s.is_deep ≡ true → bad ≡ [] → ⊥
  pub none : (y : S) (ys : List S) → bad ≡ y ∷ ys → IsViable T (before ++ y ∷ []) → ⊥
  pub short : bad ≡ [] → (a : A) → T a xs → ⊥

-- the same by place: the first k symbols begin a text, and one more begin none
pub record RefusedAt {S A : Type 0} (T V : Language S A) (xs : List S) (k : ℕ) (is_deep : Bool) : Type 0 where
  pub inside : k ≤ length xs
  pub viable : IsViable V (take k xs)
  pub deeper : is_deep ≡ true → (k < length xs) × IsViable V (take (k + 1) xs)
  pub none : k < length xs → IsViable T (take (k + 1) xs) → ⊥
  pub short : k ≡ length xs → (a : A) → T a xs → ⊥

-- P' answers what P does, but where P stops at a level too many
pub record Agrees {S A : Type 0} (P P' : Reader S A) : Type 0 where
  pub ok : (xs : List S) (x : A × List S) → P xs ≡ Ok x → P' xs ≡ Ok x
  pub err : (xs : List S) (s : Stop) → P xs ≡ Err s → s.is_deep ≡ false → P' xs ≡ Err s
