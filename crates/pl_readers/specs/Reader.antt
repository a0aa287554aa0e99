-- Readers: what takes the front of a list of symbols and makes a value of it. Each mirrors a word of `Language`.
use Rattle.std.specs.Prelude.{◌≡◌, ℕ, zero, suc, Bool, true, false, cond, List, [], ◌∷◌, ◌++◌, length, Option, Some, None, Result, Ok, Err}
use Rattle.pl_readers.specs.declared.error.Stop.{Stop}

-- a value and the symbols behind it, or where it stopped
abbrev pub Reader : Type 0 → Type 0 → Type 0
Reader S A = List S → Result (A × List S) Stop

-- what f makes of the value, where there is one
infixl 10 ◌>>=◌
abbrev pub ◌>>=◌ : {A B : Type 0} → Result A Stop → (A → Result B Stop) → Result B Stop
(Ok x) >>= f = f x
(Err e) >>= f = Err e

-- whether there is a next symbol and it passes the test
abbrev pub begins : {S : Type 0} → (S → Bool) → List S → Bool
begins test [] = false
begins test (x ∷ xs) = test x

-- the value that a symbol in front of xs has, or a refusal of that symbol
abbrev pub symbol_answer : {S A : Type 0} → Option A → List S → Result (A × List S) Stop
symbol_answer None xs = Err (record { is_deep = false; left = suc (length xs) })
symbol_answer (Some a) xs = Ok (a, xs)

-- one symbol, from which f makes a value
abbrev pub one : {S A : Type 0} → (S → Option A) → Reader S A
one f [] = Err (record { is_deep = false; left = 0 })
one f (x ∷ xs) = symbol_answer (f x) xs

-- what P reads, and then what Q reads for its value
abbrev pub next : {S A B : Type 0} → Reader S A → (A → Reader S B) → Reader S B
next P Q xs = P xs >>= λ p. Q p.0 p.1

-- what P reads where the next symbol passes the test, else what Q reads
abbrev pub either : {S A : Type 0} → (S → Bool) → Reader S A → Reader S A → Reader S A
either test P Q xs = cond (begins test xs) (P xs) (Q xs)

-- no symbol, for this value
abbrev pub nothing : {S A : Type 0} → A → Reader S A
nothing d xs = Ok (d, xs)

-- what P reads, with its value changed by f
abbrev pub mapped : {S A B : Type 0} → (A → B) → Reader S A → Reader S B
mapped f P xs = P xs >>= λ p. Ok (f p.0, p.1)

-- no symbol will do
abbrev pub refuse : {S A : Type 0} → Reader S A
refuse xs = Err (record { is_deep = false; left = length xs })

-- the next symbol would open one level too many
abbrev pub deep : {S A : Type 0} → Reader S A
deep xs = Err (record { is_deep = true; left = length xs })

-- what P reads as long as the next symbol passes the test, at most n times
unfoldable pub many : {S A : Type 0} → ℕ → (S → Bool) → Reader S A → Reader S (List A)
many zero test P xs = Ok ([], xs)
many (suc n) test P xs = cond (begins test xs) (P xs >>= λ p. many n test P p.1 >>= λ q. Ok (p.0 ∷ q.0, q.1)) (Ok ([], xs))

-- what P reads as long as the next symbol passes the test
abbrev pub repeat : {S A : Type 0} → (S → Bool) → Reader S A → Reader S (List A)
repeat test P xs = many (length xs) test P xs

-- the value, where no symbol is left
abbrev pub ended : {S A : Type 0} → A → List S → Result A Stop
ended a [] = Ok a
ended a (y ∷ ys) = Err (record { is_deep = false; left = suc (length ys) })

-- the value of all of the symbols
abbrev pub whole : {S A : Type 0} → Reader S A → List S → Result A Stop
whole P xs = P xs >>= λ p. ended p.0 p.1

-- what a loop still answers that has read front before
abbrev pub onto : {S A : Type 0} → List A → Reader S (List A) → Reader S (List A)
onto front R = mapped (λ more. front ++ more) R

-- the two lists begin with the same symbol, or both are empty
abbrev pub SameHead : {S : Type 0} → List S → List S → Type 0
SameHead [] [] = Unit {0}
SameHead [] (y ∷ ys) = ⊥
SameHead (x ∷ xs) [] = ⊥
SameHead (x ∷ xs) (y ∷ ys) = x ≡ y
