-- One step of the reader is one step of the rule.
use Rattle.std.proofs.Common.{◌≡◌, ℕ, ◌+◌, ◌-◌, ◌≤◌, true, false, List, [], ◌∷◌, Some, Ok, length, take, drop, get_or, map, refl, ap, ◌∙◌, arith}
use Rattle.std.proofs.lemmas.Grind.{common_steps}
use Rattle.pl_words.specs.declared.table.Verb.{Verb}
use Rattle.pl_words.specs.Table.{row_of}
use Rattle.pl_words.specs.Words.{Said, from, is_dashed, plain_word, option_word}

-- the list behind the first element, as a slice pattern gives it
abbrev tail : {X : Type 0} → List X → List X
tail xs = take (length xs - 1) (drop 1 xs)

-- a list with an element is that element before the others
front : {X : Type 0} → (xs : List X) (x : X) → 1 ≤ length xs → x ≡ get_or xs 0 x → xs ≡ x ∷ tail xs
front [] x h e = grind arith
front (y ∷ ys) x h e = grind (arith, common_steps)

-- a word that is no option, whatever stands behind it
from_plain : (verb : Verb) (place : ℕ) (said now : Said) (w : List ℕ) (rest : List (List ℕ)) → is_dashed w ≡ false → plain_word (row_of verb).plain place said w ≡ Ok now → from verb place said (w ∷ rest) ≡ from verb (place + 1) now rest
from_plain verb place said now w [] h p = rw (h, p) refl
from_plain verb place said now w (x ∷ rest) h p = rw (h, p) refl

-- an option with the word behind it
from_option : (verb : Verb) (place : ℕ) (said now : Said) (w x : List ℕ) (rest : List (List ℕ)) → is_dashed w ≡ true → option_word (row_of verb) place said w (Some x) ≡ Ok now → from verb place said (w ∷ x ∷ rest) ≡ from verb (place + 2) now rest
from_option verb place said now w x rest h p = rw (h, p) refl

pub plain_step : {X : Type 0} → (f : X → List ℕ) (verb : Verb) (place : ℕ) (said now : Said) (xs : List X) (x : X) → 1 ≤ length xs → x ≡ get_or xs 0 x → is_dashed (f x) ≡ false → plain_word (row_of verb).plain place said (f x) ≡ Ok now → from verb place said (map f xs) ≡ from verb (place + 1) now (map f (tail xs))
plain_step f verb place said now xs x h e d p =
    ap (λ l. from verb place said (map f l)) (front xs x h e) ∙ from_plain verb place said now (f x) (map f (tail xs)) d p

pub option_step : {X : Type 0} → (f : X → List ℕ) (verb : Verb) (place : ℕ) (said now : Said) (xs : List X) (x v : X) → 1 ≤ length xs → x ≡ get_or xs 0 x → 1 ≤ length (tail xs) → v ≡ get_or (tail xs) 0 v → is_dashed (f x) ≡ true → option_word (row_of verb) place said (f x) (Some (f v)) ≡ Ok now → from verb place said (map f xs) ≡ from verb (place + 2) now (map f (tail (tail xs)))
option_step f verb place said now xs x v h e h2 e2 d p =
    ap (λ l. from verb place said (map f l)) (front xs x h e)
    ∙ ap (λ l. from verb place said (f x ∷ map f l)) (front (tail xs) v h2 e2)
    ∙ from_option verb place said now (f x) (f v) (map f (tail (tail xs))) d p
