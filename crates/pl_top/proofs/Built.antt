-- The words of a command that is built give such a command.
use Rattle.std.proofs.Common.{◌≡◌, ℕ, ◌+◌, ◌||◌, Bool, true, false, List, [], ◌∷◌, Option, Some, None, Result, Ok, Err, inl, inr, refl, sym, ap, ◌∙◌, subst, ◌≤◌, length, map, get_or, take, drop, ◌-◌, arith}
use Rattle.std.specs.Prelude.{if◌then◌else◌, IfOk}
use Rattle.std.specs.Str.{bytes_eq}
use Rattle.std.proofs.lemmas.Bool.{or_cases}
use Rattle.std.proofs.lemmas.Grind.{common_steps}
use Rattle.std.proofs.lemmas.Slice.Eq.{bytes_eq-Decides}
use lib.Chars.{codes}
use Rattle.pl_words.specs.declared.command.Command.{Command}
use Rattle.pl_words.specs.declared.command.WordError.{WordError}
use Rattle.pl_words.specs.declared.table.Verb.{Verb}
use Rattle.pl_words.specs.declared.table.Verb.TheVariants as v
use Rattle.pl_words.specs.Table.{verb_named, row_of}
use Rattle.pl_words.specs.Words.{Said, nothing, next, needed, both, made, from, behind, is_dashed, option_word, plain_word, command_of, Tells}
use Rattle.pl_top.specs.Words.{is_built, IsBuilt}

abbrev pub IsBuiltVerb : Verb → Type 0
IsBuiltVerb v.Check = Unit {0}
IsBuiltVerb v.Emit = Unit {0}
IsBuiltVerb v.Run = Unit {0}
IsBuiltVerb v.Replay = Unit {0}
IsBuiltVerb v.Go = Unit {0}
IsBuiltVerb v.Fmt = Unit {0}
IsBuiltVerb _ = ⊥

all_built : {A B : Type 0} → (Q : B → Type 0) (r : Result A WordError) (f : A → B) → ((x : A) → Q (f x)) → IfOk (next r (λ x. Ok (f x))) Q
all_built Q (Ok x) f h = h x
all_built Q (Err r) f h = tt

next_built : {A B : Type 0} → (Q : B → Type 0) (r : Result A WordError) (f : A → Result B WordError) → ((x : A) → IfOk (f x) Q) → IfOk (next r f) Q
next_built Q (Ok x) f k = k x
next_built Q (Err r) f k = tt

if_built : {A : Type 0} → (P : A → Type 0) (b : Bool) (x y : Result A WordError) → IfOk x P → IfOk y P → IfOk (if b then x else y) P
if_built P true x y h k = h
if_built P false x y h k = k

made_built : (verb : Verb) → IsBuiltVerb verb → (place : ℕ) (said : Said) → IfOk (made verb place said) IsBuilt
made_built v.Check b place said = all_built IsBuilt (needed place said.first) _ (λ _. tt)
made_built v.Emit b place said = all_built IsBuilt (both place said.first said.output) _ (λ _. tt)
made_built v.Run b place said = all_built IsBuilt (needed place said.first) _ (λ _. tt)
made_built v.Replay b place said = all_built IsBuilt (both place said.first said.second) _ (λ _. tt)
made_built v.Go b place said = all_built IsBuilt (both place said.first said.output) _ (λ _. tt)
made_built v.Fmt b place said = all_built IsBuilt (needed place said.first) _ (λ _. tt)
made_built _ b place said = absurd b

from_built : (verb : Verb) → IsBuiltVerb verb → (place : ℕ) (said : Said) (words : List (List ℕ)) → IfOk (from verb place said words) IsBuilt
from_built verb b place said [] = made_built verb b place said
from_built verb b place said (w ∷ []) =
    if_built IsBuilt (is_dashed w) _ _
    (next_built IsBuilt (option_word (row_of verb) place said w None) _ (λ now. made_built verb b (place + 1) now))
    (next_built IsBuilt (plain_word (row_of verb).plain place said w) _ (λ now. made_built verb b (place + 1) now))
from_built verb b place said (w ∷ x ∷ rest) =
    if_built IsBuilt (is_dashed w) _ _
    (next_built IsBuilt (option_word (row_of verb) place said w (Some x)) _ (λ now. from_built verb b (place + 2) now rest))
    (next_built IsBuilt (plain_word (row_of verb).plain place said w) _ (λ now. from_built verb b (place + 1) now (x ∷ rest)))

-- a word that names a built command
record Named (w : List ℕ) : Type 0 where
  verb : Verb
  named : verb_named w ≡ Some verb
  built : IsBuiltVerb verb

by_word : (w name : List ℕ) (verb : Verb) → IsBuiltVerb verb → verb_named name ≡ Some verb → bytes_eq w name ≡ true → Named w
by_word w name verb b e h = record { verb = verb; named = ap verb_named ((bytes_eq-Decides w name).0 h) ∙ e; built = b }

-- one of two tests, the second of which names a command
either_word : (w name : List ℕ) (first : Bool) (verb : Verb) → IsBuiltVerb verb → verb_named name ≡ Some verb → (first ≡ true → Named w) → (first || bytes_eq w name) ≡ true → Named w
either_word w name first verb b e f h = elim (or_cases first (bytes_eq w name) h) [ inl k ↦ f k | inr k ↦ by_word w name verb b e k ]

named : (w : List ℕ) → is_built w ≡ true → Named w
named w h =
    either_word w (codes "fmt") _ v.Fmt tt refl
    (either_word w (codes "go") _ v.Go tt refl
    (either_word w (codes "replay") _ v.Replay tt refl
    (either_word w (codes "run") _ v.Run tt refl
    (either_word w (codes "emit") _ v.Emit tt refl
    (by_word w (codes "check") v.Check tt refl)))))
    h

told_built : (r told : Result Command WordError) → Tells r told → IfOk told IsBuilt → IfOk r IsBuilt
told_built (Ok x) told h k = subst (λ t. IfOk t IsBuilt) h k
told_built (Err r) told h k = tt

-- an answer that tells what the rule does is a built command
built : (w : List ℕ) (rest : List (List ℕ)) (r : Result Command WordError) → is_built w ≡ true → Tells r (command_of (w ∷ rest)) → IfOk r IsBuilt
built w rest r h t =
    let n = named w h in
    told_built r (command_of (w ∷ rest)) t (subst (λ (o : Option Verb). IfOk (behind o rest) IsBuilt) (sym n.named) (from_built n.verb n.built 1 nothing rest))

-- the list behind the first element, as a slice pattern gives it
abbrev tail : {X : Type 0} → List X → List X
tail xs = take (length xs - 1) (drop 1 xs)

-- a list with an element is that element before the others
front : {X : Type 0} → (xs : List X) (x : X) → 1 ≤ length xs → x ≡ get_or xs 0 x → xs ≡ x ∷ tail xs
front [] x h e = grind arith
front (y ∷ ys) x h e = grind (arith, common_steps)

-- the same of words that are looked at through a function
pub built_words : {X : Type 0} → (f : X → List ℕ) (xs : List X) (x : X) (r : Result Command WordError) → 1 ≤ length xs → x ≡ get_or xs 0 x → is_built (f x) ≡ true → Tells r (command_of (map f xs)) → IfOk r IsBuilt
built_words f xs x r h e b t = built (f x) (map f (tail xs)) r b (subst (λ l. Tells r (command_of (map f l))) (front xs x h e) t)
