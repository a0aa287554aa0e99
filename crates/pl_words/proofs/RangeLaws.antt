-- What the rule tells has its numbers in their ranges.
use Rattle.std.proofs.Common.{◌≡◌, ℕ, ◌+◌, Bool, true, false, ◌&&◌, List, [], ◌∷◌, Option, Some, None, Result, Ok, Err, refl, subst, arith}
use Rattle.std.specs.Prelude.{if◌then◌else◌, unwrap_or, is_some, IfOk, IfSome}
use Rattle.std.proofs.lemmas.Bool.Decides.{nat_tests}
use Rattle.std.specs.Str.Parse.{digits_value}
use Rattle.pl_words.specs.declared.command.Command.{Command}
use Rattle.pl_words.specs.declared.command.WordError.{WordError}
use Rattle.pl_words.specs.declared.table.Verb.{Verb}
use Rattle.pl_words.specs.declared.table.Verb.TheVariants as v
use Rattle.pl_words.specs.declared.table.Opt.{Opt}
use Rattle.pl_words.specs.declared.table.Opt.TheVariants as o
use Rattle.pl_words.specs.declared.table.Plain.{Plain}
use Rattle.pl_words.specs.declared.table.Plain.TheVariants as p
use Rattle.pl_words.specs.declared.table.Row.{Row}
use Rattle.pl_words.specs.Numbers.{is_numeral, is_up_to}
use Rattle.pl_words.specs.Ranges.{IsUpTo, IsRun, IsInRange}
use Rattle.pl_words.specs.Table.{option_named, row_of}
use Rattle.pl_words.specs.Words.{Said, nothing, next, written, number_at, number_once, text_once, value_word, allowed, plain_word, option_value, option_word, needed, both, run_of, made, from, is_dashed, Tells}

-- the numbers that were read are in their ranges
record Ranged (said : Said) : Type 0 where
  count : IfSome said.count (IsUpTo 1_000)
  steps : IfSome said.steps (IsUpTo 4_000_000)
  workers : IfSome said.workers (IsUpTo 64)
  jobs : IfSome said.jobs (IsUpTo 64)

nothing_in : Ranged nothing
nothing_in = record { count = tt; steps = tt; workers = tt; jobs = tt }

any_in : {A : Type 0} → (r : Result A WordError) → IfOk r (λ _. Unit {0})
any_in (Ok x) = tt
any_in (Err r) = tt

if_in : {A : Type 0} → (P : A → Type 0) (b : Bool) (x y : Result A WordError) → IfOk x P → IfOk y P → IfOk (if b then x else y) P
if_in P true x y h k = h
if_in P false x y h k = k

next_in : {A B : Type 0} → (P : A → Type 0) (Q : B → Type 0) (r : Result A WordError) (f : A → Result B WordError) → IfOk r P → ((x : A) → P x → IfOk (f x) Q) → IfOk (next r f) Q
next_in P Q (Ok x) f h k = k x h
next_in P Q (Err r) f h k = tt

up_to : (b : Bool) (most n : ℕ) → (b && is_up_to most n) ≡ true → IsUpTo most n
up_to b most n h = (grind (arith, nat_tests), grind (arith, nat_tests))

number_in : (place most : ℕ) (w : List ℕ) → IfOk (number_at place most w) (IsUpTo most)
number_in place most w =
    let n = digits_value 10 w in
    let test = is_numeral w && is_up_to most n in
    (elim test as (λ b. test ≡ b → IfOk (written place (if b then Some n else None)) (IsUpTo most)) [ true ↦ λ h. up_to (is_numeral w) most n h | false ↦ λ h. tt ]) refl

once_in : (place most : ℕ) (before : Option ℕ) (w : List ℕ) → IfOk (number_once place most before w) (IsUpTo most)
once_in place most None w = number_in (place + 1) most w
once_in place most (Some n) w = tt

plain_in : (plain : Plain) (place : ℕ) (said : Said) (w : List ℕ) → Ranged said → IfOk (plain_word plain place said w) Ranged
plain_in p.File place said w r =
    let kept : Ranged (record said { first = Some w }) = record { count = r.count; steps = r.steps; workers = r.workers; jobs = r.jobs } in
    if_in Ranged (is_some said.first) _ _ tt kept
plain_in p.TwoFiles place said w r =
    let one : Ranged (record said { first = Some w }) = record { count = r.count; steps = r.steps; workers = r.workers; jobs = r.jobs } in
    let other : Ranged (record said { second = Some w }) = record { count = r.count; steps = r.steps; workers = r.workers; jobs = r.jobs } in
    if_in Ranged (is_some said.second) _ _ tt (if_in Ranged (is_some said.first) _ _ other one)
plain_in p.Count place said w r =
    if_in Ranged (is_some said.count) _ _ tt
    (next_in (IsUpTo 1_000) Ranged (number_at place 1_000 w) _ (number_in place 1_000 w)
    (λ n h. record { count = h; steps = r.steps; workers = r.workers; jobs = r.jobs }))

value_in : (option : Opt) (place : ℕ) (said : Said) (w : List ℕ) → Ranged said → IfOk (option_value option place said w) Ranged
value_in o.Output place said w r =
    next_in (λ _. Unit {0}) Ranged (text_once place said.output w) _ (any_in _)
    (λ x _. record { count = r.count; steps = r.steps; workers = r.workers; jobs = r.jobs })
value_in o.History place said w r =
    next_in (λ _. Unit {0}) Ranged (text_once place said.history w) _ (any_in _)
    (λ x _. record { count = r.count; steps = r.steps; workers = r.workers; jobs = r.jobs })
value_in o.Steps place said w r =
    next_in (IsUpTo 4_000_000) Ranged (number_once place 4_000_000 said.steps w) _ (once_in place 4_000_000 said.steps w)
    (λ n h. record { count = r.count; steps = h; workers = r.workers; jobs = r.jobs })
value_in o.Workers place said w r =
    next_in (IsUpTo 64) Ranged (number_once place 64 said.workers w) _ (once_in place 64 said.workers w)
    (λ n h. record { count = r.count; steps = r.steps; workers = h; jobs = r.jobs })
value_in o.Jobs place said w r =
    next_in (IsUpTo 64) Ranged (number_once place 64 said.jobs w) _ (once_in place 64 said.jobs w)
    (λ n h. record { count = r.count; steps = r.steps; workers = r.workers; jobs = h })

option_in : (row : Row) (place : ℕ) (said : Said) (w : List ℕ) (after : Option (List ℕ)) → Ranged said → IfOk (option_word row place said w after) Ranged
option_in row place said w after r =
    next_in (λ _. Unit {0}) Ranged (allowed row place (option_named w)) _ (any_in _)
    (λ option _. next_in (λ _. Unit {0}) Ranged (value_word place after) _ (any_in _) (λ value _. value_in option place said value r))

default_in : (most d : ℕ) (n : Option ℕ) → IfSome n (IsUpTo most) → IsUpTo most d → IsUpTo most (unwrap_or n d)
default_in most d None h k = k
default_in most d (Some n) h k = h

run_in : (said : Said) → Ranged said → IsRun (run_of said)
run_in said r = record {
  steps = default_in 4_000_000 1_000_000 said.steps r.steps (omega arith, omega arith);
  workers = default_in 64 2 said.workers r.workers (omega arith, omega arith);
}

needed_in : {A : Type 0} → (P : A → Type 0) (place : ℕ) (x : Option A) → IfSome x P → IfOk (needed place x) P
needed_in P place None h = tt
needed_in P place (Some x) h = h

-- a command without numbers, or with some that do not hang on its names
all_in : {A B : Type 0} → (Q : B → Type 0) (r : Result A WordError) (f : A → B) → ((x : A) → Q (f x)) → IfOk (next r (λ x. Ok (f x))) Q
all_in Q (Ok x) f h = h x
all_in Q (Err r) f h = tt

made_in : (verb : Verb) (place : ℕ) (said : Said) → Ranged said → IfOk (made verb place said) IsInRange
made_in v.Check place said r = all_in IsInRange (needed place said.first) _ (λ _. default_in 64 1 said.jobs r.jobs (omega arith, omega arith))
made_in v.Emit place said r = all_in IsInRange (both place said.first said.output) _ (λ _. tt)
made_in v.Prove place said r = all_in IsInRange (both place said.first said.output) _ (λ _. tt)
made_in v.Verify place said r = all_in IsInRange (both place said.first said.second) _ (λ _. tt)
made_in v.Fmt place said r = all_in IsInRange (needed place said.first) _ (λ _. tt)
made_in v.Ghost place said r = all_in IsInRange (needed place said.first) _ (λ _. tt)
made_in v.Run place said r = all_in IsInRange (needed place said.first) _ (λ _. run_in said r)
made_in v.Replay place said r = all_in IsInRange (both place said.first said.second) _ (λ _. tt)
made_in v.Go place said r = all_in IsInRange (both place said.first said.output) _ (λ _. run_in said r)
made_in v.Bench place said r = next_in (IsUpTo 1_000) IsInRange (needed place said.count) _ (needed_in (IsUpTo 1_000) place said.count r.count) (λ n h. h)
made_in v.Races place said r = all_in IsInRange (both place said.first said.second) _ (λ _. tt)

from_in : (verb : Verb) (place : ℕ) (said : Said) (words : List (List ℕ)) → Ranged said → IfOk (from verb place said words) IsInRange
from_in verb place said [] r = made_in verb place said r
from_in verb place said (w ∷ []) r =
    if_in IsInRange (is_dashed w) _ _
    (next_in Ranged IsInRange (option_word (row_of verb) place said w None) _ (option_in (row_of verb) place said w None r) (λ now k. made_in verb (place + 1) now k))
    (next_in Ranged IsInRange (plain_word (row_of verb).plain place said w) _ (plain_in (row_of verb).plain place said w r) (λ now k. made_in verb (place + 1) now k))
from_in verb place said (w ∷ x ∷ rest) r =
    if_in IsInRange (is_dashed w) _ _
    (next_in Ranged IsInRange (option_word (row_of verb) place said w (Some x)) _ (option_in (row_of verb) place said w (Some x) r) (λ now k. from_in verb (place + 2) now rest k))
    (next_in Ranged IsInRange (plain_word (row_of verb).plain place said w) _ (plain_in (row_of verb).plain place said w r) (λ now k. from_in verb (place + 1) now (x ∷ rest) k))

told_in : {A : Type 0} → (P : A → Type 0) (r told : Result A WordError) → Tells r told → IfOk told P → IfOk r P
told_in P (Ok x) told h k = subst (λ t. IfOk t P) h k
told_in P (Err r) told h k = tt

-- an answer that tells what the rule does has its numbers in their ranges
pub in_range : (verb : Verb) (words : List (List ℕ)) (r : Result Command WordError) → Tells r (from verb 1 nothing words) → IfOk r IsInRange
in_range verb words r h = told_in IsInRange r (from verb 1 nothing words) h (from_in verb 1 nothing words nothing_in)
