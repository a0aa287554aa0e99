-- The rule for words: the first word is the command, and the rest are looked at from left to right.
use Rattle.std.specs.Prelude.{◌≡◌, ℕ, ◌+◌, ◌==◌, Bool, false, List, [], ◌∷◌, Result, Ok, Err, Option, Some, None, is_some, if◌then◌else◌, unwrap_or}
use Rattle.pl_words.specs.declared.command.Command.{Command}
use Rattle.pl_words.specs.declared.command.Command.TheVariants as c
use Rattle.pl_words.specs.declared.command.RunOpts.{RunOpts}
use Rattle.pl_words.specs.declared.command.UsageKind.{UsageKind}
use Rattle.pl_words.specs.declared.command.UsageKind.TheVariants.{NoCommand, UnknownCommand, UnknownOption, MissingValue, Repeated, BadNumber, ExtraWord, MissingWord}
use Rattle.pl_words.specs.declared.command.WordError.{WordError}
use Rattle.pl_words.specs.declared.command.WordError.TheVariants as e
use Rattle.pl_words.specs.declared.table.Verb.{Verb}
use Rattle.pl_words.specs.declared.table.Verb.TheVariants as v
use Rattle.pl_words.specs.declared.table.Opt.{Opt}
use Rattle.pl_words.specs.declared.table.Opt.TheVariants as o
use Rattle.pl_words.specs.declared.table.Plain.{Plain}
use Rattle.pl_words.specs.declared.table.Plain.TheVariants as p
use Rattle.pl_words.specs.declared.table.Row.{Row}
use Rattle.pl_words.specs.Table.{verb_named, option_named, row_of, has}
use Rattle.pl_words.specs.Numbers.{number_of}

-- what the words behind the command said so far: one file or two, or a count, and the value of each option
pub record Said : Type 0 where
  pub first : Option (List ℕ)
  pub second : Option (List ℕ)
  pub count : Option ℕ
  pub output : Option (List ℕ)
  pub steps : Option ℕ
  pub workers : Option ℕ
  pub history : Option (List ℕ)
  pub jobs : Option ℕ

abbrev pub nothing : Said
nothing = record { first = None; second = None; count = None; output = None; steps = None; workers = None; history = None; jobs = None }

-- the word at a place is refused
abbrev pub refused : {A : Type 0} → UsageKind → ℕ → Result A WordError
refused kind place = Err (e.Usage kind place)

-- what comes next, where nothing was refused
abbrev pub next : {A B : Type 0} → Result A WordError → (A → Result B WordError) → Result B WordError
next (Ok x) f = f x
next (Err r) f = Err r

-- whether a word begins with `-`
abbrev pub is_dashed : List ℕ → Bool
is_dashed [] = false
is_dashed (b ∷ bs) = b == 45

-- the number that a word at a place writes, if it writes one
abbrev pub written : ℕ → Option ℕ → Result ℕ WordError
written place None = refused BadNumber place
written place (Some n) = Ok n

-- the number from 1 to a bound that the word at a place writes
abbrev pub number_at : ℕ → ℕ → List ℕ → Result ℕ WordError
number_at place most w = written place (number_of most w)

-- a word that is no option: a file, or the one number, from 1 to 1,000
abbrev pub plain_word : Plain → ℕ → Said → List ℕ → Result Said WordError
plain_word p.File place said w =
    if is_some said.first then refused ExtraWord place else Ok (record said { first = Some w })
plain_word p.TwoFiles place said w =
    if is_some said.second then refused ExtraWord place else
    if is_some said.first then Ok (record said { second = Some w }) else Ok (record said { first = Some w })
plain_word p.Count place said w =
    if is_some said.count then refused ExtraWord place else
    next (number_at place 1_000 w) (λ n. Ok (record said { count = Some n }))

-- the option that a word is, where the command has it
abbrev pub allowed : Row → ℕ → Option Opt → Result Opt WordError
allowed row place None = refused UnknownOption place
allowed row place (Some option) = if has row option then Ok option else refused UnknownOption place

-- the value of the option at a place: the word behind it, which does not begin with `-`
abbrev pub value_word : ℕ → Option (List ℕ) → Result (List ℕ) WordError
value_word place None = refused MissingValue place
value_word place (Some value) = if is_dashed value then refused MissingValue place else Ok value

-- a text as the value of the option at a place, which had none before
abbrev pub text_once : ℕ → Option (List ℕ) → List ℕ → Result (List ℕ) WordError
text_once place before value = if is_some before then refused Repeated place else Ok value

-- the same of a number from 1 to a bound, which stands behind the option
abbrev pub number_once : ℕ → ℕ → Option ℕ → List ℕ → Result ℕ WordError
number_once place most before value = if is_some before then refused Repeated place else number_at (place + 1) most value

-- the option at a place with its value: steps are 1 to 4,000,000, workers and jobs 1 to 64
abbrev pub option_value : Opt → ℕ → Said → List ℕ → Result Said WordError
option_value o.Output place said value = next (text_once place said.output value) (λ x. Ok (record said { output = Some x }))
option_value o.Steps place said value = next (number_once place 4_000_000 said.steps value) (λ n. Ok (record said { steps = Some n }))
option_value o.Workers place said value = next (number_once place 64 said.workers value) (λ n. Ok (record said { workers = Some n }))
option_value o.History place said value = next (text_once place said.history value) (λ x. Ok (record said { history = Some x }))
option_value o.Jobs place said value = next (number_once place 64 said.jobs value) (λ n. Ok (record said { jobs = Some n }))

-- the word at a place that begins with `-`, with the word behind it
abbrev pub option_word : Row → ℕ → Said → List ℕ → Option (List ℕ) → Result Said WordError
option_word row place said w behind =
    next (allowed row place (option_named w)) (λ option.
    next (value_word place behind) (λ value.
    option_value option place said value))

-- what a command needs: where it is missing, the place is that behind the last word
abbrev pub needed : {A : Type 0} → ℕ → Option A → Result A WordError
needed place None = refused MissingWord place
needed place (Some x) = Ok x

-- how a program is run: its steps, its workers and the file for its history
abbrev pub run_of : Said → RunOpts
run_of said = record { steps = unwrap_or said.steps 1_000_000; workers = unwrap_or said.workers 2; history = said.history }

-- two words that a command needs
abbrev pub both : ℕ → Option (List ℕ) → Option (List ℕ) → Result (List ℕ × List ℕ) WordError
both place first second = next (needed place first) (λ x. next (needed place second) (λ y. Ok (x, y)))

-- the command, at the end of so many words: what is not written is one job, 1,000,000 steps, two workers and no history
abbrev pub made : Verb → ℕ → Said → Result Command WordError
made v.Check place said = next (needed place said.first) (λ file. Ok (c.Check file (unwrap_or said.jobs 1)))
made v.Emit place said = next (both place said.first said.output) (λ x. Ok (c.Emit x.0 x.1))
made v.Prove place said = next (both place said.first said.output) (λ x. Ok (c.Prove x.0 x.1))
made v.Verify place said = next (both place said.first said.second) (λ x. Ok (c.Verify x.0 x.1))
made v.Fmt place said = next (needed place said.first) (λ file. Ok (c.Fmt file))
made v.Ghost place said = next (needed place said.first) (λ file. Ok (c.Ghost file))
made v.Run place said = next (needed place said.first) (λ file. Ok (c.Run file (run_of said)))
made v.Replay place said = next (both place said.first said.second) (λ x. Ok (c.Replay x.0 x.1))
made v.Go place said = next (both place said.first said.output) (λ x. Ok (c.Go x.0 x.1 (run_of said)))
made v.Bench place said = next (needed place said.count) (λ n. Ok (c.Bench n))
made v.Races place said = next (both place said.first said.second) (λ x. Ok (c.Races x.0 x.1))

-- the words from a place on: an option takes the word behind it too, and a last word has none behind it
abbrev pub from : Verb → ℕ → Said → List (List ℕ) → Result Command WordError
from verb place said [] = made verb place said
from verb place said (w ∷ []) =
    if is_dashed w
    then next (option_word (row_of verb) place said w None) (λ now. made verb (place + 1) now)
    else next (plain_word (row_of verb).plain place said w) (λ now. made verb (place + 1) now)
from verb place said (w ∷ x ∷ rest) =
    if is_dashed w
    then next (option_word (row_of verb) place said w (Some x)) (λ now. from verb (place + 2) now rest)
    else next (plain_word (row_of verb).plain place said w) (λ now. from verb (place + 1) now (x ∷ rest))

-- the words behind the first
abbrev pub behind : Option Verb → List (List ℕ) → Result Command WordError
behind None rest = refused UnknownCommand 0
behind (Some verb) rest = from verb 1 nothing rest

-- the command that the words give, or the first wrong word
abbrev pub command_of : List (List ℕ) → Result Command WordError
command_of [] = refused NoCommand 0
command_of (w ∷ rest) = behind (verb_named w) rest

-- what an answer says: what is told, want of memory aside
abbrev pub Tells : {A : Type 0} → Result A WordError → Result A WordError → Type 0
Tells (Err e.Memory) told = Unit {0}
Tells (Err (e.Usage kind place)) told = told ≡ Err (e.Usage kind place)
Tells (Ok x) told = told ≡ Ok x
