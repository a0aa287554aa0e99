-- What the code plans by what files and an input gave, and what comes of it.
use Rattle.std.specs.Prelude.{◌≡◌, ◌⊎◌, ℕ, ℤ, List, [], ◌∷◌, Option, length}
use Rattle.pl_base.specs.Outside.{Files, KeepsOthers}
use Rattle.pl_words.specs.declared.command.RunOpts.{RunOpts}
use Rattle.c_syntax.specs.Tree.{Program}
use Rattle.c_syntax.specs.Plain.{plain_program}
use Rattle.c_syntax.specs.Text.{program_text}
use Rattle.c_syntax.specs.Fragment.{IsFragment}
use Rattle.c_meaning.specs.declared.action.Event.{Event}
use Rattle.c_history.specs.declared.replaying.Replayed.{Replayed}
use Rattle.c_history.specs.Replays.{Tells}
use Rattle.pl_syntax.specs.Tree as t
use Rattle.pl_erase.specs.Emitted.{emitted}
use Rattle.pl_top.specs.Telling.{Put}
use Rattle.pl_top.specs.Judging.{Outcome, IsEmitted, IsReadable, put_history, Ran, ran, behind, replayed}
use Rattle.pl_top.specs.Runs.{IsSafe}
use Rattle.pl_top.specs.declared.emit.Emitted.{Emitted}

-- a file's program and the text of that
pub record IsProgramOf (bytes : List ℕ) (e : Emitted) : Type 0 where
  pub program : IsEmitted bytes (plain_program e.program)
  pub text : e.text.items ≡ program_text (plain_program e.program)
  pub safe : IsSafe (plain_program e.program)

-- the C program of a program, and the text of that
pub record IsEmission (p : t.Program) (e : Emitted) : Type 0 where
  pub is : plain_program e.program ≡ emitted p
  pub fragment : IsFragment (plain_program e.program)
  pub text : e.text.items ≡ program_text (plain_program e.program)

-- what a run puts and says
abbrev pub IsRunOf : Program → List ℤ → RunOpts → Outcome → Type 0
IsRunOf program numbers opts o = (r : Ran program numbers opts) × (o ≡ ran r)

-- the files that it puts, as far as it came
pub data CanPut (program : Program) (numbers : List ℤ) (opts : RunOpts) : List Put → Type 0 where
  not_yet : CanPut program numbers opts []
  history_put : (r : Ran program numbers opts) → CanPut program numbers opts (put_history opts.history r.events)

-- the same where a file is put before
pub data Behind (p : Put) (CanPut : List Put → Type 0) : List Put → Type 0 where
  first : Behind p CanPut (p ∷ [])
  more : (puts : List Put) → CanPut puts → Behind p CanPut (p ∷ puts)

abbrev pub IsBehind : Put → (Outcome → Type 0) → Outcome → Type 0
IsBehind p IsOutcome o = (said : Outcome) × IsOutcome said × (o ≡ behind p said)

-- the first of these files was not put, and may hold anything
abbrev pub FirstFailed : List Put → Option Files → Option Files → Type 0
FirstFailed [] files files' = files' ≡ files
FirstFailed (p ∷ ps) files files' = KeepsOthers files files' p.name

-- the history could not be put: nothing was done, or its file may hold anything
abbrev pub HistoryFailed : Option (List ℕ) → List Event → Option Files → Option Files → Type 0
HistoryFailed name events files files' = (files' ≡ files) ⊎ (IsReadable name events × FirstFailed (put_history name events) files files')

-- what is said of a replay
abbrev pub IsReplayOf : Program → List ℤ → List Event → Outcome → Type 0
IsReplayOf program numbers events o = (answer : Replayed) × Tells program numbers events answer × (o ≡ replayed (length events) answer)
