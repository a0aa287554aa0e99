-- What a call of the program promises.
use Rattle.std.specs.Prelude.{◌≡◌, ◌≢◌, ◌≤◌, ◌<◌, ◌↔◌, ◌⊎◌, ⊤, ℕ, ℤ, List, [], ◌∷◌, ◌++◌, true, length, Option, Some, Result, Ok, Err, IfOk, OnErr}
use Rattle.std.specs.Io.KnownBytes.{Appends}
use Rattle.pl_base.specs.declared.pos.Pos.{Pos}
use Rattle.pl_base.specs.declared.pos.Memory.{Memory}
use Rattle.pl_base.specs.Outside.{Files, KeepsOthers, file_in}
use Rattle.pl_syntax.specs.Tree.{Program}
use Rattle.pl_files.specs.declared.error.FileError.{FileError}
use Rattle.pl_files.specs.declared.error.FileError.TheVariants as file
use Rattle.pl_files.specs.Files.{IsFile}
use Rattle.pl_walk.specs.declared.walk.Duty.{Duty}
use Rattle.pl_words.specs.declared.command.Command.{Command}
use Rattle.pl_words.specs.declared.command.Command.TheVariants as c
use Rattle.pl_words.specs.declared.command.RunOpts.{RunOpts}
use Rattle.pl_words.specs.declared.command.WordError.{WordError}
use Rattle.pl_words.specs.declared.command.WordError.TheVariants as e
use Rattle.c_syntax.specs.Tree as tree
use Rattle.c_meaning.specs.Events.{State}
use Rattle.c_meaning.specs.Steps.{Replay}
use Rattle.c_meaning.specs.declared.action.History.{History}
use Rattle.pl_top.specs.declared.fetch.Fault.{Fault}
use Rattle.pl_top.specs.Telling.{whole, Takes, Reads, Put, AllPut, AppendsPart, Untouched, is_in, HasCauses}
use Rattle.pl_top.specs.Lines.{usage_line}
use Rattle.pl_top.specs.Input.{input_of}
use Rattle.pl_top.specs.Judging.{Outcome, says, IsAccepted, IsUndone, IsNotBuilt, IsUnread, IsUnparsed, file_status, IsEmitted, put_text, put_history, IsCOf, IsNoC, IsHistoryOf, IsNoHistory, Ran, status_of, most_source, most_text, Judged}

-- one of these outcomes came about: exactly its files were put, and exactly its text was written
pub record CameTo (IsOutcome : Outcome → Type 0) (files files' : Option Files) (out out' : Option (List ℕ)) (status : ℕ) : Type 0 where
  pub outcome : Outcome
  pub judged : IsOutcome outcome
  pub status_is : outcome.status ≡ status
  pub delivered : AllPut outcome.puts files files'
  pub written : Appends out out' outcome.text

-- the command was answered
abbrev pub Answered : Command → Option Files → Option Files → Option (List ℕ) → Option (List ℕ) → Option (List ℕ) → Option (List ℕ) → ℕ → Type 0
Answered command files files' told left out out' status = CameTo (Judged command files told left) files files' out out' status

-- ---- where something outside fails, or memory is wanted

-- the source file has this C program
pub record EmitsTo (name : List ℕ) (files : Option Files) (program : tree.Program) : Type 0 where
  pub bytes : List ℕ
  pub takes : Takes files name most_source (whole bytes)
  pub emitted : IsEmitted bytes program

-- the file is the text of this C program
pub record HasC (name : List ℕ) (files : Option Files) (program : tree.Program) : Type 0 where
  pub bytes : List ℕ
  pub takes : Takes files name most_text (whole bytes)
  pub is : IsCOf bytes program

-- the input has these numbers
pub record HasNumbers (told : Option (List ℕ)) (numbers : List ℤ) : Type 0 where
  pub bytes : List ℕ
  pub left : Option (List ℕ)
  pub reads : Reads told left 1048576 (whole bytes)
  pub are : input_of bytes ≡ Ok numbers

-- the files that a command puts, in order, as far as it came: none, then its C, then the history of a run of that
pub data Begins : Command → Option Files → Option (List ℕ) → List Put → Type 0 where
  none : {command : Command} {files : Option Files} {told : Option (List ℕ)} → Begins command files told []
  emit_text : {source name : List ℕ} {files : Option Files} {told : Option (List ℕ)} (program : tree.Program) → EmitsTo source files program → Begins (c.Emit source name) files told (put_text name program ∷ [])
  go_text : {source name : List ℕ} {opts : RunOpts} {files : Option Files} {told : Option (List ℕ)} (program : tree.Program) (numbers : List ℤ) → EmitsTo source files program → HasNumbers told numbers → Begins (c.Go source name opts) files told (put_text name program ∷ [])
  go_history : {source name : List ℕ} {opts : RunOpts} {files : Option Files} {told : Option (List ℕ)} (program : tree.Program) (numbers : List ℤ) → EmitsTo source files program → HasNumbers told numbers → (r : Ran program numbers opts) → Begins (c.Go source name opts) files told (put_text name program ∷ put_history opts.history r.events)
  run_history : {name : List ℕ} {opts : RunOpts} {files : Option Files} {told : Option (List ℕ)} (program : tree.Program) (numbers : List ℤ) → HasC name files program → HasNumbers told numbers → (r : Ran program numbers opts) → Begins (c.Run name opts) files told (put_history opts.history r.events)

-- Nothing was written, and some of the files were put, of which the last may have failed: then that file may hold anything.
-- Or all files were put, and a beginning of the text was written
pub data DidPart (CanPut : List Put → Type 0) (IsOutcome : Outcome → Type 0) (files files' : Option Files) (out out' : Option (List ℕ)) : Type 0 where
  put_whole : (puts : List Put) → CanPut puts → AllPut puts files files' → out' ≡ out → DidPart CanPut IsOutcome files files' out out'
  put_failed : (puts : List Put) (last : Put) → CanPut (puts ++ last ∷ []) → (between : Option Files) → AllPut puts files between → KeepsOthers between files' last.name → out' ≡ out → DidPart CanPut IsOutcome files files' out out'
  wrote : (o : Outcome) → IsOutcome o → AllPut o.puts files files' → AppendsPart out out' o.text → DidPart CanPut IsOutcome files files' out out'

-- what was done on the way to this result: one of the outcomes, or a part of one; and nothing where a take or read failed
pub record Did (CanPut : List Put → Type 0) (IsOutcome : Outcome → Type 0) (files files' : Option Files) (out out' : Option (List ℕ)) (result : Result ℕ Fault) : Type 0 where
  pub answered : IfOk result (CameTo IsOutcome files files' out out')
  pub part : OnErr result (DidPart CanPut IsOutcome files files' out out')
  pub untouched : is_in result ≡ true → Untouched files files' out out'

-- the same of a command
abbrev pub DidCommand : Command → Option Files → Option Files → Option (List ℕ) → Option (List ℕ) → Option (List ℕ) → Option (List ℕ) → Result ℕ Fault → Type 0
DidCommand command files files' told left out out' result = Did (Begins command files told) (Judged command files told left) files files' out out' result

-- what the words ask for was done in part
abbrev pub PartDone : Result Command WordError → Option Files → Option Files → Option (List ℕ) → Option (List ℕ) → Option (List ℕ) → Option (List ℕ) → Type 0
PartDone (Ok command) files files' told left out out' = DidPart (Begins command files told) (Judged command files told left) files files' out out'
PartDone (Err (e.Usage kind place)) files files' told left out out' = DidPart (λ puts. puts ≡ []) (λ o. o ≡ says 2 (usage_line kind place)) files files' out out'
PartDone (Err e.Memory) files files' told left out out' = (files' ≡ files) × (out' ≡ out)

-- ---- what the words ask for is answered

-- what is promised of a status other than 4, 5 and 6, by what the words ask for
abbrev pub Promised : Result Command WordError → Option Files → Option Files → Option (List ℕ) → Option (List ℕ) → Option (List ℕ) → Option (List ℕ) → ℕ → Type 0
Promised (Ok command) files files' told left out out' status = Answered command files files' told left out out' status
Promised (Err (e.Usage kind place)) files files' told left out out' status = (status ≡ 2) × (files' ≡ files) × (left ≡ told) × Appends out out' (usage_line kind place)
Promised (Err e.Memory) files files' told left out out' status = ⊥

-- ---- each status by its cause

-- a source file, or an input, isn't too long; and a text of C, or a history
abbrev pub IsShort : List ℕ → Type 0
IsShort bytes = length bytes ≤ 1048576

abbrev pub IsShortText : List ℕ → Type 0
IsShortText bytes = length bytes ≤ 268435456

-- the file is refused: it isn't read, for a reason that is no limit, or a form of it isn't built
abbrev pub IsRefused : List ℕ → Type 0
IsRefused bytes = ((error : FileError) × IsUnread bytes error × (file_status error ≡ 3)) ⊎ ((place : Pos) × IsNotBuilt bytes place)

-- the file has more declarations than may be
abbrev pub HasTooMany : List ℕ → Type 0
HasTooMany bytes = (place : Pos) × IsUnread bytes (file.TooMany place)

-- each status of `check` and of `emit` comes exactly by its cause in the file's bytes
pub record IsExact (bytes : List ℕ) (status : ℕ) : Type 0 where
  pub accepted : (status ≡ 0) ↔ (IsShort bytes × IsAccepted bytes)
  pub undone : (status ≡ 1) ↔ (IsShort bytes × ((place : Pos) × (duty : Duty) × IsUndone bytes place duty))
  pub refused : (status ≡ 3) ↔ (IsShort bytes × IsRefused bytes)
  pub too_large : (status ≡ 10) ↔ ((1048576 < length bytes) ⊎ HasTooMany bytes)

-- each status of `fmt` comes exactly by its cause in the file's bytes
pub record IsExactFmt (bytes : List ℕ) (status : ℕ) : Type 0 where
  pub formatted : (status ≡ 0) ↔ (IsShort bytes × ((program : Program) × IsFile bytes program))
  pub refused : (status ≡ 3) ↔ (IsShort bytes × ((error : FileError) × IsUnparsed bytes error × (file_status error ≡ 3)))
  pub too_large : (status ≡ 10) ↔ ((1048576 < length bytes) ⊎ ((place : Pos) × IsUnparsed bytes (file.TooMany place)))

-- the input's text is refused
abbrev pub HasNoNumbers : List ℕ → Type 0
HasNoNumbers input = (n : ℕ) × (input_of input ≡ Err n)

-- a status of `go`: a run is one of a file that is accepted, and ends neither by a fault nor by a race
pub record IsExactGo (bytes input : List ℕ) (status : ℕ) : Type 0 where
  pub runs : (status ≡ 0) ⊎ ((status ≡ 7) ⊎ (status ≡ 8)) → IsAccepted bytes
  pub undone : (status ≡ 1) ↔ (IsShort bytes × IsShort input × ((place : Pos) × (duty : Duty) × IsUndone bytes place duty))
  pub refused : (status ≡ 3) ↔ (IsShort bytes × IsShort input × (IsRefused bytes ⊎ (IsAccepted bytes × HasNoNumbers input)))
  pub too_large : (1048576 < length bytes) ⊎ ((1048576 < length input) ⊎ HasTooMany bytes) → status ≡ 10
  pub never : status ≢ 9

-- the status is that of the end of a run of the C on the input's numbers
pub record HasRun (bytes : List ℕ) (opts : RunOpts) (input : List ℕ) (status : ℕ) : Type 0 where
  pub program : tree.Program
  pub is : IsCOf bytes program
  pub numbers : List ℤ
  pub are : input_of input ≡ Ok numbers
  pub run : Ran program numbers opts
  pub status_is : status ≡ status_of run.ends

-- a status of `run`: one of a text that is refused, of too long a file or input, or of an end
pub record IsExactRun (bytes : List ℕ) (opts : RunOpts) (input : List ℕ) (status : ℕ) : Type 0 where
  pub refused : (status ≡ 3) ↔ (IsShortText bytes × IsShort input × (IsNoC bytes ⊎ HasNoNumbers input))
  pub too_long : (268435456 < length bytes) ⊎ (1048576 < length input) → status ≡ 10
  pub runs : IsShortText bytes → IsShort input → status ≢ 3 → HasRun bytes opts input status

-- the C, the history and the input are read
pub record AreRead (bytes events input : List ℕ) (program : tree.Program) (history : History) (numbers : List ℤ) : Type 0 where
  pub is : IsCOf bytes program
  pub history_is : IsHistoryOf events history
  pub are : input_of input ≡ Ok numbers

-- all three are read, and the history is one of a run; and the same where it isn't
abbrev pub Follows : List ℕ → List ℕ → List ℕ → Type 0
Follows bytes events input = (program : tree.Program) × (history : History) × (numbers : List ℤ) × AreRead bytes events input program history numbers × ((last : State) × Replay program numbers history.events last)

abbrev pub Differs : List ℕ → List ℕ → List ℕ → Type 0
Differs bytes events input = (program : tree.Program) × (history : History) × (numbers : List ℤ) × AreRead bytes events input program history numbers × ((last : State) → Replay program numbers history.events last → ⊥)

-- none of the three is too long
abbrev pub AreShort : List ℕ → List ℕ → List ℕ → Type 0
AreShort bytes events input = IsShortText bytes × IsShortText events × IsShort input

-- each status of `replay` comes exactly by its cause in the bytes of the C, of the history and of the input
pub record IsExactReplay (bytes events input : List ℕ) (status : ℕ) : Type 0 where
  pub follows : (status ≡ 0) ↔ (AreShort bytes events input × Follows bytes events input)
  pub differs : (status ≡ 1) ↔ (AreShort bytes events input × Differs bytes events input)
  pub refused : (status ≡ 3) ↔ (AreShort bytes events input × (IsNoC bytes ⊎ (IsNoHistory events ⊎ HasNoNumbers input)))
  pub too_long : (status ≡ 10) ↔ ((268435456 < length bytes) ⊎ ((268435456 < length events) ⊎ (1048576 < length input)))

-- where the files and the input are told, so does each status of what the words ask for
abbrev pub IsExactFor : Result Command WordError → Option Files → Option (List ℕ) → ℕ → Type 0
IsExactFor (Ok (c.Check source jobs)) (Some files) told status = (bytes : List ℕ) → file_in source files ≡ Some bytes → IsExact bytes status
IsExactFor (Ok (c.Fmt source)) (Some files) told status = (bytes : List ℕ) → file_in source files ≡ Some bytes → IsExactFmt bytes status
IsExactFor (Ok (c.Emit source name)) (Some files) told status = (bytes : List ℕ) → file_in source files ≡ Some bytes → IsExact bytes status
IsExactFor (Ok (c.Go source name opts)) (Some files) (Some input) status = (bytes : List ℕ) → file_in source files ≡ Some bytes → IsExactGo bytes input status
IsExactFor (Ok (c.Run name opts)) (Some files) (Some input) status = (bytes : List ℕ) → file_in name files ≡ Some bytes → IsExactRun bytes opts input status
IsExactFor (Ok (c.Replay name history)) (Some files) (Some input) status = (bytes events : List ℕ) → file_in name files ≡ Some bytes → file_in history files ≡ Some events → IsExactReplay bytes events input status
IsExactFor (Err (e.Usage kind place)) files told status = status ≡ 2
IsExactFor _ _ _ _ = ⊤

-- ---- what both calls for a command promise

pub record CommandKeeps (command : Command) (files files' : Option Files) (told left out out' : Option (List ℕ)) (in_before in_now out_before out_now : ℕ) (result : Result ℕ Memory) : Type 0 where
  pub answered : IfOk result (λ s. s ≢ 4 → s ≢ 5 → Answered command files files' told left out out' s)
  pub exact : IfOk result (λ s. s ≢ 4 → s ≢ 5 → IsExactFor (Ok command) files told s)
  pub part : PartDone (Ok command) files files' told left out out'
  pub untouched : IfOk result (λ s. s ≡ 4 → Untouched files files' out out')
  pub causes : IfOk result (λ s. HasCauses s in_before in_now out_before out_now)
  pub memory : OnErr result ((in_now ≡ in_before) × (out_now ≡ out_before))
