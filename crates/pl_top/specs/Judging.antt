-- What a command does where nothing outside fails and memory is enough.
use Rattle.std.specs.Prelude.{◌≡◌, ℕ, ◌+◌, ℤ, List, [], ◌∷◌, ◌++◌, Option, Some, None, Ok, Err, length}
use Rattle.pl_base.specs.declared.pos.Pos.{Pos}
use Rattle.pl_base.specs.Outside.{Files}
use Rattle.pl_syntax.specs.Tree.{FunDecl, Program}
use Rattle.pl_syntax.specs.Unbuilt.{first_unbuilt}
use Rattle.pl_files.specs.declared.error.FileError.{FileError}
use Rattle.pl_files.specs.declared.error.FileError.TheVariants as file
use Rattle.pl_files.specs.Files.{IsFile, IsTypedFile, NoFile, NoTypedFile}
use Rattle.pl_print.specs.ProgramText as canonical
use Rattle.pl_walk.specs.declared.walk.Duty.{Duty}
use Rattle.pl_walk.specs.Walk.{Undone, AllDone}
use Rattle.pl_source.specs.Good.{Good}
use Rattle.pl_erase.specs.Emitted.{emitted, program_of}
use Rattle.pl_laws.specs.SameRuns.{SameRuns}
use Rattle.pl_words.specs.declared.command.Command.{Command}
use Rattle.pl_words.specs.declared.command.Command.TheVariants as c
use Rattle.pl_words.specs.declared.command.RunOpts.{RunOpts}
use Rattle.pl_lexer.specs.Proper.{IsName}
use Rattle.c_syntax.specs.Tree as tree
use Rattle.c_syntax.specs.Text.{program_text}
use Rattle.c_syntax.specs.Fragment.{IsText}
use Rattle.c_reader.specs.Reads.{IsFirstWrong}
use Rattle.c_meaning.specs.declared.action.Event.{Event}
use Rattle.c_meaning.specs.declared.action.History.{History}
use Rattle.c_runner.specs.declared.run_end.RunEnd.{RunEnd}
use Rattle.c_runner.specs.declared.run_end.RunEnd.TheVariants as end
use Rattle.c_runner.specs.Runs.{IsRun, IsRuled}
use Rattle.c_history.specs.Text.{history_text}
use Rattle.c_history.specs.Bounds.{IsWithin}
use Rattle.c_history.specs.Lines.{IsTextOf, IsRefusedLine}
use Rattle.c_history.specs.Replays.{Tells}
use Rattle.c_history.specs.declared.replaying.Replayed.{Replayed}
use Rattle.c_history.specs.declared.replaying.Replayed.TheVariants as replay
use Rattle.pl_top.specs.Telling.{whole, long, Takes, Reads, Put}
use Rattle.pl_top.specs.Lines.{accepted, file_line, not_built_line, limit_file, limit_input, duty_line, c_line, history_line, input_line, outputs_text, end_line, follows_line, differs_line}
use Rattle.pl_top.specs.Input.{input_of}

-- the status of a command, the files that it puts, in order, and the text that it then prints
pub record Outcome : Type 0 where
  pub status : ℕ
  pub puts : List Put
  pub text : List ℕ

-- no file is put
abbrev pub says : ℕ → List ℕ → Outcome
says status text = record { status = status; puts = []; text = text }

-- ---- files

-- the bytes are a typed file with this function and nothing else, of which all forms are built
pub record IsFileOf (bytes : List ℕ) (main : FunDecl) : Type 0 where
  pub file : IsTypedFile bytes (program_of main)
  pub only : (program : Program) → IsTypedFile bytes program → program ≡ program_of main
  pub built : first_unbuilt (program_of main) ≡ None

-- no duty of the file is left undone, and then the program is good: no run of it faults or races
pub record IsAccepted (bytes : List ℕ) : Type 0 where
  pub main : FunDecl
  pub file : IsFileOf bytes main
  pub done : AllDone main
  pub good : Good main

-- this duty of the file is the first that is left undone
pub record IsUndone (bytes : List ℕ) (place : Pos) (duty : Duty) : Type 0 where
  pub main : FunDecl
  pub file : IsFileOf bytes main
  pub undone : Undone main place duty

-- the bytes are a typed file, whose first form that isn't built stands there
pub record IsNotBuilt (bytes : List ℕ) (place : Pos) : Type 0 where
  pub program : Program
  pub file : IsTypedFile bytes program
  pub first : first_unbuilt program ≡ Some place

-- a reason that lies in the file: want of memory is none
abbrev pub IsReason : FileError → Type 0
IsReason file.Memory = ⊥
IsReason _ = Unit {0}

-- the bytes are no typed file, for this reason
pub record IsUnread (bytes : List ℕ) (error : FileError) : Type 0 where
  pub reason : IsReason error
  pub why : NoTypedFile bytes error
  pub none : (program : Program) → IsTypedFile bytes program → ⊥

-- the same before types: the bytes are no file
pub record IsUnparsed (bytes : List ℕ) (error : FileError) : Type 0 where
  pub reason : IsReason error
  pub why : NoFile bytes error
  pub none : (program : Program) → IsFile bytes program → ⊥

-- too many declarations pass a limit; for all other reasons the file is refused
abbrev pub file_status : FileError → ℕ
file_status (file.TooMany place) = 10
file_status _ = 3

-- what is said of a file that isn't read
abbrev pub says_why : FileError → Outcome
says_why error = says (file_status error) (file_line error)

-- A file that isn't accepted is refused: it isn't read, or a form of it isn't built, or a duty of it is left undone
pub data Refuses (bytes : List ℕ) : Outcome → Type 0 where
  is_unread : (error : FileError) → IsUnread bytes error → Refuses bytes (says_why error)
  is_not_built : (place : Pos) → IsNotBuilt bytes place → Refuses bytes (says 3 (not_built_line place))
  is_undone : (place : Pos) (duty : Duty) → IsUndone bytes place duty → Refuses bytes (says 1 (duty_line place duty))

-- ---- the C of a file

-- the file is accepted, and its C program has the same runs, and a text that is read
pub record IsEmitted (bytes : List ℕ) (program : tree.Program) : Type 0 where
  pub accepted : IsAccepted bytes
  pub is : program ≡ emitted (program_of accepted.main)
  pub text : IsText IsName (program_text program) program
  pub same : SameRuns accepted.main program

abbrev pub put : List ℕ → List ℕ → Put
put name bytes = record { name = name; bytes = bytes }

-- the C text is put into its file
abbrev pub put_text : List ℕ → tree.Program → Put
put_text name program = put name (program_text program)

-- ---- texts of C, histories and inputs

-- the bytes are the text of this program of the C fragment, and of no other
pub record IsCOf (bytes : List ℕ) (program : tree.Program) : Type 0 where
  pub text : IsText IsName bytes program
  pub only : (other : tree.Program) → IsText IsName bytes other → other ≡ program

-- the bytes are no text of the C fragment
abbrev pub IsNoC : List ℕ → Type 0
IsNoC bytes = (program : tree.Program) → IsText IsName bytes program → ⊥

-- a text of C is refused at its first wrong byte
pub data RefusesC (bytes : List ℕ) : Outcome → Type 0 where
  is_no_c : IsNoC bytes → (n : ℕ) → IsFirstWrong bytes n → RefusesC bytes (says 3 (c_line n))

-- the bytes are the text of this history, and of no other
pub record IsHistoryOf (bytes : List ℕ) (history : History) : Type 0 where
  pub text : IsTextOf history bytes
  pub only : (other : History) → IsTextOf other bytes → other ≡ history

-- the bytes are no text of a history
abbrev pub IsNoHistory : List ℕ → Type 0
IsNoHistory bytes = (history : History) → IsTextOf history bytes → ⊥

-- the text of a history is refused at its first line that no history has
pub data RefusesHistory (bytes : List ℕ) : Outcome → Type 0 where
  is_no_history : IsNoHistory bytes → (n : ℕ) → IsRefusedLine bytes n → RefusesHistory bytes (says 3 (history_line n))

-- the text of an input is refused at its first line that is no number
pub data RefusesInput (bytes : List ℕ) : Outcome → Type 0 where
  is_no_input : (n : ℕ) → input_of bytes ≡ Err n → RefusesInput bytes (says 3 (input_line n))

-- ---- runs

-- a history that is put is within the bounds of histories: it is read again
abbrev pub IsReadable : Option (List ℕ) → List Event → Type 0
IsReadable None events = Unit {0}
IsReadable (Some name) events = IsWithin (record { events = events })

-- a run of the program on these numbers
pub record Ran (program : tree.Program) (numbers : List ℤ) (opts : RunOpts) : Type 0 where
  pub events : List Event
  pub ends : RunEnd
  pub run : IsRun program numbers opts.steps events ends
  -- one worker does the events by the rule for the next thread
  pub ruled : opts.workers ≡ 1 → IsRuled program numbers opts.steps events
  pub readable : IsReadable opts.history events

-- an end that is neither a race nor a fault
abbrev pub IsSafeEnd : RunEnd → Type 0
IsSafeEnd (end.Race s t cell) = ⊥
IsSafeEnd (end.CFault t f) = ⊥
IsSafeEnd _ = Unit {0}

abbrev pub status_of : RunEnd → ℕ
status_of end.Ended = 0
status_of (end.Race s t cell) = 9
status_of (end.CFault t f) = 9
status_of end.Deadlock = 7
status_of end.ThreadLimit = 10
status_of end.StepBound = 8

-- the history is put into its file, if there is one
abbrev pub put_history : Option (List ℕ) → List Event → List Put
put_history None events = []
put_history (Some name) events = put name (history_text (record { events = events })) ∷ []

-- a run's history is put, and its outputs are printed, one a line, and then the line of its end
abbrev pub ran : {program : tree.Program} {numbers : List ℤ} {opts : RunOpts} → Ran program numbers opts → Outcome
ran {program} {numbers} {opts} r = record {
  status = status_of r.ends;
  puts = put_history opts.history r.events;
  text = outputs_text r.run.last.world.outputs ++ end_line (length r.events) r.ends;
}

-- the same with a file that is put before
abbrev pub behind : Put → Outcome → Outcome
behind p o = record o { puts = p ∷ o.puts }

-- what is said of a replay of so many events
abbrev pub replayed : ℕ → Replayed → Outcome
replayed n replay.Follows = says 0 (follows_line n)
replayed n (replay.Differs k expected found) = says 1 (differs_line k expected found)

-- ---- commands, by what they were given

-- `check`
pub data JudgesCheck (bytes : List ℕ) : Outcome → Type 0 where
  checked : IsAccepted bytes → JudgesCheck bytes (says 0 accepted)
  not_checked : (o : Outcome) → Refuses bytes o → JudgesCheck bytes o

-- `fmt`
pub data JudgesFmt (bytes : List ℕ) : Outcome → Type 0 where
  formats : (program : Program) → IsFile bytes program → JudgesFmt bytes (says 0 (canonical.program_text program))
  not_formatted : (error : FileError) → IsUnparsed bytes error → JudgesFmt bytes (says_why error)

-- `emit` to the file of that name
pub data JudgesEmit (bytes name : List ℕ) : Outcome → Type 0 where
  emits : (program : tree.Program) → IsEmitted bytes program → JudgesEmit bytes name (behind (put_text name program) (says 0 accepted))
  not_emitted : (o : Outcome) → Refuses bytes o → JudgesEmit bytes name o

-- `go`, with the C in the file of that name. The input's text is looked at where the file is accepted
pub data JudgesGo (bytes name : List ℕ) (opts : RunOpts) (input : List ℕ) : Outcome → Type 0 where
  goes : (program : tree.Program) → IsEmitted bytes program → (numbers : List ℤ) → input_of input ≡ Ok numbers → (r : Ran program numbers opts) → IsSafeEnd r.ends → JudgesGo bytes name opts input (behind (put_text name program) (ran r))
  no_numbers : IsAccepted bytes → (o : Outcome) → RefusesInput input o → JudgesGo bytes name opts input o
  not_gone : (o : Outcome) → Refuses bytes o → JudgesGo bytes name opts input o

-- `run` of a text of C. The input's text is looked at where the C is of the fragment
pub data JudgesRun (bytes : List ℕ) (opts : RunOpts) (input : List ℕ) : Outcome → Type 0 where
  runs : (program : tree.Program) → IsCOf bytes program → (numbers : List ℤ) → input_of input ≡ Ok numbers → (r : Ran program numbers opts) → JudgesRun bytes opts input (ran r)
  run_no_numbers : (program : tree.Program) → IsCOf bytes program → (o : Outcome) → RefusesInput input o → JudgesRun bytes opts input o
  not_run : (o : Outcome) → RefusesC bytes o → JudgesRun bytes opts input o

-- `replay` of a history on a text of C: first the C is looked at, then the history, then the input
pub data JudgesReplay (bytes events input : List ℕ) : Outcome → Type 0 where
  replays : (program : tree.Program) → IsCOf bytes program → (history : History) → IsHistoryOf events history → (numbers : List ℤ) → input_of input ≡ Ok numbers → (answer : Replayed) → Tells program numbers history.events answer → JudgesReplay bytes events input (replayed (length history.events) answer)
  replay_no_numbers : (program : tree.Program) → IsCOf bytes program → (history : History) → IsHistoryOf events history → (o : Outcome) → RefusesInput input o → JudgesReplay bytes events input o
  no_history : (program : tree.Program) → IsCOf bytes program → (o : Outcome) → RefusesHistory events o → JudgesReplay bytes events input o
  not_replayed : (o : Outcome) → RefusesC bytes o → JudgesReplay bytes events input o

-- ---- commands, by what they take and read

-- the most bytes of a source file, and of a text of C or a history
abbrev pub most_source : ℕ
most_source = 1048576

abbrev pub most_text : ℕ
most_text = 268435456

-- What comes of a file that is taken. Where it has more bytes than may be, nothing else is looked at
pub data OfFile (files : Option Files) (name : List ℕ) (most : ℕ) (told left : Option (List ℕ)) (Judges : List ℕ → Outcome → Type 0) : Outcome → Type 0 where
  too_long : Takes files name most long → left ≡ told → OfFile files name most told left Judges (says 10 (limit_file (most + 1)))
  taken : (bytes : List ℕ) → Takes files name most (whole bytes) → (o : Outcome) → Judges bytes o → OfFile files name most told left Judges o

-- the same of the input
pub data OfInput (told left : Option (List ℕ)) (Judges : List ℕ → Outcome → Type 0) : Outcome → Type 0 where
  input_too_long : Reads told left 1048576 long → OfInput told left Judges (says 10 limit_input)
  read : (bytes : List ℕ) → Reads told left 1048576 (whole bytes) → (o : Outcome) → Judges bytes o → OfInput told left Judges o

-- what a command does where the files and the input are told so, and what is left of the input. First the files are taken, in
-- the order of the words, then the input is read, and then their texts are looked at
abbrev pub Judged : Command → Option Files → Option (List ℕ) → Option (List ℕ) → Outcome → Type 0
Judged (c.Check source jobs) files told left o = OfFile files source most_source told left (λ bytes said. (left ≡ told) × JudgesCheck bytes said) o
Judged (c.Fmt source) files told left o = OfFile files source most_source told left (λ bytes said. (left ≡ told) × JudgesFmt bytes said) o
Judged (c.Emit source name) files told left o = OfFile files source most_source told left (λ bytes said. (left ≡ told) × JudgesEmit bytes name said) o
Judged (c.Go source name opts) files told left o = OfFile files source most_source told left (λ bytes. OfInput told left (JudgesGo bytes name opts)) o
Judged (c.Run name opts) files told left o = OfFile files name most_text told left (λ bytes. OfInput told left (JudgesRun bytes opts)) o
Judged (c.Replay name history) files told left o = OfFile files name most_text told left (λ bytes. OfFile files history most_text told left (λ events. OfInput told left (JudgesReplay bytes events))) o
Judged _ files told left o = ⊥
