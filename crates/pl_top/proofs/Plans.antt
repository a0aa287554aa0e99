-- From what is found in files and an input to what is done.
use Rattle.std.proofs.Common.{◌≡◌, ℕ, ℤ, List, ◌++◌, ◌<◌, ◌≤◌, ◌-◌, ◌^◌, length, refl, sym, ap, ◌∙◌, subst, arith}
use Rattle.std.specs.Prelude.{Ok, Err, flat_map}
use Rattle.std.specs.List.{AllByRecursion}
use Rattle.std.proofs.lemmas.List.{length-append}
use Rattle.pl_syntax.specs.Tree as t
use Rattle.pl_files.specs.Files.{IsFile}
use Rattle.pl_files.specs.Names.{program_names}
use Rattle.pl_walk.proofs.WalkLaws.{all_done_derives}
use Rattle.pl_erase.specs.Emitted.{emitted, program_of}
use Rattle.pl_laws.specs.SameRuns.{SameRuns}
use Rattle.pl_laws.proofs.SameLaws.{same_runs, sound}
use Rattle.pl_lexer.specs.Proper.{IsName}
use Rattle.c_syntax.specs.Tree.{Program}
use Rattle.c_syntax.specs.Plain.{plain_program}
use Rattle.c_syntax.specs.Fragment.{IsText}
use Rattle.c_syntax.specs.Names.{ProgramNames}
use Rattle.c_reader.specs.Reads.{IsFirstWrong}
use Rattle.c_meaning.specs.declared.action.History.{History}
use Rattle.c_history.specs.Text.{first_line, last_line, event_line, history_text}
use Rattle.c_history.specs.Bounds.{IsWithin}
use Rattle.c_history.specs.Lines.{IsTextOf, IsRefusedLine}
use Rattle.c_history.specs.Replays.{Tells}
use Rattle.c_history.specs.declared.replaying.Replayed.{Replayed}
use Rattle.c_history.proofs.LineLaws.{lines_long, never_refused, one_history}
use Rattle.pl_words.specs.declared.command.RunOpts.{RunOpts}
use Rattle.pl_top.specs.Input.{input_of}
use Rattle.pl_top.specs.Lines.{c_line, history_line, input_line}
use Rattle.pl_top.specs.Judging.{Outcome, says, Refuses, IsCOf, RefusesC, is_no_c, IsHistoryOf, RefusesHistory, is_no_history, RefusesInput, is_no_input, JudgesGo, no_numbers, not_gone, JudgesRun, run_no_numbers, not_run, JudgesReplay, replays, replay_no_numbers, no_history, not_replayed, replayed}
use Rattle.pl_top.specs.Checks.{said, IfRefused, AcceptedAs}
use Rattle.pl_top.specs.Runs.{IsSafe}
use Rattle.pl_top.specs.Goes.{IsEmission, IsProgramOf, IsReplayOf}
use Rattle.pl_top.specs.declared.judge.PlanError.{PlanError}
use Rattle.pl_top.specs.declared.judge.PlanError.TheVariants.{Refused, Memory}
use Rattle.pl_top.specs.declared.emit.Emitted.{Emitted}
use Rattle.pl_top.proofs.NamesRead.{program_named}

-- what is said of a text is said in a wider sense
pub refused_wider : (e : PlanError) (P Q : Outcome → Type 0) → ((o : Outcome) → P o → Q o) → IfRefused e P → IfRefused e Q
refused_wider (Refused answer) P Q f h = f (said answer) h
refused_wider Memory P Q f h = tt

-- the C program of a file that is accepted
pub emission_is : (bytes : List ℕ) (p : t.Program) (e : Emitted) → AcceptedAs bytes p → IsEmission p e → ((bs : List ℕ) (q : t.Program) → IsFile bs q → AllByRecursion IsName (program_names q)) → IsProgramOf bytes e
emission_is bytes p e x h proper =
    let main = x.accepted.main in
    let is : plain_program e.program ≡ emitted (program_of main) = h.is ∙ ap emitted x.is in
    let derives = all_done_derives main x.accepted.done in
    record {
      program = record {
        accepted = x.accepted;
        is = is;
        text = record { fragment = h.fragment; names = subst (ProgramNames IsName) (sym is) (program_named main x.sorted (proper bytes (program_of main) x.accepted.file.file.file)); text = refl };
        same = subst (SameRuns main) (sym is) (same_runs main x.sorted derives);
      };
      text = h.text;
      safe = subst IsSafe (sym is) (record {
        no_fault = λ input es last r. (sound main x.sorted derives input es last r).0;
        no_race = λ input es last r. (sound main x.sorted derives input es last r).1;
      });
    }

-- ---- texts of C

pub c_is : (bytes : List ℕ) (program : Program) → IsText IsName bytes program → ((p : Program) → IsText IsName bytes p → program ≡ p) → IsCOf bytes program
c_is bytes program text only = record { text = text; only = λ p t. sym (only p t) }

pub c_refused : (bytes : List ℕ) (n : ℕ) (text : List ℕ) → ((p : Program) → IsText IsName bytes p → ⊥) → IsFirstWrong bytes n → text ≡ c_line n → RefusesC bytes (says 3 text)
c_refused bytes n text none first e = subst (λ (l : List ℕ). RefusesC bytes (says 3 l)) (sym e) (is_no_c none n first)

-- ---- histories

pub history_is : (bytes : List ℕ) (h : History) → IsWithin h → bytes ≡ history_text h → IsHistoryOf bytes h
history_is bytes h within text =
    let is : IsTextOf h bytes = record { within = within; text = text } in
    record { text = is; only = λ g t. one_history g h bytes t is }

pub history_refused : (bytes : List ℕ) (n : ℕ) (text : List ℕ) → IsRefusedLine bytes n → text ≡ history_line n → RefusesHistory bytes (says 3 text)
history_refused bytes n text r e = subst (λ (l : List ℕ). RefusesHistory bytes (says 3 l)) (sym e) (is_no_history (λ h t. never_refused bytes n h r t) n r)

-- the text of a history is longer than it has events
pub events_few : (bytes : List ℕ) (h : History) → length bytes ≤ 268435456 → bytes ≡ history_text h → length h.events < 2 ^ 32 - 1
unfolding history_text
events_few bytes h short text =
    omega (arith, short, ap length text, lines_long h.events, length-append first_line (flat_map event_line h.events ++ last_line (length h.events)), length-append (flat_map event_line h.events) (last_line (length h.events)))

-- ---- the input

pub input_refused : (bytes : List ℕ) (n : ℕ) (text : List ℕ) → input_of bytes ≡ Err n → text ≡ input_line n → RefusesInput bytes (says 3 text)
input_refused bytes n text is e = subst (λ (l : List ℕ). RefusesInput bytes (says 3 l)) (sym e) (is_no_input n is)

-- ---- plans

pub go_refused : (bytes input : List ℕ) (e : PlanError) → IfRefused e (Refuses bytes) → (name : List ℕ) (opts : RunOpts) → IfRefused e (JudgesGo bytes name opts input)
go_refused bytes input e h name opts = refused_wider e (Refuses bytes) (JudgesGo bytes name opts input) not_gone h

pub go_no_numbers : (bytes input : List ℕ) (m : Emitted) (e : PlanError) → IsProgramOf bytes m → IfRefused e (RefusesInput input) → (name : List ℕ) (opts : RunOpts) → IfRefused e (JudgesGo bytes name opts input)
go_no_numbers bytes input m e is h name opts = refused_wider e (RefusesInput input) (JudgesGo bytes name opts input) (no_numbers is.program.accepted) h

pub run_refused : (bytes input : List ℕ) (e : PlanError) → IfRefused e (RefusesC bytes) → (opts : RunOpts) → IfRefused e (JudgesRun bytes opts input)
run_refused bytes input e h opts = refused_wider e (RefusesC bytes) (JudgesRun bytes opts input) not_run h

pub run_refused_input : (bytes input : List ℕ) (program : Program) (e : PlanError) → IsCOf bytes program → IfRefused e (RefusesInput input) → (opts : RunOpts) → IfRefused e (JudgesRun bytes opts input)
run_refused_input bytes input program e is h opts = refused_wider e (RefusesInput input) (JudgesRun bytes opts input) (run_no_numbers program is) h

pub replay_refused : (bytes events input : List ℕ) (e : PlanError) → IfRefused e (RefusesC bytes) → IfRefused e (JudgesReplay bytes events input)
replay_refused bytes events input e h = refused_wider e (RefusesC bytes) (JudgesReplay bytes events input) not_replayed h

pub replay_refused_history : (bytes events input : List ℕ) (program : Program) (e : PlanError) → IsCOf bytes program → IfRefused e (RefusesHistory events) → IfRefused e (JudgesReplay bytes events input)
replay_refused_history bytes events input program e is h = refused_wider e (RefusesHistory events) (JudgesReplay bytes events input) (no_history program is) h

pub replay_refused_input : (bytes events input : List ℕ) (program : Program) (history : History) (e : PlanError) → IsCOf bytes program → IsHistoryOf events history → IfRefused e (RefusesInput input) → IfRefused e (JudgesReplay bytes events input)
replay_refused_input bytes events input program history e is history_is h = refused_wider e (RefusesInput input) (JudgesReplay bytes events input) (replay_no_numbers program is history history_is) h

-- what is said of a replay
pub replay_of : (program : Program) (numbers : List ℤ) (history : History) (answer : Replayed) (o : Outcome) → Tells program numbers history.events answer → o ≡ replayed (length history.events) answer → IsReplayOf program numbers history.events o
replay_of program numbers history answer o tells is = (answer, tells, is)

pub replay_said : (bytes events input : List ℕ) (program : Program) (history : History) (ns numbers : List ℤ) (o : Outcome) → IsCOf bytes program → IsHistoryOf events history → input_of input ≡ Ok ns → numbers ≡ ns → IsReplayOf program numbers history.events o → JudgesReplay bytes events input o
replay_said bytes events input program history ns numbers o is history_is are e r =
    let numbers_are : input_of input ≡ Ok numbers = subst (λ (l : List ℤ). input_of input ≡ Ok l) (sym e) are in
    subst (JudgesReplay bytes events input) (sym r.2) (replays program is history history_is numbers numbers_are r.0 r.1)
