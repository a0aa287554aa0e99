-- The statuses of outcomes, and what is told of an answer.
use Rattle.std.proofs.Common.{◌≡◌, ◌≢◌, true, ℕ, List, refl, sym, subst, arith}
use Rattle.std.specs.Prelude.{Option, Result, Ok, Err, IfOk, OnErr}
use Rattle.std.proofs.lemmas.Result.{IfOk-weaker}
use Rattle.pl_base.specs.declared.pos.Memory.{Memory}
use Rattle.pl_base.specs.Outside.{Files, Counts}
use Rattle.pl_words.specs.declared.command.Command.{Command}
use Rattle.pl_words.specs.declared.command.RunOpts.{RunOpts}
use Rattle.pl_words.specs.declared.command.Command.TheVariants.{Check, Emit, Fmt, Run, Replay, Go}
use Rattle.pl_files.specs.declared.error.FileError.{FileError}
use Rattle.pl_files.specs.declared.error.FileError.TheVariants as file
use Rattle.c_runner.specs.declared.run_end.RunEnd.{RunEnd}
use Rattle.c_runner.specs.declared.run_end.RunEnd.TheVariants as end
use Rattle.c_history.specs.declared.replaying.Replayed.{Replayed}
use Rattle.c_history.specs.declared.replaying.Replayed.TheVariants.{Follows, Differs}
use Rattle.pl_top.specs.declared.fetch.Fault.{Fault}
use Rattle.pl_top.specs.declared.fetch.Fault.TheVariants as fault
use Rattle.pl_top.specs.Telling.{Untouched, is_in, is_out, told_of, HasCauses}
use Rattle.pl_top.specs.Judging.{Outcome, file_status, Refuses, is_unread, is_not_built, is_undone, RefusesC, is_no_c, RefusesHistory, is_no_history, RefusesInput, is_no_input, status_of, replayed, JudgesCheck, checked, not_checked, JudgesFmt, formats, not_formatted, JudgesEmit, emits, not_emitted, JudgesGo, goes, no_numbers, not_gone, JudgesRun, runs, run_no_numbers, not_run, JudgesReplay, replays, replay_no_numbers, no_history, not_replayed, OfFile, too_long, taken, OfInput, input_too_long, read, Judged}
use Rattle.pl_top.specs.Calls.{Answered, PartDone, DidCommand, IsExactFor, CommandKeeps}
use Rattle.pl_top.proofs.Delivered.{came_part}
use Rattle.pl_top.proofs.Exact.{answered_exactly}

-- neither a failed take or read nor a failed put or write
abbrev pub IsTold : ℕ → Type 0
IsTold s = (s ≢ 4) × (s ≢ 5)

-- each other status is told
told_0 : IsTold 0
told_0 = ((λ e. omega (arith, e)), (λ e. omega (arith, e)))

told_1 : IsTold 1
told_1 = ((λ e. omega (arith, e)), (λ e. omega (arith, e)))

told_3 : IsTold 3
told_3 = ((λ e. omega (arith, e)), (λ e. omega (arith, e)))

told_10 : IsTold 10
told_10 = ((λ e. omega (arith, e)), (λ e. omega (arith, e)))

file_told : (error : FileError) → IsTold (file_status error)
file_told (file.TooMany place) = told_10
file_told _ = told_3

refuses_told : (bytes : List ℕ) (o : Outcome) → Refuses bytes o → IsTold o.status
refuses_told bytes _ (is_unread error u) = file_told error
refuses_told bytes _ (is_not_built place n) = told_3
refuses_told bytes _ (is_undone place duty u) = told_1

c_told : (bytes : List ℕ) (o : Outcome) → RefusesC bytes o → IsTold o.status
c_told bytes _ (is_no_c none n first) = told_3

history_told : (bytes : List ℕ) (o : Outcome) → RefusesHistory bytes o → IsTold o.status
history_told bytes _ (is_no_history none n first) = told_3

input_told : (bytes : List ℕ) (o : Outcome) → RefusesInput bytes o → IsTold o.status
input_told bytes _ (is_no_input n is) = told_3

end_told : (e : RunEnd) → IsTold (status_of e)
end_told end.Ended = told_0
end_told (end.Race s t cell) = ((λ e. omega (arith, e)), (λ e. omega (arith, e)))
end_told (end.CFault t f) = ((λ e. omega (arith, e)), (λ e. omega (arith, e)))
end_told end.Deadlock = ((λ e. omega (arith, e)), (λ e. omega (arith, e)))
end_told end.ThreadLimit = told_10
end_told end.StepBound = ((λ e. omega (arith, e)), (λ e. omega (arith, e)))

replay_told : (n : ℕ) (answer : Replayed) → IsTold (replayed n answer).status
replay_told n Follows = told_0
replay_told n (Differs k expected found) = told_1

check_told : (bytes : List ℕ) (o : Outcome) → JudgesCheck bytes o → IsTold o.status
check_told bytes _ (checked a) = told_0
check_told bytes _ (not_checked o r) = refuses_told bytes o r

fmt_told : (bytes : List ℕ) (o : Outcome) → JudgesFmt bytes o → IsTold o.status
fmt_told bytes _ (formats p f) = told_0
fmt_told bytes _ (not_formatted error u) = file_told error

emit_told : (bytes name : List ℕ) (o : Outcome) → JudgesEmit bytes name o → IsTold o.status
emit_told bytes name _ (emits program e) = told_0
emit_told bytes name _ (not_emitted o r) = refuses_told bytes o r

go_told : (bytes name : List ℕ) (opts : RunOpts) (input : List ℕ) (o : Outcome) → JudgesGo bytes name opts input o → IsTold o.status
go_told bytes name opts input _ (goes program e numbers are r safe) = end_told r.ends
go_told bytes name opts input _ (no_numbers a o r) = input_told input o r
go_told bytes name opts input _ (not_gone o r) = refuses_told bytes o r

run_told : (bytes : List ℕ) (opts : RunOpts) (input : List ℕ) (o : Outcome) → JudgesRun bytes opts input o → IsTold o.status
run_told bytes opts input _ (runs program is numbers are r) = end_told r.ends
run_told bytes opts input _ (run_no_numbers program is o r) = input_told input o r
run_told bytes opts input _ (not_run o r) = c_told bytes o r

replays_told : (bytes events input : List ℕ) (o : Outcome) → JudgesReplay bytes events input o → IsTold o.status
replays_told bytes events input _ (replays program is history h numbers are answer t) = replay_told _ answer
replays_told bytes events input _ (replay_no_numbers program is history h o r) = input_told input o r
replays_told bytes events input _ (no_history program is o r) = history_told events o r
replays_told bytes events input _ (not_replayed o r) = c_told bytes o r

of_file : (files : Option Files) (name : List ℕ) (most : ℕ) (told left : Option (List ℕ)) (Judges : List ℕ → Outcome → Type 0) (o : Outcome) → OfFile files name most told left Judges o → ((bytes : List ℕ) (said : Outcome) → Judges bytes said → IsTold said.status) → IsTold o.status
of_file files name most told left Judges _ (too_long takes same) f = told_10
of_file files name most told left Judges _ (taken bytes takes o j) f = f bytes o j

of_input : (told left : Option (List ℕ)) (Judges : List ℕ → Outcome → Type 0) (o : Outcome) → OfInput told left Judges o → ((bytes : List ℕ) (said : Outcome) → Judges bytes said → IsTold said.status) → IsTold o.status
of_input told left Judges _ (input_too_long reads) f = told_10
of_input told left Judges _ (read bytes reads o j) f = f bytes o j

judged_told : (command : Command) (files : Option Files) (told left : Option (List ℕ)) (o : Outcome) → Judged command files told left o → IsTold o.status
judged_told (Check source jobs) files told left o j = of_file files source _ told left _ o j (λ bytes said k. check_told bytes said k.1)
judged_told (Fmt source) files told left o j = of_file files source _ told left _ o j (λ bytes said k. fmt_told bytes said k.1)
judged_told (Emit source name) files told left o j = of_file files source _ told left _ o j (λ bytes said k. emit_told bytes name said k.1)
judged_told (Go source name opts) files told left o j = of_file files source _ told left _ o j (λ bytes said k. of_input told left _ said k (go_told bytes name opts))
judged_told (Run name opts) files told left o j = of_file files name _ told left _ o j (λ bytes said k. of_input told left _ said k (run_told bytes opts))
judged_told (Replay name history) files told left o j = of_file files name _ told left _ o j (λ bytes said k. of_file files history _ told left _ said k (λ events more m. of_input told left _ more m (replays_told bytes events)))
judged_told _ files told left o j = absurd j

answered_told : (command : Command) (files files' : Option Files) (told left out out' : Option (List ℕ)) (s : ℕ) → Answered command files files' told left out out' s → IsTold s
answered_told command files files' told left out out' s a = subst IsTold a.status_is (judged_told command files told left a.outcome a.judged)

-- ---- what is told of an answer

told_answered : (P : ℕ → Type 0) (r : Result ℕ Fault) → IfOk r P → IfOk (told_of r) (λ s. s ≢ 4 → s ≢ 5 → P s)
told_answered P (Ok s) h = λ a b. h
told_answered P (Err fault.In) h = λ a b. absurd (a refl)
told_answered P (Err fault.Out) h = λ a b. absurd (b refl)
told_answered P (Err fault.Memory) h = tt

told_part : (command : Command) (files files' : Option Files) (told left out out' : Option (List ℕ)) (r : Result ℕ Fault) → DidCommand command files files' told left out out' r → PartDone (Ok command) files files' told left out out'
told_part command files files' told left out out' (Ok s) d = came_part _ (Judged command files told left) files files' out out' s d.answered
told_part command files files' told left out out' (Err f) d = d.part

told_causes : (command : Command) (files files' : Option Files) (told left out out' : Option (List ℕ)) (in_before in_now out_before out_now : ℕ) (r : Result ℕ Fault) → IfOk r (Answered command files files' told left out out') → Counts (is_in r) in_before in_now → Counts (is_out r) out_before out_now → IfOk (told_of r) (λ s. HasCauses s in_before in_now out_before out_now)
told_causes command files files' told left out out' in_before in_now out_before out_now (Ok s) a i o =
    let t = answered_told command files files' told left out out' s a in
    record {
      four = λ e. absurd (t.0 e);
      four_always = λ h. absurd (omega (arith, h, i.kept refl));
      five = λ e. absurd (t.1 e);
      five_always = λ h. absurd (omega (arith, h, o.kept refl));
    }
told_causes command files files' told left out out' in_before in_now out_before out_now (Err fault.In) a i o = record {
  four = λ e. i.rose refl;
  four_always = λ h. refl;
  five = λ e. absurd (omega (arith, e));
  five_always = λ h. absurd (omega (arith, h, o.kept refl));
}
told_causes command files files' told left out out' in_before in_now out_before out_now (Err fault.Out) a i o = record {
  four = λ e. absurd (omega (arith, e));
  four_always = λ h. absurd (omega (arith, h, i.kept refl));
  five = λ e. o.rose refl;
  five_always = λ h. refl;
}
told_causes command files files' told left out out' in_before in_now out_before out_now (Err fault.Memory) a i o = tt

told_memory : (in_before in_now out_before out_now : ℕ) (r : Result ℕ Fault) → Counts (is_in r) in_before in_now → Counts (is_out r) out_before out_now → OnErr (told_of r) ((in_now ≡ in_before) × (out_now ≡ out_before))
told_memory in_before in_now out_before out_now (Ok s) i o = tt
told_memory in_before in_now out_before out_now (Err fault.In) i o = tt
told_memory in_before in_now out_before out_now (Err fault.Out) i o = tt
told_memory in_before in_now out_before out_now (Err fault.Memory) i o = (i.kept refl, o.kept refl)

-- where a take or a read failed, nothing was touched
told_untouched : (command : Command) (files files' : Option Files) (told left out out' : Option (List ℕ)) (r : Result ℕ Fault) → IfOk r (Answered command files files' told left out out') → (is_in r ≡ true → Untouched files files' out out') → IfOk (told_of r) (λ s. s ≡ 4 → Untouched files files' out out')
told_untouched command files files' told left out out' (Ok s) a h = λ e. absurd ((answered_told command files files' told left out out' s a).0 e)
told_untouched command files files' told left out out' (Err fault.In) a h = λ e. h refl
told_untouched command files files' told left out out' (Err fault.Out) a h = λ e. absurd (omega (arith, e))
told_untouched command files files' told left out out' (Err fault.Memory) a h = tt

-- what a command did is what its call promises
pub told_keeps : (command : Command) (files files' : Option Files) (told left out out' : Option (List ℕ)) (in_before in_now out_before out_now : ℕ) (r : Result ℕ Fault) (t : Result ℕ Memory) → t ≡ told_of r → DidCommand command files files' told left out out' r → Counts (is_in r) in_before in_now → Counts (is_out r) out_before out_now → CommandKeeps command files files' told left out out' in_before in_now out_before out_now t
told_keeps command files files' told left out out' in_before in_now out_before out_now r t is d i o = subst (CommandKeeps command files files' told left out out' in_before in_now out_before out_now) (sym is) (record {
  answered = told_answered (Answered command files files' told left out out') r d.answered;
  exact = told_answered (IsExactFor (Ok command) files told) r (IfOk-weaker r (Answered command files files' told left out out') (IsExactFor (Ok command) files told) (λ s a. answered_exactly command files files' told left out out' s a) d.answered);
  part = told_part command files files' told left out out' r d;
  untouched = told_untouched command files files' told left out out' r d.answered d.untouched;
  causes = told_causes command files files' told left out out' in_before in_now out_before out_now r d.answered i o;
  memory = told_memory in_before in_now out_before out_now r i o;
})
