-- From the calls of the host to what a command promises.
use Rattle.std.proofs.Common.{◌≡◌, ℕ, ℤ, List, [], ◌∷◌, inl, inr, false, refl, sym, ap, ◌∙◌, subst}
use Rattle.std.specs.Prelude.{Option, Some, None, Result, Ok, Err, IfOk, OnErr}
use Rattle.std.specs.Io.KnownBytes.{Appends}
use Rattle.std.proofs.lemmas.Bool.{both_ways, false≢true}
use Rattle.std.proofs.lemmas.Result.{IfOk-weaker, on_err_weaker}
use Rattle.pl_base.specs.Outside.{Files, Puts, KeepsOthers, Counts}
use Rattle.pl_words.specs.declared.command.Command.TheVariants as c
use Rattle.pl_words.specs.declared.command.RunOpts.{RunOpts}
use Rattle.c_syntax.specs.Tree.{Program}
use Rattle.c_syntax.specs.Plain.{plain_program}
use Rattle.c_meaning.specs.declared.action.Event.{Event}
use Rattle.c_runner.specs.declared.run_end.RunEnd.{RunEnd}
use Rattle.c_runner.specs.declared.run_end.RunEnd.TheVariants as end
use Rattle.c_runner.specs.Runs.{IsRun}
use Rattle.pl_top.specs.declared.fetch.Fault.{Fault}
use Rattle.pl_top.specs.declared.fetch.Fault.TheVariants as fault
use Rattle.pl_top.specs.Telling.{Given, whole, Takes, Reads, Put, AllPut, AppendsPart, is_in, is_out}
use Rattle.pl_top.specs.Lines.{accepted}
use Rattle.pl_top.specs.Input.{input_of}
use Rattle.pl_top.specs.Judging.{Outcome, says, IsEmitted, put_text, IsCOf, IsReadable, Ran, IsSafeEnd, status_of, put_history, behind, JudgesEmit, emits, JudgesGo, goes, JudgesRun, runs, JudgesReplay, most_source, most_text, taken, read, Judged}
use Rattle.pl_top.specs.Calls.{CameTo, EmitsTo, HasNumbers, Begins, none, emit_text, go_text, go_history, run_history, DidPart, put_whole, put_failed, wrote, Did, DidCommand}
use Rattle.pl_top.specs.Runs.{IsSafe, IsDone}
use Rattle.pl_top.specs.Goes.{IsProgramOf, IsRunOf, CanPut, not_yet, history_put, Behind, first, more, IsBehind, FirstFailed, HistoryFailed}
use Rattle.pl_top.specs.declared.emit.Emitted.{Emitted}
use Rattle.pl_top.specs.declared.run.Done.{Done}
use Rattle.pl_top.proofs.Delivered.{appends_at, part_at, part_of}

-- ---- what was done on the way to a result

-- nothing
pub did_nothing : (P : List Put → Type 0) (I : Outcome → Type 0) (files files' : Option Files) (out out' : Option (List ℕ)) (r : Result ℕ Fault) (e : Fault) → r ≡ Err e → P [] → files' ≡ files → out' ≡ out → Did P I files files' out out' r
did_nothing P I files files' out out' r e is can same quiet = subst (Did P I files files' out out') (sym is) (record {
  answered = tt;
  part = put_whole [] can same quiet;
  untouched = λ _. record { unput = same; unwritten = quiet };
})

-- a text was written, and no file was put
pub did_say : (P : List Put → Type 0) (I : Outcome → Type 0) (files files' : Option Files) (out out0 out' : Option (List ℕ)) (r : Result ℕ Fault) (status : ℕ) (t text : List ℕ) → I (says status text) → files' ≡ files → out0 ≡ out → t ≡ text → IfOk r (λ s. (s ≡ status) × Appends out0 out' t) → OnErr r (AppendsPart out0 out' t) → is_in r ≡ false → Did P I files files' out out' r
did_say P I files files' out out0 out' (Ok s) status t text is same e h w p outward = record {
  answered = record { outcome = says status text; judged = is; status_is = sym w.0; delivered = same; written = appends_at out0 out out' t text e h w.1 };
  part = tt;
  untouched = λ wrong. absurd (false≢true wrong);
}
did_say P I files files' out out0 out' (Err f) status t text is same e h w p outward = record {
  answered = tt;
  part = wrote (says status text) is same (part_at out0 out out' t text e h p);
  untouched = λ wrong. absurd (both_ways (is_in {T = ℕ} (Err f)) outward wrong);
}

-- the first file was not put, and may hold anything
pub did_not_put : (P : List Put → Type 0) (I : Outcome → Type 0) (files files' : Option Files) (out out' : Option (List ℕ)) (r : Result ℕ Fault) (e : Fault) (p : Put) → r ≡ Err e → is_in {T = ℕ} (Err e) ≡ false → P (p ∷ []) → KeepsOthers files files' p.name → out' ≡ out → Did P I files files' out out' r
did_not_put P I files files' out out' r e p is outward can others quiet = subst (Did P I files files' out out') (sym is) (record {
  answered = tt;
  part = put_failed [] p can files refl others quiet;
  untouched = λ wrong. absurd (both_ways (is_in {T = ℕ} (Err e)) outward wrong);
})

-- the same of a wider plan
pub did_wider : (P Q : List Put → Type 0) (I J : Outcome → Type 0) (files files' : Option Files) (out out' : Option (List ℕ)) (r : Result ℕ Fault) → ((puts : List Put) → P puts → Q puts) → ((o : Outcome) → I o → J o) → Did P I files files' out out' r → Did Q J files files' out out' r
did_wider P Q I J files files' out out' r f g d = record {
  answered = IfOk-weaker r (CameTo I files files' out out') (CameTo J files files' out out') (λ s a. record { outcome = a.outcome; judged = g a.outcome a.judged; status_is = a.status_is; delivered = a.delivered; written = a.written }) d.answered;
  part = on_err_weaker r (part_of P Q I J files files' out out' f g) d.part;
  untouched = d.untouched;
}

part_behind : (p : Put) (P : List Put → Type 0) (I : Outcome → Type 0) (files between files' : Option Files) (out out' : Option (List ℕ)) → Puts files between p.name p.bytes → DidPart P I between files' out out' → DidPart (Behind p P) (IsBehind p I) files files' out out'
part_behind p P I files between files' out out' put (put_whole puts can all quiet) = put_whole (p ∷ puts) (more puts can) (between, put, all) quiet
part_behind p P I files between files' out out' put (put_failed puts last can mid all others quiet) = put_failed (p ∷ puts) last (more _ can) mid (between, put, all) others quiet
part_behind p P I files between files' out out' put (wrote o is all part) = wrote (behind p o) (o, is, refl) (between, put, all) part

-- the same behind a file that was put
pub did_behind : (p : Put) (P : List Put → Type 0) (I : Outcome → Type 0) (files between files' : Option Files) (out out' : Option (List ℕ)) (r : Result ℕ Fault) → Puts files between p.name p.bytes → is_in r ≡ false → Did P I between files' out out' r → Did (Behind p P) (IsBehind p I) files files' out out' r
did_behind p P I files between files' out out' r put outward d = record {
  answered = IfOk-weaker r (CameTo I between files' out out') (CameTo (IsBehind p I) files files' out out') (λ s a. record { outcome = behind p a.outcome; judged = (a.outcome, a.judged, refl); status_is = a.status_is; delivered = (between, put, a.delivered); written = a.written }) d.answered;
  part = on_err_weaker r (part_behind p P I files between files' out out' put) d.part;
  untouched = λ wrong. absurd (both_ways (is_in r) outward wrong);
}

-- the same told of what stood before
pub did_from : (P : List Put → Type 0) (I : Outcome → Type 0) (files files0 files' : Option Files) (out out0 out' : Option (List ℕ)) (r : Result ℕ Fault) → files ≡ files0 → out ≡ out0 → Did P I files files' out out' r → Did P I files0 files' out0 out' r
did_from P I files files0 files' out out0 out' r e f d = subst (λ x. Did P I x files' out0 out' r) e (subst (λ x. Did P I files files' x out' r) f d)

-- ---- what was taken and read

pub takes_at : (files files0 : Option Files) (name : List ℕ) (most : ℕ) (given : Given) → files ≡ files0 → Takes files name most given → Takes files0 name most given
takes_at files files0 name most given e h = subst (λ f. Takes f name most given) e h

pub reads_at : (told told0 left left' : Option (List ℕ)) (given : Given) → told ≡ told0 → left' ≡ left → Reads told left 1048576 given → Reads told0 left' 1048576 given
reads_at told told0 left left' given e f h = subst (λ x. Reads x left' 1048576 given) e (subst (λ x. Reads told x 1048576 given) (sym f) h)

-- the text of a file or of an input, under the name by which it is handed on
pub text_at : {A : Type 0} (P : A → Type 0) (a b : A) → a ≡ b → P a → P b
text_at P a b e h = subst P e h

-- the same of the bytes of a replay
pub judged_at : (b b' e e' i i' : List ℕ) (o : Outcome) → b ≡ b' → e ≡ e' → i ≡ i' → JudgesReplay b e i o → JudgesReplay b' e' i' o
judged_at b b' e e' i i' o p q r h = subst (λ x. JudgesReplay x e' i' o) p (subst (λ x. JudgesReplay b x i' o) q (subst (λ x. JudgesReplay b e x o) r h))

-- a fault that was handed on is no failed take or read, if it was none before
pub same_in : (e f : Fault) → e ≡ f → is_in {T = Unit {0}} (Err f) ≡ false → is_in {T = ℕ} (Err e) ≡ false
same_in e f is h = rw is (by_fault f h)
  where
    by_fault : (x : Fault) → is_in {T = Unit {0}} (Err x) ≡ false → is_in {T = ℕ} (Err x) ≡ false
    by_fault fault.In k = k
    by_fault fault.Out k = k
    by_fault fault.Memory k = k

-- a fault that was handed on counts as it did before, behind calls that didn't fail
pub counted_in : (before mid now : ℕ) (r : Result ℕ Fault) (e f : Fault) → r ≡ Err e → e ≡ f → mid ≡ before → Counts (is_in {T = Unit {0}} (Err f)) mid now → Counts (is_in r) before now
counted_in before mid now r e f is same kept counts = subst (λ z. Counts (is_in z) before now) (sym is) (subst (λ x. Counts (is_in {T = ℕ} (Err x)) before now) (sym same) (subst (λ m. Counts (is_in {T = ℕ} (Err f)) m now) kept (by_fault mid now f counts)))
  where
    by_fault : (m n : ℕ) (x : Fault) → Counts (is_in {T = Unit {0}} (Err x)) m n → Counts (is_in {T = ℕ} (Err x)) m n
    by_fault m n fault.In k = k
    by_fault m n fault.Out k = k
    by_fault m n fault.Memory k = k

pub counted_out : (before mid now : ℕ) (r : Result ℕ Fault) (e f : Fault) → r ≡ Err e → e ≡ f → mid ≡ before → Counts (is_out {T = Unit {0}} (Err f)) mid now → Counts (is_out r) before now
counted_out before mid now r e f is same kept counts = subst (λ z. Counts (is_out z) before now) (sym is) (subst (λ x. Counts (is_out {T = ℕ} (Err x)) before now) (sym same) (subst (λ m. Counts (is_out {T = ℕ} (Err f)) m now) kept (by_fault mid now f counts)))
  where
    by_fault : (m n : ℕ) (x : Fault) → Counts (is_out {T = Unit {0}} (Err x)) m n → Counts (is_out {T = ℕ} (Err x)) m n
    by_fault m n fault.In k = k
    by_fault m n fault.Out k = k
    by_fault m n fault.Memory k = k

-- ---- runs

-- a run of a program that is safe ends so
pub safe_end : (program : Program) (numbers : List ℤ) (bound : ℕ) (events : List Event) (e : RunEnd) → IsSafe program → IsRun program numbers bound events e → IsSafeEnd e
safe_end program numbers bound events end.Ended safe run = tt
safe_end program numbers bound events (end.Race s t cell) safe run =
    let race = run.ends.1 in
    let none = safe.no_race numbers events run.last run.replays s t race.ordered in
    never_some _ cell none race.there
  where
    never_some : {A : Type 0} (o : Option A) (x : A) → o ≡ None → o ≡ Some x → ⊥
    never_some o x e f = absurd cc
safe_end program numbers bound events (end.CFault t f) safe run = safe.no_fault numbers events run.last run.replays t f run.ends.2.faults
safe_end program numbers bound events end.Deadlock safe run = tt
safe_end program numbers bound events end.ThreadLimit safe run = tt
safe_end program numbers bound events end.StepBound safe run = tt

-- a run that is over, whose history may be read
pub run_of : (program : Program) (numbers : List ℤ) (opts : RunOpts) (d : Done) → IsDone program numbers opts d → IsReadable opts.history d.history.events → Ran program numbers opts
run_of program numbers opts d h readable = record { events = d.history.events; ends = h.ends; run = h.run; ruled = h.ruled; readable = readable }

-- what it puts and says
abbrev pub done_as : RunOpts → Done → Outcome
done_as opts d = record { status = d.status; puts = put_history opts.history d.history.events; text = d.text.items }

pub is_run : (program : Program) (numbers : List ℤ) (opts : RunOpts) (d : Done) → IsDone program numbers opts d → IsReadable opts.history d.history.events → IsRunOf program numbers opts (done_as opts d)
unfolding run_of
is_run program numbers opts d h readable = (
  run_of program numbers opts d h readable,
  ap (λ (s : ℕ). record { status = s; puts = put_history opts.history d.history.events; text = d.text.items }) h.status
      ∙ ap (λ (t : List ℕ). record { status = status_of h.ends; puts = put_history opts.history d.history.events; text = t }) h.text,
)

-- a run was put and said
pub did_run : (program : Program) (numbers : List ℤ) (opts : RunOpts) (files between files' : Option Files) (out out0 out' : Option (List ℕ)) (r : Result ℕ Fault) (d : Done) (t : List ℕ) → IsDone program numbers opts d → IsReadable opts.history d.history.events → AllPut (put_history opts.history d.history.events) files between → files' ≡ between → out0 ≡ out → t ≡ d.text.items → IfOk r (λ s. (s ≡ d.status) × Appends out0 out' t) → OnErr r (AppendsPart out0 out' t) → is_in r ≡ false → Did (CanPut program numbers opts) (IsRunOf program numbers opts) files files' out out' r
did_run program numbers opts files between files' out out0 out' (Ok s) d t h readable all same e is w p outward = record {
  answered = record { outcome = done_as opts d; judged = is_run program numbers opts d h readable; status_is = sym w.0; delivered = subst (AllPut (put_history opts.history d.history.events) files) (sym same) all; written = appends_at out0 out out' t d.text.items e is w.1 };
  part = tt;
  untouched = λ wrong. absurd (false≢true wrong);
}
did_run program numbers opts files between files' out out0 out' (Err f) d t h readable all same e is w p outward = record {
  answered = tt;
  part = wrote (done_as opts d) (is_run program numbers opts d h readable) (subst (AllPut (put_history opts.history d.history.events) files) (sym same) all) (part_at out0 out out' t d.text.items e is p);
  untouched = λ wrong. absurd (both_ways (is_in {T = ℕ} (Err f)) outward wrong);
}

-- the history could not be put
pub did_not_keep : (program : Program) (numbers : List ℤ) (opts : RunOpts) (files files' : Option Files) (out out' : Option (List ℕ)) (r : Result ℕ Fault) (e : Fault) (d : Done) → r ≡ Err e → is_in {T = ℕ} (Err e) ≡ false → IsDone program numbers opts d → HistoryFailed opts.history d.history.events files files' → out' ≡ out → Did (CanPut program numbers opts) (IsRunOf program numbers opts) files files' out out' r
unfolding run_of
did_not_keep program numbers opts files files' out out' r e d is outward h (inl same) quiet = did_nothing (CanPut program numbers opts) (IsRunOf program numbers opts) files files' out out' r e is not_yet same quiet
did_not_keep program numbers opts files files' out out' r e d is outward h (inr failed) quiet = go opts.history refl failed.1
  where
    can : CanPut program numbers opts (put_history opts.history d.history.events)
    can = history_put (run_of program numbers opts d h failed.0)

    go : (o : Option (List ℕ)) → opts.history ≡ o → FirstFailed (put_history o d.history.events) files files' → Did (CanPut program numbers opts) (IsRunOf program numbers opts) files files' out out' r
    go None name same = did_nothing (CanPut program numbers opts) (IsRunOf program numbers opts) files files' out out' r e is not_yet same quiet
    go (Some file) name others = did_not_put (CanPut program numbers opts) (IsRunOf program numbers opts) files files' out out' r e (record { name = file; bytes = _ }) is outward (subst (λ o. CanPut program numbers opts (put_history o d.history.events)) name can) others quiet

-- the numbers under the name by which they are handed on
pub did_numbers : (program : Program) (ns ns' : List ℤ) (opts : RunOpts) (files files' : Option Files) (out out' : Option (List ℕ)) (r : Result ℕ Fault) → ns ≡ ns' → Did (CanPut program ns opts) (IsRunOf program ns opts) files files' out out' r → Did (CanPut program ns' opts) (IsRunOf program ns' opts) files files' out out' r
did_numbers program ns ns' opts files files' out out' r e d = subst (λ n. Did (CanPut program n opts) (IsRunOf program n opts) files files' out out' r) e d

-- ---- `emit`

pub emit_did : (source name bytes : List ℕ) (e : Emitted) (files files' : Option Files) (told left out out' : Option (List ℕ)) (r : Result ℕ Fault) → Takes files source most_source (whole bytes) → left ≡ told → IsProgramOf bytes e → Did (Behind (put_text name (plain_program e.program)) (λ puts. puts ≡ [])) (IsBehind (put_text name (plain_program e.program)) (λ o. o ≡ says 0 accepted)) files files' out out' r → DidCommand (c.Emit source name) files files' told left out out' r
emit_did source name bytes e files files' told left out out' r takes same h d =
    let program = plain_program e.program in
    let p = put_text name program in
    let emits_to : EmitsTo source files program = record { bytes = bytes; takes = takes; emitted = h.program } in
    did_wider (Behind p (λ puts. puts ≡ [])) (Begins (c.Emit source name) files told) (IsBehind p (λ o. o ≡ says 0 accepted)) (Judged (c.Emit source name) files told left) files files' out out' r
    (begins program emits_to) (judged program h.program) d
  where
    begins : (program : Program) → EmitsTo source files program → (puts : List Put) → Behind (put_text name program) (λ ps. ps ≡ []) puts → Begins (c.Emit source name) files told puts
    begins program m _ first = emit_text program m
    begins program m _ (more puts is) = subst (λ ps. Begins (c.Emit source name) files told (put_text name program ∷ ps)) (sym is) (emit_text program m)

    judged : (program : Program) → IsEmitted bytes program → (o : Outcome) → IsBehind (put_text name program) (λ said. said ≡ says 0 accepted) o → Judged (c.Emit source name) files told left o
    judged program m o b = taken bytes takes o (same, subst (JudgesEmit bytes name) (sym (b.2 ∙ ap (behind (put_text name program)) b.1)) (emits program m))

-- ---- `go`

pub go_did : (source name bytes input : List ℕ) (opts : RunOpts) (e : Emitted) (numbers : List ℤ) (files files' : Option Files) (told left out out' : Option (List ℕ)) (r : Result ℕ Fault) → Takes files source most_source (whole bytes) → Reads told left 1048576 (whole input) → IsProgramOf bytes e → input_of input ≡ Ok numbers → Did (Behind (put_text name (plain_program e.program)) (CanPut (plain_program e.program) numbers opts)) (IsBehind (put_text name (plain_program e.program)) (IsRunOf (plain_program e.program) numbers opts)) files files' out out' r → DidCommand (c.Go source name opts) files files' told left out out' r
go_did source name bytes input opts e numbers files files' told left out out' r takes reads h are d =
    let program = plain_program e.program in
    let p = put_text name program in
    let emits_to : EmitsTo source files program = record { bytes = bytes; takes = takes; emitted = h.program } in
    let has : HasNumbers told numbers = record { bytes = input; left = left; reads = reads; are = are } in
    did_wider (Behind p (CanPut program numbers opts)) (Begins (c.Go source name opts) files told) (IsBehind p (IsRunOf program numbers opts)) (Judged (c.Go source name opts) files told left) files files' out out' r
    (begins program emits_to has) (judged program h.program h.safe) d
  where
    begins : (program : Program) → EmitsTo source files program → HasNumbers told numbers → (puts : List Put) → Behind (put_text name program) (CanPut program numbers opts) puts → Begins (c.Go source name opts) files told puts
    begins program m n _ first = go_text program numbers m n
    begins program m n _ (more _ not_yet) = go_text program numbers m n
    begins program m n _ (more _ (history_put it)) = go_history program numbers m n it

    judged : (program : Program) → IsEmitted bytes program → IsSafe program → (o : Outcome) → IsBehind (put_text name program) (IsRunOf program numbers opts) o → Judged (c.Go source name opts) files told left o
    judged program m safe o b =
        let run = b.1.0 in
        taken bytes takes o (read input reads o (subst (JudgesGo bytes name opts input) (sym (b.2 ∙ ap (behind (put_text name program)) b.1.1)) (goes program m numbers are run (safe_end program numbers opts.steps run.events run.ends safe run.run))))

-- the same of what was given, as a command says it
pub go_judged : (source name bytes input : List ℕ) (opts : RunOpts) (files : Option Files) (told left : Option (List ℕ)) → Takes files source most_source (whole bytes) → Reads told left 1048576 (whole input) → (o : Outcome) → JudgesGo bytes name opts input o → Judged (c.Go source name opts) files told left o
go_judged source name bytes input opts files told left takes reads o j = taken bytes takes o (read input reads o j)

-- ---- `run`

pub run_did : (name bytes input : List ℕ) (opts : RunOpts) (program : Program) (numbers : List ℤ) (files files' : Option Files) (told left out out' : Option (List ℕ)) (r : Result ℕ Fault) → Takes files name most_text (whole bytes) → Reads told left 1048576 (whole input) → IsCOf bytes program → input_of input ≡ Ok numbers → Did (CanPut program numbers opts) (IsRunOf program numbers opts) files files' out out' r → DidCommand (c.Run name opts) files files' told left out out' r
run_did name bytes input opts program numbers files files' told left out out' r takes reads is are d =
    did_wider (CanPut program numbers opts) (Begins (c.Run name opts) files told) (IsRunOf program numbers opts) (Judged (c.Run name opts) files told left) files files' out out' r begins judged d
  where
    begins : (puts : List Put) → CanPut program numbers opts puts → Begins (c.Run name opts) files told puts
    begins _ not_yet = none
    begins _ (history_put it) = run_history program numbers (record { bytes = bytes; takes = takes; is = is }) (record { bytes = input; left = left; reads = reads; are = are }) it

    judged : (o : Outcome) → IsRunOf program numbers opts o → Judged (c.Run name opts) files told left o
    judged o b = taken bytes takes o (read input reads o (subst (JudgesRun bytes opts input) (sym b.1) (runs program is numbers are b.0)))

pub run_judged : (name bytes input : List ℕ) (opts : RunOpts) (files : Option Files) (told left : Option (List ℕ)) → Takes files name most_text (whole bytes) → Reads told left 1048576 (whole input) → (o : Outcome) → JudgesRun bytes opts input o → Judged (c.Run name opts) files told left o
run_judged name bytes input opts files told left takes reads o j = taken bytes takes o (read input reads o j)

-- ---- `replay`

pub replay_judged : (name history bytes events input : List ℕ) (files : Option Files) (told left : Option (List ℕ)) → Takes files name most_text (whole bytes) → Takes files history most_text (whole events) → Reads told left 1048576 (whole input) → (o : Outcome) → JudgesReplay bytes events input o → Judged (c.Replay name history) files told left o
replay_judged name history bytes events input files told left takes also reads o j = taken bytes takes o (taken events also o (read input reads o j))
