-- Each status comes exactly by its cause.
use Rattle.std.proofs.Common.{◌≡◌, ◌≢◌, ◌≤◌, ◌<◌, ◌⊎◌, inl, inr, ℕ, ℤ, List, ◌++◌, length, Option, Some, None, refl, sym, subst, ◌∙◌, ap, arith, append-nil, length-append}
use Rattle.std.specs.Prelude.{Result, Ok, Err}
use Rattle.pl_base.specs.declared.pos.Pos.{Pos}
use Rattle.pl_base.specs.Outside.{Files, file_in}
use Rattle.pl_syntax.specs.Tree as source
use Rattle.pl_syntax.specs.Tree.{FunDecl}
use Rattle.pl_syntax.specs.Unbuilt.{first_unbuilt}
use Rattle.pl_files.specs.declared.error.FileError.{FileError}
use Rattle.pl_files.specs.declared.error.FileError.TheVariants as file
use Rattle.pl_files.specs.Files.{IsFile}
use Rattle.pl_walk.specs.declared.walk.Duty.{Duty}
use Rattle.pl_walk.specs.Walk.{Undone}
use Rattle.pl_walk.proofs.WalkLaws.{not_both}
use Rattle.pl_erase.specs.Emitted.{program_of}
use Rattle.pl_words.specs.declared.command.Command.{Command}
use Rattle.pl_words.specs.declared.command.Command.TheVariants as c
use Rattle.pl_words.specs.declared.command.RunOpts.{RunOpts}
use Rattle.pl_words.specs.declared.command.WordError.{WordError}
use Rattle.pl_words.specs.declared.command.WordError.TheVariants as e
use Rattle.c_syntax.specs.Tree.{Program}
use Rattle.c_meaning.specs.declared.action.History.{History}
use Rattle.c_meaning.specs.Events.{State}
use Rattle.c_meaning.specs.Steps.{Replay}
use Rattle.c_runner.specs.declared.run_end.RunEnd.{RunEnd}
use Rattle.c_runner.specs.declared.run_end.RunEnd.TheVariants as end
use Rattle.c_history.specs.declared.replaying.Replayed.{Replayed}
use Rattle.c_history.specs.declared.replaying.Replayed.TheVariants as replay
use Rattle.c_history.specs.Replays.{Tells}
use Rattle.c_history.proofs.ReplayLaws as history
use Rattle.pl_top.specs.Telling.{whole, long, Reads}
use Rattle.pl_top.specs.Input.{input_of}
use Rattle.pl_top.specs.Judging.{Outcome, IsFileOf, IsAccepted, IsUndone, IsNotBuilt, IsUnread, IsUnparsed, file_status, Refuses, is_unread, is_not_built, is_undone, IsCOf, IsNoC, is_no_c, IsNoHistory, is_no_history, is_no_input, IsSafeEnd, status_of, replayed, JudgesCheck, checked, not_checked, JudgesFmt, formats, not_formatted, JudgesEmit, emits, not_emitted, JudgesGo, goes, no_numbers, not_gone, JudgesRun, runs, run_no_numbers, not_run, JudgesReplay, replays, replay_no_numbers, no_history, not_replayed, OfFile, too_long, taken, OfInput, input_too_long, read}
use Rattle.pl_top.proofs.Refusals.{Kind, a_limit, no_limit, kind_of, one_status, one_status_before}
use Rattle.pl_top.specs.Calls.{Answered, IsShort, IsShortText, IsRefused, HasTooMany, IsExact, IsExactFmt, HasNoNumbers, IsExactGo, IsExactRun, AreRead, AreShort, IsExactReplay, IsExactFor, Promised}

-- a file has one function
one_function : (bytes : List ℕ) (main other : FunDecl) → IsFileOf bytes main → IsFileOf bytes other → other ≡ main
one_function bytes main other f g = let e : program_of other ≡ program_of main = f.only (program_of other) g.file in cc

-- a file isn't accepted and refused
never_unread : (bytes : List ℕ) (main : FunDecl) (error : FileError) → IsFileOf bytes main → IsUnread bytes error → ⊥
never_unread bytes main error f u = u.none (program_of main) f.file

never_unbuilt : (bytes : List ℕ) (main : FunDecl) (place : Pos) → IsFileOf bytes main → IsNotBuilt bytes place → ⊥
never_unbuilt bytes main place f n = let built : first_unbuilt n.program ≡ None = ap first_unbuilt (f.only n.program n.file) ∙ f.built in cc (built, n.first)

never_refused : (bytes : List ℕ) (main : FunDecl) → IsFileOf bytes main → IsRefused bytes → ⊥
never_refused bytes main f (inl r) = never_unread bytes main r.0 f r.1
never_refused bytes main f (inr r) = never_unbuilt bytes main r.0 f r.1

never_many : (bytes : List ℕ) (main : FunDecl) → IsFileOf bytes main → HasTooMany bytes → ⊥
never_many bytes main f m = never_unread bytes main (file.TooMany m.0) f m.1

-- a typed file has not too many declarations
never_many_unbuilt : (bytes : List ℕ) (place : Pos) → IsNotBuilt bytes place → HasTooMany bytes → ⊥
never_many_unbuilt bytes place n m = m.1.none n.program n.file

-- it isn't too long, and hasn't too many declarations
never_large : (bytes : List ℕ) → IsShort bytes → (HasTooMany bytes → ⊥) → (1048576 < length bytes) ⊎ HasTooMany bytes → ⊥
never_large bytes short few (inl more) = omega (arith, more, short)
never_large bytes short few (inr many) = few many

-- a file isn't accepted and undone
never_both : (bytes : List ℕ) → IsAccepted bytes → (place : Pos) (duty : Duty) → IsUndone bytes place duty → ⊥
never_both bytes a place duty u = not_both a.main place duty a.done (subst (λ m. Undone m place duty) (one_function bytes a.main u.main a.file u.file) u.undone)

accepted_exactly : (bytes : List ℕ) → IsShort bytes → IsAccepted bytes → IsExact bytes 0
accepted_exactly bytes short a = record {
  accepted = ((λ e. (short, a)), (λ h. refl));
  undone = ((λ e. absurd (omega (arith, e))), (λ h. absurd (never_both bytes a h.1.0 h.1.1 h.1.2)));
  refused = ((λ e. absurd (omega (arith, e))), (λ h. absurd (never_refused bytes a.main a.file h.1)));
  too_large = ((λ e. absurd (omega (arith, e))), (λ h. absurd (never_large bytes short (never_many bytes a.main a.file) h)));
}

undone_exactly : (bytes : List ℕ) → IsShort bytes → (place : Pos) (duty : Duty) → IsUndone bytes place duty → IsExact bytes 1
undone_exactly bytes short place duty u = record {
  accepted = ((λ e. absurd (omega (arith, e))), (λ h. absurd (never_both bytes h.1 place duty u)));
  undone = ((λ e. (short, (place, duty, u))), (λ h. refl));
  refused = ((λ e. absurd (omega (arith, e))), (λ h. absurd (never_refused bytes u.main u.file h.1)));
  too_large = ((λ e. absurd (omega (arith, e))), (λ h. absurd (never_large bytes short (never_many bytes u.main u.file) h)));
}

not_built_exactly : (bytes : List ℕ) → IsShort bytes → (place : Pos) → IsNotBuilt bytes place → IsExact bytes 3
not_built_exactly bytes short place n = record {
  accepted = ((λ e. absurd (omega (arith, e))), (λ h. absurd (never_unbuilt bytes h.1.main place h.1.file n)));
  undone = ((λ e. absurd (omega (arith, e))), (λ h. absurd (never_unbuilt bytes h.1.2.main place h.1.2.file n)));
  refused = ((λ e. (short, inr (place, n))), (λ h. refl));
  too_large = ((λ e. absurd (omega (arith, e))), (λ h. absurd (never_large bytes short (never_many_unbuilt bytes place n) h)));
}

-- a file that isn't read is refused, or has too many declarations
status_not : (error : FileError) (k : ℕ) → k ≢ 3 → k ≢ 10 → file_status error ≢ k
status_not error k three ten = by_kind error (kind_of error)
  where
    by_kind : (d : FileError) → Kind d → file_status d ≢ k
    by_kind _ (a_limit place) = λ e. ten (sym e)
    by_kind d (no_limit e) = λ f. three (sym f ∙ e)

same_three : (bytes : List ℕ) (error : FileError) → IsUnread bytes error → IsRefused bytes → file_status error ≡ 3
same_three bytes error u (inl r) = one_status bytes error r.0 u r.1 ∙ r.2
same_three bytes error u (inr n) = absurd (u.none n.1.program n.1.file)

same_ten : (bytes : List ℕ) (error : FileError) → IsShort bytes → IsUnread bytes error → (1048576 < length bytes) ⊎ HasTooMany bytes → file_status error ≡ 10
same_ten bytes error short u (inl more) = absurd (omega (arith, more, short))
same_ten bytes error short u (inr many) = one_status bytes error (file.TooMany many.0) u many.1

too_many : (bytes : List ℕ) (error : FileError) → IsUnread bytes error → file_status error ≡ 10 → HasTooMany bytes
too_many bytes error u e = by_kind error (kind_of error) u e
  where
    by_kind : (d : FileError) → Kind d → IsUnread bytes d → file_status d ≡ 10 → HasTooMany bytes
    by_kind _ (a_limit place) v f = (place, v)
    by_kind d (no_limit g) v f = absurd (omega (arith, f, g))

unread_exactly : (bytes : List ℕ) → IsShort bytes → (error : FileError) → IsUnread bytes error → IsExact bytes (file_status error)
unread_exactly bytes short error u = record {
  accepted = ((λ e. absurd (status_not error 0 (λ f. omega (arith, f)) (λ f. omega (arith, f)) e)), (λ h. absurd (never_unread bytes h.1.main error h.1.file u)));
  undone = ((λ e. absurd (status_not error 1 (λ f. omega (arith, f)) (λ f. omega (arith, f)) e)), (λ h. absurd (never_unread bytes h.1.2.main error h.1.2.file u)));
  refused = ((λ e. (short, inl (error, u, e))), (λ h. same_three bytes error u h.1));
  too_large = ((λ e. inr (too_many bytes error u e)), (λ h. same_ten bytes error short u h));
}

refused_exactly : (bytes : List ℕ) → IsShort bytes → (o : Outcome) → Refuses bytes o → IsExact bytes o.status
refused_exactly bytes short _ (is_unread error u) = unread_exactly bytes short error u
refused_exactly bytes short _ (is_not_built place n) = not_built_exactly bytes short place n
refused_exactly bytes short _ (is_undone place duty u) = undone_exactly bytes short place duty u

too_long_exactly : (bytes : List ℕ) → 1048576 < length bytes → IsExact bytes 10
too_long_exactly bytes more = record {
  accepted = ((λ e. absurd (omega (arith, e))), (λ h. absurd (omega (arith, h.0, more))));
  undone = ((λ e. absurd (omega (arith, e))), (λ h. absurd (omega (arith, h.0, more))));
  refused = ((λ e. absurd (omega (arith, e))), (λ h. absurd (omega (arith, h.0, more))));
  too_large = ((λ e. inl more), (λ h. refl));
}

check_exactly : (bytes : List ℕ) → IsShort bytes → (o : Outcome) → JudgesCheck bytes o → IsExact bytes o.status
check_exactly bytes short _ (checked a) = accepted_exactly bytes short a
check_exactly bytes short _ (not_checked o r) = refused_exactly bytes short o r

emit_exactly : (bytes name : List ℕ) → IsShort bytes → (o : Outcome) → JudgesEmit bytes name o → IsExact bytes o.status
emit_exactly bytes name short _ (emits program e) = accepted_exactly bytes short e.accepted
emit_exactly bytes name short _ (not_emitted o r) = refused_exactly bytes short o r

-- ---- `fmt`

same_three_before : (bytes : List ℕ) (error : FileError) → IsUnparsed bytes error → (other : FileError) × IsUnparsed bytes other × (file_status other ≡ 3) → file_status error ≡ 3
same_three_before bytes error u r = one_status_before bytes error r.0 u r.1 ∙ r.2

same_ten_before : (bytes : List ℕ) (error : FileError) → IsShort bytes → IsUnparsed bytes error → (1048576 < length bytes) ⊎ ((place : Pos) × IsUnparsed bytes (file.TooMany place)) → file_status error ≡ 10
same_ten_before bytes error short u (inl more) = absurd (omega (arith, more, short))
same_ten_before bytes error short u (inr many) = one_status_before bytes error (file.TooMany many.0) u many.1

too_many_before : (bytes : List ℕ) (error : FileError) → IsUnparsed bytes error → file_status error ≡ 10 → (place : Pos) × IsUnparsed bytes (file.TooMany place)
too_many_before bytes error u e = by_kind error (kind_of error) u e
  where
    by_kind : (d : FileError) → Kind d → IsUnparsed bytes d → file_status d ≡ 10 → (place : Pos) × IsUnparsed bytes (file.TooMany place)
    by_kind _ (a_limit place) v f = (place, v)
    by_kind d (no_limit g) v f = absurd (omega (arith, f, g))

never_large_before : (bytes : List ℕ) (p : source.Program) → IsShort bytes → IsFile bytes p → (1048576 < length bytes) ⊎ ((place : Pos) × IsUnparsed bytes (file.TooMany place)) → ⊥
never_large_before bytes p short f (inl more) = omega (arith, more, short)
never_large_before bytes p short f (inr many) = many.1.none p f

fmt_exactly : (bytes : List ℕ) → IsShort bytes → (o : Outcome) → JudgesFmt bytes o → IsExactFmt bytes o.status
fmt_exactly bytes short _ (formats p f) = record {
  formatted = ((λ e. (short, (p, f))), (λ h. refl));
  refused = ((λ e. absurd (omega (arith, e))), (λ h. absurd (h.1.1.none p f)));
  too_large = ((λ e. absurd (omega (arith, e))), (λ h. absurd (never_large_before bytes p short f h)));
}
fmt_exactly bytes short _ (not_formatted error u) = record {
  formatted = ((λ e. absurd (status_not error 0 (λ f. omega (arith, f)) (λ f. omega (arith, f)) e)), (λ h. absurd (u.none h.1.0 h.1.1)));
  refused = ((λ e. (short, (error, u, e))), (λ h. same_three_before bytes error u h.1));
  too_large = ((λ e. inr (too_many_before bytes error u e)), (λ h. same_ten_before bytes error short u h));
}

long_fmt : (bytes : List ℕ) → 1048576 < length bytes → IsExactFmt bytes 10
long_fmt bytes more = record {
  formatted = ((λ e. absurd (omega (arith, e))), (λ h. absurd (omega (arith, h.0, more))));
  refused = ((λ e. absurd (omega (arith, e))), (λ h. absurd (omega (arith, h.0, more))));
  too_large = ((λ e. inl more), (λ h. refl));
}

-- ---- `go`

-- a run ends by a status of its own
status_of_end : (e : RunEnd) → (status_of e ≢ 1) × (status_of e ≢ 3)
status_of_end end.Ended = ((λ e. omega (arith, e)), (λ e. omega (arith, e)))
status_of_end (end.Race s t cell) = ((λ e. omega (arith, e)), (λ e. omega (arith, e)))
status_of_end (end.CFault t f) = ((λ e. omega (arith, e)), (λ e. omega (arith, e)))
status_of_end end.Deadlock = ((λ e. omega (arith, e)), (λ e. omega (arith, e)))
status_of_end end.ThreadLimit = ((λ e. omega (arith, e)), (λ e. omega (arith, e)))
status_of_end end.StepBound = ((λ e. omega (arith, e)), (λ e. omega (arith, e)))

safe_status : (e : RunEnd) → IsSafeEnd e → status_of e ≢ 9
safe_status end.Ended safe = λ e. omega (arith, e)
safe_status (end.Race s t cell) safe = absurd safe
safe_status (end.CFault t f) safe = absurd safe
safe_status end.Deadlock safe = λ e. omega (arith, e)
safe_status end.ThreadLimit safe = λ e. omega (arith, e)
safe_status end.StepBound safe = λ e. omega (arith, e)

-- and a file that is refused by none of these
never_runs : (s : ℕ) → s ≢ 0 → s ≢ 7 → s ≢ 8 → (s ≡ 0) ⊎ ((s ≡ 7) ⊎ (s ≡ 8)) → ⊥
never_runs s a b c (inl h) = a h
never_runs s a b c (inr (inl h)) = b h
never_runs s a b c (inr (inr h)) = c h

-- an input has numbers or a line that is refused, and not both
pub never_bad : {A B : Type 0} (r : Result A B) (a : A) (b : B) → r ≡ Ok a → r ≡ Err b → ⊥
never_bad r a b h k = cc

-- one of two is too long, or neither
never_short : (n m a b : ℕ) → (n < a) ⊎ (m < b) → a ≤ n → b ≤ m → ⊥
never_short n m a b (inl l) h k = omega (arith, h, l)
never_short n m a b (inr l) h k = omega (arith, k, l)

not_refused : (bytes input : List ℕ) → IsAccepted bytes → (numbers : List ℤ) → input_of input ≡ Ok numbers → IsRefused bytes ⊎ (IsAccepted bytes × HasNoNumbers input) → ⊥
not_refused bytes input a numbers is (inl r) = never_refused bytes a.main a.file r
not_refused bytes input a numbers is (inr h) = never_bad (input_of input) numbers h.1.0 is h.1.1

not_undone : (bytes input : List ℕ) (place : Pos) (duty : Duty) → IsUndone bytes place duty → IsRefused bytes ⊎ (IsAccepted bytes × HasNoNumbers input) → ⊥
not_undone bytes input place duty u (inl r) = never_refused bytes u.main u.file r
not_undone bytes input place duty u (inr h) = never_both bytes h.0 place duty u

-- what is too long, or has too many declarations
abbrev IsLarge : List ℕ → List ℕ → Type 0
IsLarge bytes input = (1048576 < length bytes) ⊎ ((1048576 < length input) ⊎ HasTooMany bytes)

not_large : (bytes input : List ℕ) → IsShort bytes → IsShort input → (HasTooMany bytes → ⊥) → IsLarge bytes input → ⊥
not_large bytes input short few not (inl more) = omega (arith, more, short)
not_large bytes input short few not (inr (inl more)) = omega (arith, more, few)
not_large bytes input short few not (inr (inr many)) = not many

three_go : (bytes input : List ℕ) (error : FileError) → IsUnread bytes error → IsRefused bytes ⊎ (IsAccepted bytes × HasNoNumbers input) → file_status error ≡ 3
three_go bytes input error u (inl r) = same_three bytes error u r
three_go bytes input error u (inr h) = absurd (never_unread bytes h.0.main error h.0.file u)

ten_go : (bytes input : List ℕ) (error : FileError) → IsShort bytes → IsShort input → IsUnread bytes error → IsLarge bytes input → file_status error ≡ 10
ten_go bytes input error short few u (inl more) = absurd (omega (arith, more, short))
ten_go bytes input error short few u (inr (inl more)) = absurd (omega (arith, more, few))
ten_go bytes input error short few u (inr (inr many)) = same_ten bytes error short u (inr many)

unread_go : (bytes input : List ℕ) → IsShort bytes → IsShort input → (error : FileError) → IsUnread bytes error → IsExactGo bytes input (file_status error)
unread_go bytes input short few error u =
    let not : (k : ℕ) → k ≢ 3 → k ≢ 10 → file_status error ≢ k = status_not error in
    record {
      runs = λ h. absurd (never_runs (file_status error) (not 0 (λ f. omega (arith, f)) (λ f. omega (arith, f))) (not 7 (λ f. omega (arith, f)) (λ f. omega (arith, f))) (not 8 (λ f. omega (arith, f)) (λ f. omega (arith, f))) h);
      undone = ((λ h. absurd (not 1 (λ f. omega (arith, f)) (λ f. omega (arith, f)) h)), (λ h. absurd (never_unread bytes h.2.2.main error h.2.2.file u)));
      refused = ((λ h. (short, few, inl (inl (error, u, h)))), (λ h. three_go bytes input error u h.2));
      too_large = λ h. ten_go bytes input error short few u h;
      never = not 9 (λ f. omega (arith, f)) (λ f. omega (arith, f));
    }

go_exactly : (bytes name : List ℕ) (opts : RunOpts) (input : List ℕ) → IsShort bytes → IsShort input → (o : Outcome) → JudgesGo bytes name opts input o → IsExactGo bytes input o.status
go_exactly bytes name opts input short few _ (goes program e numbers is r safe) =
    let not = status_of_end r.ends in
    record {
      runs = λ h. e.accepted;
      undone = ((λ h. absurd (not.0 h)), (λ h. absurd (never_both bytes e.accepted h.2.0 h.2.1 h.2.2)));
      refused = ((λ h. absurd (not.1 h)), (λ h. absurd (not_refused bytes input e.accepted numbers is h.2)));
      too_large = λ h. absurd (not_large bytes input short few (never_many bytes e.accepted.main e.accepted.file) h);
      never = safe_status r.ends safe;
    }
go_exactly bytes name opts input short few _ (no_numbers a _ (is_no_input n is)) = record {
  runs = λ h. a;
  undone = ((λ h. absurd (omega (arith, h))), (λ h. absurd (never_both bytes a h.2.0 h.2.1 h.2.2)));
  refused = ((λ h. (short, few, inr (a, (n, is)))), (λ h. refl));
  too_large = λ h. absurd (not_large bytes input short few (never_many bytes a.main a.file) h);
  never = λ e. omega (arith, e);
}
go_exactly bytes name opts input short few _ (not_gone _ (is_undone place duty u)) = record {
  runs = λ h. absurd (never_runs 1 (λ e. omega (arith, e)) (λ e. omega (arith, e)) (λ e. omega (arith, e)) h);
  undone = ((λ h. (short, few, (place, duty, u))), (λ h. refl));
  refused = ((λ h. absurd (omega (arith, h))), (λ h. absurd (not_undone bytes input place duty u h.2)));
  too_large = λ h. absurd (not_large bytes input short few (never_many bytes u.main u.file) h);
  never = λ e. omega (arith, e);
}
go_exactly bytes name opts input short few _ (not_gone _ (is_not_built place n)) = record {
  runs = λ h. absurd (never_runs 3 (λ e. omega (arith, e)) (λ e. omega (arith, e)) (λ e. omega (arith, e)) h);
  undone = ((λ h. absurd (omega (arith, h))), (λ h. absurd (never_unbuilt bytes h.2.2.main place h.2.2.file n)));
  refused = ((λ h. (short, few, inl (inr (place, n)))), (λ h. refl));
  too_large = λ h. absurd (not_large bytes input short few (never_many_unbuilt bytes place n) h);
  never = λ e. omega (arith, e);
}
go_exactly bytes name opts input short few _ (not_gone _ (is_unread error u)) = unread_go bytes input short few error u

-- where more was given than may be, nothing was judged
long_go : (bytes input : List ℕ) → (1048576 < length bytes) ⊎ (1048576 < length input) → IsExactGo bytes input 10
long_go bytes input more = record {
  runs = λ h. absurd (never_runs 10 (λ e. omega (arith, e)) (λ e. omega (arith, e)) (λ e. omega (arith, e)) h);
  undone = ((λ h. absurd (omega (arith, h))), (λ h. absurd (never_short 1048576 1048576 (length bytes) (length input) more h.0 h.1)));
  refused = ((λ h. absurd (omega (arith, h))), (λ h. absurd (never_short 1048576 1048576 (length bytes) (length input) more h.0 h.1)));
  too_large = λ h. refl;
  never = λ e. omega (arith, e);
}

-- ---- `run`

reads_c : (bytes input : List ℕ) (program : Program) (numbers : List ℤ) → IsCOf bytes program → input_of input ≡ Ok numbers → IsNoC bytes ⊎ HasNoNumbers input → ⊥
reads_c bytes input program numbers is are (inl none) = none program is.text
reads_c bytes input program numbers is are (inr h) = never_bad (input_of input) numbers h.0 are h.1

run_exactly : (bytes : List ℕ) (opts : RunOpts) (input : List ℕ) → IsShortText bytes → IsShort input → (o : Outcome) → JudgesRun bytes opts input o → IsExactRun bytes opts input o.status
run_exactly bytes opts input short few _ (runs program is numbers are r) = record {
  refused = ((λ h. absurd ((status_of_end r.ends).1 h)), (λ h. absurd (reads_c bytes input program numbers is are h.2)));
  too_long = λ h. absurd (never_short 268435456 1048576 (length bytes) (length input) h short few);
  runs = λ _ _ _. record { program = program; is = is; numbers = numbers; are = are; run = r; status_is = refl };
}
run_exactly bytes opts input short few _ (run_no_numbers program is _ (is_no_input n bad)) = record {
  refused = ((λ h. (short, few, inr (n, bad))), (λ h. refl));
  too_long = λ h. absurd (never_short 268435456 1048576 (length bytes) (length input) h short few);
  runs = λ _ _ not. absurd (not refl);
}
run_exactly bytes opts input short few _ (not_run _ (is_no_c none n at)) = record {
  refused = ((λ h. (short, few, inl none)), (λ h. refl));
  too_long = λ h. absurd (never_short 268435456 1048576 (length bytes) (length input) h short few);
  runs = λ _ _ not. absurd (not refl);
}

long_run : (bytes : List ℕ) (opts : RunOpts) (input : List ℕ) → (268435456 < length bytes) ⊎ (1048576 < length input) → IsExactRun bytes opts input 10
long_run bytes opts input more = record {
  refused = ((λ h. absurd (omega (arith, h))), (λ h. absurd (never_short 268435456 1048576 (length bytes) (length input) more h.0 h.1)));
  too_long = λ h. refl;
  runs = λ short few _. absurd (never_short 268435456 1048576 (length bytes) (length input) more short few);
}

-- ---- `replay`

-- a replay of the same
pub replay_at : (p q : Program) (ns ms : List ℤ) (h g : History) (last : State) → q ≡ p → ms ≡ ns → g ≡ h → Replay q ms g.events last → Replay p ns h.events last
replay_at p q ns ms h g last e f k r =
    subst (λ (x : Program). Replay x ns h.events last) e (subst (λ (x : List ℤ). Replay q x h.events last) f (subst (λ (x : History). Replay q ms x.events last) k r))

pub same_numbers : {B : Type 0} (r : Result (List ℤ) B) (a b : List ℤ) → r ≡ Ok a → r ≡ Ok b → b ≡ a
same_numbers r a b h k = cc

-- what is read in two ways is the same
read_at : (bytes events input : List ℕ) (p q : Program) (ns ms : List ℤ) (h g : History) (last : State) → AreRead bytes events input p h ns → AreRead bytes events input q g ms → Replay q ms g.events last → Replay p ns h.events last
read_at bytes events input p q ns ms h g last a b r = replay_at p q ns ms h g last (a.is.only q b.is.text) (same_numbers (input_of input) ns ms a.are b.are) (a.history_is.only g b.history_is.text) r

-- the three are read, or one of them isn't
never_missed : (bytes events input : List ℕ) (p : Program) (h : History) (ns : List ℤ) → AreRead bytes events input p h ns → IsNoC bytes ⊎ (IsNoHistory events ⊎ HasNoNumbers input) → ⊥
never_missed bytes events input p h ns a (inl none) = none p a.is.text
never_missed bytes events input p h ns a (inr (inl none)) = none h a.history_is.text
never_missed bytes events input p h ns a (inr (inr bad)) = never_bad (input_of input) ns bad.0 a.are bad.1

-- one of the three is too long
abbrev IsLong : List ℕ → List ℕ → List ℕ → Type 0
IsLong bytes events input = (268435456 < length bytes) ⊎ ((268435456 < length events) ⊎ (1048576 < length input))

short_or_long : (bytes events input : List ℕ) → AreShort bytes events input → IsLong bytes events input → ⊥
short_or_long bytes events input s (inl l) = omega (arith, s.0, l)
short_or_long bytes events input s (inr (inl l)) = omega (arith, s.1, l)
short_or_long bytes events input s (inr (inr l)) = omega (arith, s.2, l)

answer_exactly : (bytes events input : List ℕ) → AreShort bytes events input → (p : Program) (h : History) (ns : List ℤ) → AreRead bytes events input p h ns → (answer : Replayed) → Tells p ns h.events answer → IsExactReplay bytes events input (replayed (length h.events) answer).status
answer_exactly bytes events input short p h ns a replay.Follows t = record {
  follows = ((λ e. (short, (p, h, ns, a, t))), (λ k. refl));
  differs = ((λ e. absurd (omega (arith, e))), (λ k. absurd (k.1.4 t.0 (read_at bytes events input k.1.0 p k.1.2 ns k.1.1 h t.0 k.1.3 a t.1))));
  refused = ((λ e. absurd (omega (arith, e))), (λ k. absurd (never_missed bytes events input p h ns a k.1)));
  too_long = ((λ e. absurd (omega (arith, e))), (λ k. absurd (short_or_long bytes events input short k)));
}
answer_exactly bytes events input short p h ns a (replay.Differs k expected found) t = record {
  follows = ((λ e. absurd (omega (arith, e))), (λ m. absurd (history.not_both p ns h.events k expected found m.1.4.0 t (read_at bytes events input p m.1.0 ns m.1.2 h m.1.1 m.1.4.0 a m.1.3 m.1.4.1))));
  differs = ((λ e. (short, (p, h, ns, a, (λ last r. history.not_both p ns h.events k expected found last t r)))), (λ m. refl));
  refused = ((λ e. absurd (omega (arith, e))), (λ m. absurd (never_missed bytes events input p h ns a m.1)));
  too_long = ((λ e. absurd (omega (arith, e))), (λ m. absurd (short_or_long bytes events input short m)));
}

-- one of the three isn't read
missed_exactly : (bytes events input : List ℕ) → AreShort bytes events input → IsNoC bytes ⊎ (IsNoHistory events ⊎ HasNoNumbers input) → IsExactReplay bytes events input 3
missed_exactly bytes events input short bad = record {
  follows = ((λ e. absurd (omega (arith, e))), (λ m. absurd (never_missed bytes events input m.1.0 m.1.1 m.1.2 m.1.3 bad)));
  differs = ((λ e. absurd (omega (arith, e))), (λ m. absurd (never_missed bytes events input m.1.0 m.1.1 m.1.2 m.1.3 bad)));
  refused = ((λ e. (short, bad)), (λ m. refl));
  too_long = ((λ e. absurd (omega (arith, e))), (λ m. absurd (short_or_long bytes events input short m)));
}

long_exactly : (bytes events input : List ℕ) → IsLong bytes events input → IsExactReplay bytes events input 10
long_exactly bytes events input more = record {
  follows = ((λ e. absurd (omega (arith, e))), (λ m. absurd (short_or_long bytes events input m.0 more)));
  differs = ((λ e. absurd (omega (arith, e))), (λ m. absurd (short_or_long bytes events input m.0 more)));
  refused = ((λ e. absurd (omega (arith, e))), (λ m. absurd (short_or_long bytes events input m.0 more)));
  too_long = ((λ e. more), (λ m. refl));
}

replay_exactly : (bytes events input : List ℕ) → AreShort bytes events input → (o : Outcome) → JudgesReplay bytes events input o → IsExactReplay bytes events input o.status
replay_exactly bytes events input short _ (replays p is h history_is ns are answer t) = answer_exactly bytes events input short p h ns (record { is = is; history_is = history_is; are = are }) answer t
replay_exactly bytes events input short _ (replay_no_numbers p is h history_is _ (is_no_input n bad)) = missed_exactly bytes events input short (inr (inr (n, bad)))
replay_exactly bytes events input short _ (no_history p is _ (is_no_history none n at)) = missed_exactly bytes events input short (inr (inl none))
replay_exactly bytes events input short _ (not_replayed _ (is_no_c none n at)) = missed_exactly bytes events input short (inl none)

-- ---- what was given

same_bytes : {a b : List ℕ} (o : Option (List ℕ)) → o ≡ Some a → o ≡ Some b → a ≡ b
same_bytes o h k = cc

-- of a file that is told
told_file : (files : Files) (name bytes : List ℕ) (most : ℕ) (told left : Option (List ℕ)) (Judges : List ℕ → Outcome → Type 0) (o : Outcome) → OfFile (Some files) name most told left Judges o → file_in name files ≡ Some bytes → (P : ℕ → Type 0) → (most < length bytes → P 10) → (length bytes ≤ most → (said : Outcome) → Judges bytes said → P said.status) → P o.status
told_file files name bytes most told left Judges _ (too_long takes same) is P f g =
    let e : takes.0 ≡ bytes = same_bytes (file_in name files) takes.1 is in
    f (subst (λ (b : List ℕ). most < length b) e takes.2)
told_file files name bytes most told left Judges _ (taken held takes o j) is P f g =
    let e : held ≡ bytes = same_bytes (file_in name files) takes.0 is in
    g (subst (λ (b : List ℕ). length b ≤ most) e takes.1) o (subst (λ b. Judges b o) e j)

-- an input that was read whole, and one that was longer
whole_input : (input held : List ℕ) (left : Option (List ℕ)) → Reads (Some input) left 1048576 (whole held) → held ≡ input
whole_input input held None r = absurd r.0
whole_input input held (Some rest) r = sym (r.0 ∙ ap (λ (t : List ℕ). held ++ t) r.1 ∙ append-nil held)

long_input : (input : List ℕ) (left : Option (List ℕ)) → Reads (Some input) left 1048576 long → 1048576 < length input
long_input input None r = absurd r.1
long_input input (Some rest) r = omega (arith, ap length r.1, length-append r.0 rest, r.2)

told_input : (input : List ℕ) (left : Option (List ℕ)) (Judges : List ℕ → Outcome → Type 0) (o : Outcome) → OfInput (Some input) left Judges o → (P : ℕ → Type 0) → (1048576 < length input → P 10) → (length input ≤ 1048576 → (said : Outcome) → Judges input said → P said.status) → P o.status
told_input input left Judges _ (input_too_long reads) P f g = f (long_input input left reads)
told_input input left Judges _ (read held reads o j) P f g =
    let e : held ≡ input = whole_input input held left reads in
    g (subst (λ (b : List ℕ). length b ≤ 1048576) e reads.2) o (subst (λ b. Judges b o) e j)

-- ---- an answered command has its status by its cause

pub answered_exactly : (command : Command) (files files' : Option Files) (told left out out' : Option (List ℕ)) (status : ℕ) → Answered command files files' told left out out' status → IsExactFor (Ok command) files told status
answered_exactly (c.Check source jobs) (Some files) files' told left out out' status a =
    λ bytes is. subst (IsExact bytes) a.status_is (told_file files source bytes _ told left _ a.outcome a.judged is (IsExact bytes) (too_long_exactly bytes) (λ short said j. check_exactly bytes short said j.1))
answered_exactly (c.Fmt source) (Some files) files' told left out out' status a =
    λ bytes is. subst (IsExactFmt bytes) a.status_is (told_file files source bytes _ told left _ a.outcome a.judged is (IsExactFmt bytes) (long_fmt bytes) (λ short said j. fmt_exactly bytes short said j.1))
answered_exactly (c.Emit source name) (Some files) files' told left out out' status a =
    λ bytes is. subst (IsExact bytes) a.status_is (told_file files source bytes _ told left _ a.outcome a.judged is (IsExact bytes) (too_long_exactly bytes) (λ short said j. emit_exactly bytes name short said j.1))
answered_exactly (c.Go source name opts) (Some files) files' (Some input) left out out' status a =
    λ bytes is. subst (IsExactGo bytes input) a.status_is (told_file files source bytes _ (Some input) left _ a.outcome a.judged is (IsExactGo bytes input) (λ more. long_go bytes input (inl more)) (λ short said j.
    told_input input left _ said j (IsExactGo bytes input) (λ more. long_go bytes input (inr more)) (λ few. go_exactly bytes name opts input short few)))
answered_exactly (c.Run name opts) (Some files) files' (Some input) left out out' status a =
    λ bytes is. subst (IsExactRun bytes opts input) a.status_is (told_file files name bytes _ (Some input) left _ a.outcome a.judged is (IsExactRun bytes opts input) (λ more. long_run bytes opts input (inl more)) (λ short said j.
    told_input input left _ said j (IsExactRun bytes opts input) (λ more. long_run bytes opts input (inr more)) (λ few. run_exactly bytes opts input short few)))
answered_exactly (c.Replay name history) (Some files) files' (Some input) left out out' status a =
    λ bytes events is also. subst (IsExactReplay bytes events input) a.status_is (told_file files name bytes _ (Some input) left _ a.outcome a.judged is (IsExactReplay bytes events input) (λ more. long_exactly bytes events input (inl more)) (λ short said j.
    told_file files history events _ (Some input) left _ said j also (IsExactReplay bytes events input) (λ more. long_exactly bytes events input (inr (inl more))) (λ brief again k.
    told_input input left _ again k (IsExactReplay bytes events input) (λ more. long_exactly bytes events input (inr (inr more))) (λ few. replay_exactly bytes events input (short, brief, few)))))
answered_exactly (c.Check source jobs) None files' told left out out' status a = tt
answered_exactly (c.Fmt source) None files' told left out out' status a = tt
answered_exactly (c.Emit source name) None files' told left out out' status a = tt
answered_exactly (c.Go source name opts) None files' told left out out' status a = tt
answered_exactly (c.Go source name opts) (Some files) files' None left out out' status a = tt
answered_exactly (c.Run name opts) None files' told left out out' status a = tt
answered_exactly (c.Run name opts) (Some files) files' None left out out' status a = tt
answered_exactly (c.Replay name history) None files' told left out out' status a = tt
answered_exactly (c.Replay name history) (Some files) files' None left out out' status a = tt
answered_exactly _ _ files' told left out out' status a = tt

pub promised_exactly : (asked : Result Command WordError) (files files' : Option Files) (told left out out' : Option (List ℕ)) (status : ℕ) → Promised asked files files' told left out out' status → IsExactFor asked files told status
promised_exactly (Ok command) files files' told left out out' status p = answered_exactly command files files' told left out out' status p
promised_exactly (Err (e.Usage kind place)) files files' told left out out' status p = p.0
promised_exactly (Err e.Memory) files files' told left out out' status p = absurd p
