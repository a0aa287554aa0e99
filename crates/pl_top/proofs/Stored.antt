-- A stored history is followed.
use Rattle.std.proofs.Common.{◌≡◌, ℕ, ℤ, List, length, Some, refl, sym, ap, subst}
use Rattle.std.specs.Prelude.{Ok}
use Rattle.pl_words.specs.declared.command.RunOpts.{RunOpts}
use Rattle.c_syntax.specs.Tree.{Program}
use Rattle.c_syntax.specs.Fragment.{IsText}
use Rattle.pl_lexer.specs.Proper.{IsName}
use Rattle.c_meaning.specs.declared.action.History.{History}
use Rattle.c_history.specs.Text.{history_text}
use Rattle.c_history.specs.Lines.{IsTextOf}
use Rattle.c_history.specs.Replays.{Tells}
use Rattle.c_history.specs.declared.replaying.Replayed.{Replayed}
use Rattle.c_history.specs.declared.replaying.Replayed.TheVariants as replay
use Rattle.c_history.proofs.ReplayLaws.{not_both}
use Rattle.pl_top.specs.Input.{input_of}
use Rattle.pl_top.specs.Lines.{follows_line}
use Rattle.pl_top.specs.Judging.{Outcome, says, is_no_c, IsReadable, is_no_history, is_no_input, Ran, replayed, JudgesReplay, replays, replay_no_numbers, no_history, not_replayed}
use Rattle.pl_top.proofs.Exact.{never_bad, replay_at, same_numbers}

abbrev pub stored : {program : Program} {numbers : List ℤ} {opts : RunOpts} → Ran program numbers opts → History
stored r = record { events = r.events }

stored_text : (name : List ℕ) (opts : RunOpts) (program : Program) (numbers : List ℤ) (r : Ran program numbers opts) → opts.history ≡ Some name → IsTextOf (stored r) (history_text (stored r))
stored_text name opts program numbers r e = record { within = subst (λ o. IsReadable o r.events) e r.readable; text = refl }

stored_answer : (opts : RunOpts) (p q : Program) (ns ms : List ℤ) (r : Ran p ns opts) (h : History) → q ≡ p → ms ≡ ns → stored r ≡ h → (answer : Replayed) → Tells q ms h.events answer → replayed (length h.events) answer ≡ says 0 (follows_line (length r.events))
stored_answer opts p q ns ms r h e f k replay.Follows t = ap (λ (x : History). says 0 (follows_line (length x.events))) (sym k)
stored_answer opts p q ns ms r h e f k (replay.Differs at expected found) t = absurd (not_both q ms h.events at expected found r.run.last t (replay_at q p ms ns h (stored r) r.run.last (sym e) (sym f) k r.run.replays))

pub stored_follows : (bytes input name : List ℕ) (opts : RunOpts) (program : Program) (numbers : List ℤ) (r : Ran program numbers opts) (o : Outcome) → opts.history ≡ Some name → IsText IsName bytes program → input_of input ≡ Ok numbers → JudgesReplay bytes (history_text (stored r)) input o → o ≡ says 0 (follows_line (length r.events))
stored_follows bytes input name opts program numbers r _ e is are (replays q q_is h h_is ms ms_are answer t) = stored_answer opts program q numbers ms r h (sym (q_is.only program is)) (same_numbers (input_of input) numbers ms are ms_are) (h_is.only (stored r) (stored_text name opts program numbers r e)) answer t
stored_follows bytes input name opts program numbers r _ e is are (replay_no_numbers q q_is h h_is _ (is_no_input n bad)) = absurd (never_bad (input_of input) numbers n are bad)
stored_follows bytes input name opts program numbers r _ e is are (no_history q q_is _ (is_no_history none n at)) = absurd (none (stored r) (stored_text name opts program numbers r e))
stored_follows bytes input name opts program numbers r _ e is are (not_replayed _ (is_no_c none n at)) = absurd (none program is)
