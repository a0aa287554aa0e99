-- The lines that the program prints: those of refusals, and those that are none.
use Rattle.std.specs.Prelude.{ℕ, ℤ, List, [], ◌++◌, Option, option_map, flat_map}
use Rattle.std.specs.Fmt.{decimal, signed_decimal}
use lib.Chars.{codes}
use Rattle.pl_base.specs.declared.pos.Pos.{Pos}
use Rattle.pl_files.specs.declared.error.FileError.{FileError}
use Rattle.pl_files.specs.declared.error.FileError.TheVariants as file
use Rattle.pl_walk.specs.declared.walk.Duty.{Duty}
use Rattle.pl_walk.specs.declared.walk.Duty.TheVariants.{Missing, Leftover}
use Rattle.pl_words.specs.declared.command.UsageKind.{UsageKind}
use Rattle.c_meaning.specs.declared.action.Event.{Event}
use Rattle.c_runner.specs.declared.run_end.RunEnd.{RunEnd}
use Rattle.c_runner.specs.declared.run_end.RunEnd.TheVariants as end
use Rattle.c_history.specs.Text.{event_text}
use Rattle.pl_report.specs.Lines.{line_text, placed, HasWords}
use Rattle.pl_report.specs.declared.refusal.Refusal.TheVariants as r

abbrev pub accepted : List ℕ
accepted = codes "accepted\n"

-- a file, or the input, that is longer than may be; the number is the limit and 1
abbrev pub limit_file : ℕ → List ℕ
limit_file size = line_text (r.LimitFile size)

abbrev pub limit_input : List ℕ
limit_input = line_text (r.LimitInput 1048577)

-- words that are refused, at the place of the first wrong one
abbrev pub usage_line : UsageKind → ℕ → List ℕ
usage_line kind place = line_text (r.Usage kind place)

-- a duty that is undone
abbrev pub duty_line : Pos → Duty → List ℕ
duty_line p (Missing text) = line_text (r.Missing p text)
duty_line p (Leftover text) = line_text (r.Leftover p text)

-- why a file isn't read; of want of memory nothing is said
abbrev pub file_line : FileError → List ℕ
file_line (file.BadUtf8 n) = line_text (r.BadUtf8 n)
file_line (file.BadChar p) = line_text (r.BadChar p)
file_line (file.LongNumber p) = line_text (r.LongNumber p)
file_line (file.LongName p) = line_text (r.LongName p)
file_line (file.Syntax p) = line_text (r.Syntax p)
file_line (file.Deep p) = line_text (r.Deep p)
file_line (file.TooMany p) = line_text (r.Limit p (codes "declarations") 4097)
file_line (file.Unknown p) = line_text (r.Unknown p)
file_line (file.Twice p) = line_text (r.Twice p)
file_line (file.IllTyped p) = line_text (r.IllTyped p)
file_line (file.GhostFlow p) = line_text (r.GhostFlow p)
file_line (file.Opening p) = line_text (r.Opening p)
file_line (file.Measure p) = line_text (r.Measure p)
file_line file.NoMain = line_text r.NoMain
file_line file.Memory = []

-- a form that isn't built
abbrev pub not_built_line : Pos → List ℕ
not_built_line p = placed p (codes "not built")

-- a text of C that is refused, at its first wrong byte
abbrev pub c_line : ℕ → List ℕ
c_line n = line_text (r.CByte n)

-- a line of a history, or of the input, that is refused
abbrev pub history_line : ℕ → List ℕ
history_line n = line_text (r.HistoryLine n)

abbrev pub input_line : ℕ → List ℕ
input_line n = line_text (r.InputLine n)

-- ---- runs

-- numbers that were printed, one a line
abbrev pub number_line : ℤ → List ℕ
number_line n = signed_decimal n ++ codes "\n"

abbrev pub outputs_text : List ℤ → List ℕ
outputs_text = flat_map number_line

-- a fault in the end has words
abbrev pub HasLine : RunEnd → Type 0
HasLine (end.CFault t f) = HasWords f
HasLine _ = Unit {0}

-- how a run ended after so many events; nothing is said of one that reached its end
abbrev pub end_line : ℕ → RunEnd → List ℕ
end_line n end.Ended = []
end_line n (end.Race s t cell) = line_text (r.Race s t cell n)
end_line n (end.CFault t f) = line_text (r.Faulted t f n)
end_line n end.Deadlock = line_text (r.Deadlock n)
end_line n end.ThreadLimit = line_text r.LimitThreads
end_line n end.StepBound = line_text (r.Bound n)

-- ---- replays

-- a history of so many events is one of a run
abbrev pub follows_line : ℕ → List ℕ
follows_line n = codes "follows " ++ decimal n ++ codes " events\n"

-- the first event that is no step, with what its thread would do
abbrev pub differs_line : ℕ → Option Event → Event → List ℕ
differs_line k expected found = line_text (r.Differs k (option_map event_text expected) (event_text found))
