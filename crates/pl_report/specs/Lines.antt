-- The line of each refusal.
use Rattle.std.specs.Prelude.{ℕ, List, [], ◌∷◌, ◌++◌, Option, Some, None, flat_map}
use Rattle.std.specs.Fmt.{decimal, signed_decimal}
use lib.Chars.{codes}
use Rattle.pl_base.specs.declared.pos.Pos.{Pos}
use Rattle.pl_resource.specs.declared.value.Cell.{Cell}
use Rattle.pl_resource.specs.declared.value.Fault.{Fault}
use Rattle.pl_resource.specs.declared.value.Fault.TheVariants as fault
use Rattle.pl_words.specs.declared.command.UsageKind.{UsageKind}
use Rattle.pl_words.specs.declared.command.UsageKind.TheVariants.{NoCommand, UnknownCommand, UnknownOption, MissingValue, Repeated, BadNumber, ExtraWord, MissingWord}
use Rattle.pl_report.specs.declared.refusal.At.{At}
use Rattle.pl_report.specs.declared.refusal.Refusal.{Refusal}
use Rattle.pl_report.specs.declared.refusal.Refusal.TheVariants as r

-- ---- shapes

-- words alone
abbrev pub plain_line : List ℕ → List ℕ
plain_line words = words ++ codes "\n"

-- words and a number
abbrev pub numbered_line : List ℕ → ℕ → List ℕ
numbered_line words n = words ++ codes " " ++ decimal n ++ codes "\n"

-- words about a place, behind its line and column
abbrev pub placed : Pos → List ℕ → List ℕ
placed p words = decimal p.line ++ codes ":" ++ decimal p.col ++ codes ": " ++ words ++ codes "\n"

-- ---- words that are refused

abbrev pub kind_text : UsageKind → List ℕ
kind_text NoCommand = codes "NoCommand"
kind_text UnknownCommand = codes "UnknownCommand"
kind_text UnknownOption = codes "UnknownOption"
kind_text MissingValue = codes "MissingValue"
kind_text Repeated = codes "Repeated"
kind_text BadNumber = codes "BadNumber"
kind_text ExtraWord = codes "ExtraWord"
kind_text MissingWord = codes "MissingWord"

-- the kind, and the place of the first wrong word
abbrev pub usage_line : UsageKind → ℕ → List ℕ
usage_line kind place = codes "usage: " ++ kind_text kind ++ codes " at " ++ decimal place ++ codes "\n"

-- ---- duties and limits

-- a node of a goal, and its value
abbrev pub node_text : At → List ℕ
node_text at = at.node ++ codes " = " ++ signed_decimal at.value

-- a node behind another one
abbrev pub next_node : At → List ℕ
next_node at = codes ", " ++ node_text at

-- values of nodes, if there are any
abbrev pub at_text : List At → List ℕ
at_text [] = []
at_text (first ∷ others) = codes " at " ++ node_text first ++ flat_map next_node others

abbrev pub undone_text : List ℕ → List At → List ℕ
undone_text goal nodes = codes "undone " ++ goal ++ at_text nodes

-- a limit of a kind, and the size that passed it
abbrev pub limit_text : List ℕ → ℕ → List ℕ
limit_text kind size = codes "limit " ++ kind ++ codes " " ++ decimal size

-- a node of a proof, and the rule that it breaks
abbrev pub node_line : ℕ → List ℕ → List ℕ
node_line n rule = codes "proof node " ++ decimal n ++ codes " breaks " ++ rule ++ codes "\n"

-- ---- runs and replays

-- a fault has words if C has it
abbrev pub HasWords : Fault → Type 0
HasWords fault.GhostMissing = ⊥
HasWords _ = Unit {0}

abbrev pub fault_words : Fault → List ℕ
fault_words fault.Dead = codes "dead block"
fault_words fault.Outside = codes "outside"
fault_words fault.Kind = codes "wrong kind"
fault_words fault.Null = codes "null"
fault_words fault.Overflow = codes "overflow"
fault_words fault.ZeroDivisor = codes "zero divisor"
fault_words fault.LockFreed = codes "freed lock"
fault_words fault.LockFree = codes "free lock"
fault_words fault.GhostMissing = []

-- a cell, by its block, index and field
abbrev pub cell_text : Cell → List ℕ
cell_text c = codes "b" ++ decimal c.block ++ codes "." ++ decimal c.index ++ codes "." ++ decimal c.field

-- threads that race at a cell; and a thread before a fault
abbrev pub race_text : ℕ → ℕ → Cell → List ℕ
race_text s t cell = codes "race of " ++ decimal s ++ codes " and " ++ decimal t ++ codes " at " ++ cell_text cell

abbrev pub fault_text : ℕ → Fault → List ℕ
fault_text t f = codes "fault of " ++ decimal t ++ codes ": " ++ fault_words f

-- words about a run that stopped after so many events
abbrev pub after_events : List ℕ → ℕ → List ℕ
after_events words n = words ++ codes " after " ++ decimal n ++ codes " events\n"

-- an event that was expected, if there was one
abbrev pub expected_text : Option (List ℕ) → List ℕ
expected_text None = codes "nothing"
expected_text (Some event) = event

-- the first event that is no step, with what its thread would do
abbrev pub differs_line : ℕ → Option (List ℕ) → List ℕ → List ℕ
differs_line k expected found = codes "differs at " ++ decimal k ++ codes ": expected " ++ expected_text expected ++ codes ", found " ++ found ++ codes "\n"

-- ---- the line of a refusal

-- it has one: a fault in it has words
abbrev pub IsLine : Refusal → Type 0
IsLine (r.Faulted t f n) = HasWords f
IsLine _ = Unit {0}

abbrev pub line_text : Refusal → List ℕ
line_text (r.Usage kind place) = usage_line kind place
line_text r.NoMain = plain_line (codes "no main")
line_text (r.BadUtf8 n) = numbered_line (codes "bad UTF-8 at") n
line_text (r.BadChar p) = placed p (codes "bad character")
line_text (r.LongNumber p) = placed p (codes "long number")
line_text (r.LongName p) = placed p (codes "long name")
line_text (r.Syntax p) = placed p (codes "syntax")
line_text (r.Deep p) = placed p (codes "deep")
line_text (r.Unknown p) = placed p (codes "unknown name")
line_text (r.Twice p) = placed p (codes "name twice")
line_text (r.IllTyped p) = placed p (codes "ill typed")
line_text (r.GhostFlow p) = placed p (codes "ghost flow")
line_text (r.Opening p) = placed p (codes "opening")
line_text (r.Measure p) = placed p (codes "measure")
line_text (r.Missing p text) = placed p (codes "missing " ++ text)
line_text (r.Undone p text nodes) = placed p (undone_text text nodes)
line_text (r.Leftover p text) = placed p (codes "leftover " ++ text)
line_text (r.Undecided p text) = placed p (codes "undecided " ++ text)
line_text (r.Unsolved p name) = placed p (codes "unsolved " ++ name)
line_text (r.Permission p name) = placed p (codes "permission " ++ name)
line_text (r.Limit p kind size) = placed p (limit_text kind size)
line_text (r.LimitFile size) = numbered_line (codes "limit file") size
line_text (r.LimitInput size) = numbered_line (codes "limit input") size
line_text r.LimitThreads = plain_line (codes "limit threads 1024")
line_text r.LimitGhost = plain_line (codes "limit ghost number")
line_text (r.CByte n) = numbered_line (codes "C byte") n
line_text (r.ProofByte n) = numbered_line (codes "proof byte") n
line_text (r.HistoryLine n) = numbered_line (codes "history line") n
line_text (r.InputLine n) = numbered_line (codes "input line") n
line_text (r.ProofNode n rule) = node_line n rule
line_text (r.Differs k expected found) = differs_line k expected found
line_text (r.Deadlock n) = after_events (codes "deadlock") n
line_text (r.Bound n) = after_events (codes "bound") n
line_text (r.Race s t cell n) = after_events (race_text s t cell) n
line_text (r.Faulted t f n) = after_events (fault_text t f) n
