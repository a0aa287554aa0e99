-- The table of the commands and the options.
use Rattle.std.specs.Prelude.{ℕ, Bool, true, false, List, Option, Some, None, if◌then◌else◌}
use Rattle.std.specs.Str.{bytes_eq}
use lib.Chars.{codes}
use Rattle.pl_words.specs.declared.table.Verb.{Verb}
use Rattle.pl_words.specs.declared.table.Verb.TheVariants.{Check, Emit, Prove, Verify, Fmt, Ghost, Run, Replay, Go, Bench, Races}
use Rattle.pl_words.specs.declared.table.Opt.{Opt}
use Rattle.pl_words.specs.declared.table.Opt.TheVariants.{Output, Steps, Workers, History, Jobs}
use Rattle.pl_words.specs.declared.table.Plain.TheVariants.{File, TwoFiles, Count}
use Rattle.pl_words.specs.declared.table.Row.{Row}

-- the command that a word names
abbrev pub verb_named : List ℕ → Option Verb
verb_named w =
    if bytes_eq w (codes "check") then Some Check else
    if bytes_eq w (codes "emit") then Some Emit else
    if bytes_eq w (codes "prove") then Some Prove else
    if bytes_eq w (codes "verify") then Some Verify else
    if bytes_eq w (codes "fmt") then Some Fmt else
    if bytes_eq w (codes "ghost") then Some Ghost else
    if bytes_eq w (codes "run") then Some Run else
    if bytes_eq w (codes "replay") then Some Replay else
    if bytes_eq w (codes "go") then Some Go else
    if bytes_eq w (codes "bench") then Some Bench else
    if bytes_eq w (codes "races") then Some Races else
    None

-- the option that a word names
abbrev pub option_named : List ℕ → Option Opt
option_named w =
    if bytes_eq w (codes "-o") then Some Output else
    if bytes_eq w (codes "--steps") then Some Steps else
    if bytes_eq w (codes "--workers") then Some Workers else
    if bytes_eq w (codes "--history") then Some History else
    if bytes_eq w (codes "--jobs") then Some Jobs else
    None

-- what stands behind a command: its words that are no options, whether it has `-o` (and then needs it), whether it has
-- `--jobs`, and whether it has the options of a run
abbrev pub row_of : Verb → Row
row_of Check = record { plain = File; output = false; jobs = true; run = false }
row_of Emit = record { plain = File; output = true; jobs = false; run = false }
row_of Prove = record { plain = File; output = true; jobs = false; run = false }
row_of Verify = record { plain = TwoFiles; output = false; jobs = false; run = false }
row_of Fmt = record { plain = File; output = false; jobs = false; run = false }
row_of Ghost = record { plain = File; output = false; jobs = false; run = false }
row_of Run = record { plain = File; output = false; jobs = false; run = true }
row_of Replay = record { plain = TwoFiles; output = false; jobs = false; run = false }
row_of Go = record { plain = File; output = true; jobs = false; run = true }
row_of Bench = record { plain = Count; output = false; jobs = false; run = false }
row_of Races = record { plain = TwoFiles; output = false; jobs = false; run = false }

-- whether a row has an option: `--steps`, `--workers` and `--history` are the options of a run
abbrev pub has : Row → Opt → Bool
has row Output = row.output
has row Jobs = row.jobs
has row Steps = row.run
has row Workers = row.run
has row History = row.run
