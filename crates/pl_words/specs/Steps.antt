-- How the code's steps are told by the rule.
use Rattle.std.specs.Prelude.{◌≡◌, ℕ, ◌+◌, ◌*◌, Result, Ok, Err, Option, Some, None, List}
use Rattle.std.specs.Option.{option_copied}
use denote.Ref.{Bor}
use Rattle.pl_words.specs.declared.command.WordError.{WordError}
use Rattle.pl_words.specs.declared.reading.Read.{Read}
use Rattle.pl_words.specs.Words.{Said}

-- what the code has read, as plain data
abbrev pub said_of : Read → Said
said_of r = record { first = option_copied r.first; second = option_copied r.second; count = r.count; output = option_copied r.output; steps = r.steps; workers = r.workers; history = option_copied r.history; jobs = r.jobs }

-- what a step answers is what is told, with what was read as plain data
abbrev pub TellsRead : Result Read WordError → Result Said WordError → Type 0
TellsRead (Ok r) told = told ≡ Ok (said_of r)
TellsRead (Err r) told = told ≡ Err r

-- the same of a text
abbrev pub TellsText : Result (Bor (List ℕ)) WordError → Result (List ℕ) WordError → Type 0
TellsText (Ok text) told = told ≡ Ok text.now
TellsText (Err r) told = told ≡ Err r

-- one word or option that was said
abbrev pub one : {A : Type 0} → Option A → ℕ
one None = 0
one (Some x) = 1

-- how many words were taken: one for each plain word and two for each option
abbrev pub taken : Said → ℕ
taken s = one s.first + one s.second + one s.count + 2 * (one s.output + one s.steps + one s.workers + one s.history + one s.jobs)
