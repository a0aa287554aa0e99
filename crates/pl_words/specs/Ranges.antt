-- The numbers of a command.
use Rattle.std.specs.Prelude.{ℕ, ◌≤◌}
use Rattle.pl_words.specs.declared.command.Command.{Command}
use Rattle.pl_words.specs.declared.command.Command.TheVariants.{Check, Emit, Prove, Verify, Fmt, Ghost, Run, Replay, Go, Bench, Races}
use Rattle.pl_words.specs.declared.command.RunOpts.{RunOpts}

-- from 1 to a bound
abbrev pub IsUpTo : ℕ → ℕ → Type 0
IsUpTo most n = (1 ≤ n) × (n ≤ most)

-- how a program is run: 1 to 4,000,000 steps and 1 to 64 workers
pub record IsRun (run : RunOpts) : Type 0 where
  pub steps : IsUpTo 4_000_000 run.steps
  pub workers : IsUpTo 64 run.workers

-- the numbers of a command are in their ranges: jobs 1 to 64, the number of `bench` 1 to 1,000, and those of a run
abbrev pub IsInRange : Command → Type 0
IsInRange (Check file jobs) = IsUpTo 64 jobs
IsInRange (Run text run) = IsRun run
IsInRange (Go source text run) = IsRun run
IsInRange (Bench n) = IsUpTo 1_000 n
IsInRange (Emit source text) = Unit {0}
IsInRange (Prove source text) = Unit {0}
IsInRange (Verify source proof) = Unit {0}
IsInRange (Fmt source) = Unit {0}
IsInRange (Ghost source) = Unit {0}
IsInRange (Replay text history) = Unit {0}
IsInRange (Races text history) = Unit {0}
