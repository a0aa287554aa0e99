-- How a run ends.
use Rattle.std.specs.Prelude.{◌≡◌, ℕ, ◌<◌, ◌≤◌, Bool, true, false, [], ◌∷◌, None, count_by}
use Rattle.pl_resource.specs.declared.value.Fault.{Fault}
use Rattle.c_syntax.specs.Tree.{Program}
use Rattle.c_meaning.specs.declared.action.Touch.{Touch}
use Rattle.c_meaning.specs.declared.action.Next.TheVariants as next
use Rattle.c_meaning.specs.Resolve.{functions_of}
use Rattle.c_meaning.specs.Events.{State, Thread, thread_of, next_of, is_enabled}
use Rattle.c_meaning.specs.Steps.{Faults, race_at, Race}
use Rattle.c_runner.specs.declared.run_end.RunEnd.{RunEnd}
use Rattle.c_runner.specs.declared.run_end.RunEnd.TheVariants as end

-- all threads have ended
abbrev pub AllEnded : State → Type 0
AllEnded state = (t : ℕ) → thread_of state t ≡ []

-- no two threads race
abbrev pub NoRace : Program → State → Type 0
NoRace p state = (s t : ℕ) → s < t → race_at p state s t ≡ None

-- the least thread that stands before a fault, and its fault
pub record LeastFault (p : Program) (state : State) (t : ℕ) (f : Fault) : Type 0 where
  pub faults : Faults p state t f
  pub least : (u : ℕ) (g : Fault) → u < t → Faults p state u g → ⊥

-- no thread stands before a fault
abbrev pub NoFault : Program → State → Type 0
NoFault p state = (t : ℕ) (f : Fault) → Faults p state t f → ⊥

-- no thread is enabled
abbrev pub NoneEnabled : Program → State → Type 0
NoneEnabled p state = (t : ℕ) → is_enabled (functions_of p) state t ≡ false

-- a thread hasn't ended
abbrev pub is_unended : Thread → Bool
is_unended [] = false
is_unended (frame ∷ callers) = true

-- how many threads haven't ended
abbrev pub unfinished : State → ℕ
unfinished state = count_by is_unended state.threads

-- the next action of a thread is a fork
abbrev pub Forks : Program → State → ℕ → Type 0
Forks p state t = (touch : Touch) × (next_of (functions_of p) state t ≡ next.Act touch) × (touch.forks ≡ true)

-- 1,024 threads are unfinished, and the next action of one is a fork
abbrev pub IsFull : Program → State → Type 0
IsFull p state = (1024 ≤ unfinished state) × ((t : ℕ) × Forks p state t)

-- this end holds in a state after so many events, and none that comes before it in the order
abbrev pub EndOf : Program → ℕ → State → ℕ → RunEnd → Type 0
EndOf p bound state count end.Ended = AllEnded state
EndOf p bound state count (end.Race s t cell) = (AllEnded state → ⊥) × Race p state s t cell
EndOf p bound state count (end.CFault t fault) = (AllEnded state → ⊥) × NoRace p state × LeastFault p state t fault
EndOf p bound state count end.Deadlock = (AllEnded state → ⊥) × NoRace p state × NoFault p state × NoneEnabled p state
EndOf p bound state count end.ThreadLimit =
    (AllEnded state → ⊥) × NoRace p state × NoFault p state × (NoneEnabled p state → ⊥) × IsFull p state
EndOf p bound state count end.StepBound =
    (AllEnded state → ⊥) × NoRace p state × NoFault p state × (NoneEnabled p state → ⊥) × (IsFull p state → ⊥) × (count ≡ bound)

-- no end holds
abbrev pub NoEnd : Program → ℕ → State → ℕ → Type 0
NoEnd p bound state count = (e : RunEnd) → EndOf p bound state count e → ⊥
