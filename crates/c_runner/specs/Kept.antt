-- What a machine keeps.
use Rattle.std.specs.Prelude.{◌≡◌, ℕ, ℤ, suc, ◌<◌, ◌≤◌, ◌%◌, ◌⊎◌, Bool, List, [], ◌∷◌, ◌++◌, Option, Some, None, length, map, filter}
use Rattle.c_syntax.specs.Tree.{Program}
use Rattle.c_meaning.specs.declared.action.Event.{Event}
use Rattle.c_meaning.specs.Tree.{Function}
use Rattle.c_meaning.specs.Events.{State, thread_of, next_of, is_enabled}
use Rattle.c_meaning.specs.Steps.{Replay, start_of}
use Rattle.c_meaning.specs.States.{Held, shown}
use Rattle.c_runner.specs.declared.run_end.RunEnd.{RunEnd}
use Rattle.c_runner.specs.Numbers.{Are}
use Rattle.c_runner.specs.Ends.{AllEnded, NoRace, NoFault, NoneEnabled, is_unended, IsFull, EndOf}
use Rattle.c_runner.specs.Runs.{GoesOn, Ruled}
use Rattle.c_runner.specs.Standings.{stands, end_among}

-- the state is the replay of the history, for which there is room
pub record IsKept (p : Program) (input : List ℤ) (bound : ℕ) (state : State) (es : List Event) (capacity : ℕ) : Type 0 where
  pub replays : Replay p input es state
  pub goes : GoesOn p bound (start_of p input) 0 es state
  pub within : length es ≤ bound
  pub few : bound ≤ 4000000
  pub room : bound ≤ capacity
  pub blocks : length state.world.blocks ≤ length es
  pub locks : length state.world.locks ≤ length es
  pub threads : length state.threads ≤ suc (length es)

-- a thread hasn't ended
abbrev pub is_live : State → ℕ → Bool
is_live state t = is_unended (thread_of state t)

-- the threads that haven't ended, those that are enabled, and the end
pub record Sees (functions : List Function) (bound : ℕ) (state : State) (count : ℕ) (live enabled : List ℕ) (end : Option RunEnd) : Type 0 where
  pub live_are : Are (is_live state) 0 live
  pub enabled_are : enabled ≡ filter (is_enabled functions state) live
  pub end_is : end ≡ end_among (map (stands (next_of functions state)) live) enabled bound count

-- the run goes on: no end holds
pub record IsOpen (p : Program) (bound : ℕ) (state : State) (count : ℕ) : Type 0 where
  pub unended : AllEnded state → ⊥
  pub no_race : NoRace p state
  pub no_fault : NoFault p state
  pub enabled : NoneEnabled p state → ⊥
  pub not_full : IsFull p state → ⊥
  pub within : count < bound

-- the first end that holds, or none
abbrev pub FirstEnd : Program → ℕ → State → ℕ → Option RunEnd → Type 0
FirstEnd p bound state count None = IsOpen p bound state count
FirstEnd p bound state count (Some e) = EndOf p bound state count e

-- the state that a machine shows, its history, and the number behind the last stepped thread
abbrev pub seen : Held × List Event × ℕ → State × List Event × ℕ
seen m = (shown m.0, m.1, m.2)

-- the events that one worker did after those of old
abbrev pub GoesByRule : Program → ℕ → State × List Event × ℕ → State × List Event × ℕ → Type 0
GoesByRule p bound old new =
    (es : List Event) × (new.1 ≡ old.1 ++ es) × Ruled p bound old.0 (length old.1) old.2 es new.0 new.2

-- no event was recorded, or one of a thread of this worker
abbrev pub AtMostOne : ℕ → ℕ → List Event → List Event → Type 0
AtMostOne workers worker old new = (new ≡ old) ⊎ ((e : Event) × (e.tid % workers ≡ worker) × (new ≡ old ++ e ∷ []))
