-- What a run answers.
use Rattle.std.specs.Prelude.{◌≡◌, ℕ, ℤ, ◌+◌, List, [], ◌∷◌, length}
use Rattle.c_syntax.specs.Tree.{Program}
use Rattle.c_meaning.specs.declared.action.Event.{Event}
use Rattle.c_meaning.specs.Resolve.{functions_of}
use Rattle.c_meaning.specs.Events.{State, is_enabled}
use Rattle.c_meaning.specs.Steps.{Step, Replay, start_of}
use Rattle.c_runner.specs.declared.run_end.RunEnd.{RunEnd}
use Rattle.c_runner.specs.Numbers.{IsNext}
use Rattle.c_runner.specs.Ends.{EndOf, NoEnd}

-- these events lead from one state, after so many events, to another, and no end holds before any of them
abbrev pub GoesOn : Program → ℕ → State → ℕ → List Event → State → Type 0
GoesOn p bound before count [] after = before ≡ after
GoesOn p bound before count (e ∷ es) after =
    NoEnd p bound before count × ((mid : State) × Step p before e.tid e mid × GoesOn p bound mid (count + 1) es after)

-- a run of this program on this input: its history, and its end
pub record IsRun (p : Program) (input : List ℤ) (bound : ℕ) (es : List Event) (end : RunEnd) : Type 0 where
  pub last : State
  pub replays : Replay p input es last
  pub goes : GoesOn p bound (start_of p input) 0 es last
  pub ends : EndOf p bound last (length es) end

-- The same by one worker: each event is of the least enabled thread from a number on, or else of the least enabled one. That
-- number is the one behind the last stepped thread.
abbrev pub Ruled : Program → ℕ → State → ℕ → ℕ → List Event → State → ℕ → Type 0
Ruled p bound before count from [] after from' = (before ≡ after) × (from ≡ from')
Ruled p bound before count from (e ∷ es) after from' =
    NoEnd p bound before count × IsNext (is_enabled (functions_of p) before) from e.tid
    × ((mid : State) × Step p before e.tid e mid × Ruled p bound mid (count + 1) (e.tid + 1) es after from')

-- the events that one worker does from the start
abbrev pub IsRuled : Program → List ℤ → ℕ → List Event → Type 0
IsRuled p input bound es = (last : State) × (from : ℕ) × Ruled p bound (start_of p input) 0 0 es last from
