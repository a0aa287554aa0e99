-- What the answer of a replay says.
use Rattle.std.specs.Prelude.{◌≡◌, ℕ, ℤ, false, List, Option, Some, None, take, slice_get}
use Rattle.c_syntax.specs.Tree.{Program}
use Rattle.c_meaning.specs.declared.action.Event.{Event}
use Rattle.c_meaning.specs.Resolve.{functions_of}
use Rattle.c_meaning.specs.Events.{State, is_enabled}
use Rattle.c_meaning.specs.Steps.{Step, Replay}
use Rattle.c_history.specs.declared.replaying.Replayed.{Replayed}
use Rattle.c_history.specs.declared.replaying.Replayed.TheVariants as replayed

-- the event that the thread would do; none where it isn't there, has ended, waits or stands before a fault
abbrev pub Expects : Program → State → ℕ → Option Event → Type 0
Expects p state t (Some event) = (after : State) × Step p state t event after
Expects p state t None = is_enabled (functions_of p) state t ≡ false

-- the events before event k are steps from the start, and event k isn't one
pub record DiffersAt (p : Program) (input : List ℤ) (events : List Event) (k : ℕ) (expected : Option Event) (found : Event) : Type 0 where
  pub before : State
  pub follows : Replay p input (take k events) before
  pub there : slice_get events k ≡ Some found
  pub no_step : (after : State) → Step p before found.tid found after → ⊥
  pub expects : Expects p before found.tid expected

-- all events are steps, and there is the state after them; or there is a first that isn't one
abbrev pub Tells : Program → List ℤ → List Event → Replayed → Type 0
Tells p input events replayed.Follows = (state : State) × Replay p input events state
Tells p input events (replayed.Differs k expected found) = DiffersAt p input events k expected found
