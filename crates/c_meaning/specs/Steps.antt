-- The runs of a C program.
use Rattle.std.specs.Prelude.{◌≡◌, ℕ, ℤ, ◌<◌, ◌&&◌, ◌||◌, not, ◌==◌, Bool, true, List, [], ◌∷◌, Option, Some, None, Ok, if◌then◌else◌}
use Rattle.pl_resource.specs.declared.value.Cell.{Cell}
use Rattle.pl_resource.specs.declared.value.Fault.{Fault}
use Rattle.c_syntax.specs.Tree.{Program}
use Rattle.c_meaning.specs.declared.action.Event.{Event}
use Rattle.c_meaning.specs.declared.action.Touch.{Touch}
use Rattle.c_meaning.specs.declared.action.Next.{Next}
use Rattle.c_meaning.specs.declared.action.Next.TheVariants as next
use Rattle.c_meaning.specs.Resolve.{functions_of, main_place}
use Rattle.c_meaning.specs.Events.{State, event_of, next_of, is_enabled, begun, blank, function_numbered}

-- before the first event: one thread, in `main`, without a block or a lock
abbrev pub start_of : Program → List ℤ → State
start_of p input =
    let main = function_numbered (functions_of p) (Some (main_place p)) in
    record {
      world = record { blocks = []; locks = []; input = input; outputs = [] };
      threads = (begun main (blank main) None ∷ []) ∷ [];
    }

-- an event of an enabled thread, from one state to another
pub record Step (p : Program) (before : State) (t : ℕ) (event : Event) (after : State) : Type 0 where
  pub enabled : is_enabled (functions_of p) before t ≡ true
  pub thread : event.tid ≡ t
  pub does : event_of (functions_of p) before t ≡ Some (Ok (event.action, after))

-- a thread stands before a fault
abbrev pub Faults : Program → State → ℕ → Fault → Type 0
Faults p state t f = next_of (functions_of p) state t ≡ next.Fault f

-- these events, one after another, lead from one state to another
abbrev pub Runs : Program → State → List Event → State → Type 0
Runs p before [] after = before ≡ after
Runs p before (e ∷ es) after = (mid : State) × Step p before e.tid e mid × Runs p mid es after

-- the state after these events from the start
abbrev pub Replay : Program → List ℤ → List Event → State → Type 0
Replay p input events state = Runs p (start_of p input) events state

-- ---- races (C11 5.1.2.4)

abbrev pub same_cell : Cell → Cell → Bool
same_cell a b = (a.block == b.block) && (a.index == b.index) && (a.field == b.field)

-- one of them writes, and they aren't both atomic
abbrev pub conflict : Touch → Touch → Bool
conflict s t = (s.writes || t.writes) && not (s.atomic && t.atomic)

-- a free touches every cell of its block
abbrev pub race_by : Touch → Touch → Option Cell → Option Cell → Option ℕ → Option ℕ → Option Cell
race_by s t (Some a) (Some b) _ _ = if conflict s t && same_cell a b then Some a else None
race_by s t (Some a) None _ (Some k) = if a.block == k then Some a else None
race_by s t None (Some b) (Some k) _ = if b.block == k then Some b else None
race_by s t None None (Some j) (Some k) = if j == k then Some (record { block = j; index = 0; field = 0 }) else None
race_by s t _ _ _ _ = None

-- the cell at which two next actions race; it has index 0 and field 0 where both free the block
abbrev pub race_of : Next → Next → Option Cell
race_of (next.Act s) (next.Act t) = race_by s t s.cell t.cell s.block t.block
race_of _ _ = None

-- two threads race at a cell
abbrev pub race_at : Program → State → ℕ → ℕ → Option Cell
race_at p state s t = race_of (next_of (functions_of p) state s) (next_of (functions_of p) state t)

-- the least pair of threads that race, by the first and then by the second, and their cell
pub record Race (p : Program) (state : State) (s t : ℕ) (cell : Cell) : Type 0 where
  pub ordered : s < t
  pub there : race_at p state s t ≡ Some cell
  pub first : (a b : ℕ) → a < b → a < s → race_at p state a b ≡ None
  pub second : (b : ℕ) → s < b → b < t → race_at p state s b ≡ None
