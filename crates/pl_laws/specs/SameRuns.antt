-- The runs of a source program and the runs of a C program are the same.
use Rattle.std.specs.Prelude.{◌≡◌, ℕ, ℤ, Bool, true, false, List, [], ◌∷◌, map, Option, Some, option_map, slice_get}
use Rattle.pl_resource.specs.Heap as resource
use Rattle.pl_resource.specs.declared.value.Value as cvalue
use Rattle.pl_resource.specs.declared.value.Value.TheVariants as value
use Rattle.pl_resource.specs.declared.value.Fault as cfault
use Rattle.pl_resource.specs.declared.value.Fault.TheVariants as fault
use Rattle.c_syntax.specs.Tree as tree
use Rattle.c_meaning.specs.declared.action.Action.{Action}
use Rattle.c_meaning.specs.declared.action.Action.TheVariants as act
use Rattle.c_meaning.specs.declared.action.Event as cevent
use Rattle.c_meaning.specs.declared.action.Next.{Next}
use Rattle.c_meaning.specs.declared.action.Next.TheVariants as next
use Rattle.c_meaning.specs.Resolve.{functions_of}
use Rattle.c_meaning.specs.Touches.{touch_of}
use Rattle.c_meaning.specs.Events.{next_of, is_over}
use Rattle.c_meaning.specs.Events as machine
use Rattle.c_meaning.specs.Steps.{Replay}
use Rattle.pl_syntax.specs.Tree.{FunDecl}
use Rattle.pl_syntax.specs.Values.{Value, Number, Truth, Null, Block}
use Rattle.pl_source.specs.Machine.{HeapBlock, Heap, Event, AllocEvent, LoadEvent, FreeEvent, PrintEvent, ReturnEvent, Fault, DeadBlock, OutsideBlock, WrongKind, NullPointer, Thread, State, Outcome, Moves, Stands, Faults, Stuck, step, start_of}

-- ---- runs of the source

-- an event of a thread
pub record Told : Type 0 where
  pub thread : ℕ
  pub event : Event

-- these events, one after another, lead from one state to another
abbrev pub Leads : State → List Told → State → Type 0
Leads before [] after = before ≡ after
Leads before (e ∷ es) after = (mid : State) × (step before e.thread ≡ Moves e.event mid) × Leads mid es after

-- ---- events

-- a value in C
abbrev pub c_value : Value → cvalue.Value
c_value (Number n) = value.Int n
c_value (Truth b) = value.Truth b
c_value Null = value.Null
c_value (Block b) = value.Block b

-- the action of an event in C
abbrev pub c_action : Event → Action
c_action (AllocEvent block count) = act.Alloc block count
c_action (LoadEvent block index field w) = act.Load (record { block = block; index = index; field = field }) (c_value w)
c_action (FreeEvent block) = act.Free block
c_action (PrintEvent n) = act.Print n
c_action ReturnEvent = act.Return

-- the event in C. No statement that is built is a ghost one, so no event is left out
abbrev pub c_event : Told → cevent.Event
c_event e = record { tid = e.thread; action = c_action e.event }

-- the fault in C
abbrev pub c_fault : Fault → cfault.Fault
c_fault DeadBlock = fault.Dead
c_fault OutsideBlock = fault.Outside
c_fault WrongKind = fault.Kind
c_fault NullPointer = fault.Null

-- ---- states

-- a block in C: the same mark, and the same values of its cells
abbrev pub c_block : HeapBlock → resource.Block
c_block block = record { atomic = block.atomic; elements = map (map c_value) block.elements }

-- the blocks in C, by the same numbers
abbrev pub c_blocks : Heap → resource.Blocks
c_blocks heap = map (option_map c_block) heap

-- what threads share is the same: the blocks, the marks of locks (the source has no lock yet), the numbers of the input that
-- are left, and what was printed
pub record SameShared (s : State) (c : machine.State) : Type 0 where
  pub blocks : c.world.blocks ≡ c_blocks s.heap
  pub marks : map (λ lock. lock.mark) c.world.locks ≡ []
  pub input : c.world.input ≡ s.input
  pub outputs : c.world.outputs ≡ s.out

-- a thread stands before the same: its end, the same fault, or an event that touches the same
abbrev pub SameNext : Outcome → Next → Type 0
SameNext Stands n = n ≡ next.Ended
SameNext (Faults kind) n = n ≡ next.Fault (c_fault kind)
SameNext (Moves e after) n = n ≡ next.Act (touch_of false (c_action e))
SameNext Stuck n = ⊥

-- a thread that is there has ended
abbrev pub has_ended : Option Thread → Bool
has_ended (Some []) = true
has_ended _ = false

-- each thread stands before the same, and the same threads have ended
pub record SameThreads (p : tree.Program) (s : State) (c : machine.State) : Type 0 where
  pub stands : (t : ℕ) → SameNext (step s t) (next_of (functions_of p) c t)
  pub ended : (t : ℕ) → has_ended (slice_get s.threads t) ≡ is_over (slice_get c.threads t)

-- for every input: the events of each source run are a run of the C program, and what is shared is the same after it; and each
-- run of the C program is the events of some source run, after which what is shared is the same and each thread stands before
-- the same
pub record SameRuns (main : FunDecl) (p : tree.Program) : Type 0 where
  pub first : (input : List ℤ) (es : List Told) (s : State) → Leads (start_of main input) es s → (c : machine.State) × Replay p input (map c_event es) c × SameShared s c
  pub second : (input : List ℤ) (events : List cevent.Event) (c : machine.State) → Replay p input events c →
      (es : List Told) × (s : State) × Leads (start_of main input) es s × (map c_event es ≡ events) × SameShared s c × SameThreads p s c
