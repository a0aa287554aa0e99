-- Annotated runs and good programs.
use Rattle.std.specs.Prelude.{◌≡◌, ◌≢◌, ◌⊎◌, ℕ, ℤ, Option, Some, None, List, [], ◌∷◌, length, slice_get}
use Rattle.pl_syntax.specs.Tree.{Whole, Stmt, Load, Free, FunDecl}
use Rattle.pl_syntax.specs.Values.{Value, Block, Vars}
use Rattle.pl_syntax.specs.Resource.{Resource, Adds, Sums}
use Rattle.pl_source.specs.Machine.{resource_of, Event, Fault, Frame, Thread, State, Moves, Faults, step, moved, start_of}

-- what an event touches: a cell that it reads, or a whole block that it frees
pub data Touch : Type 0 where
  Reads : (block index field : ℕ) → Touch
  FreesBlock : (block : ℕ) → Touch
  NoCell : Touch

abbrev pub reads_at : Option Value → Touch
reads_at (Some (Block b)) = Reads b 0 0
reads_at _ = NoCell

abbrev pub frees_at : Option Value → Touch
frees_at (Some (Block b)) = FreesBlock b
frees_at _ = NoCell

abbrev pub stmt_touch : Stmt → Vars → Touch
stmt_touch (Load place x (Whole c) is_ghost) vars = reads_at (vars c)
stmt_touch (Free place x) vars = frees_at (vars x)
stmt_touch _ vars = NoCell

abbrev pub left_touch : List Stmt → Vars → Touch
left_touch [] vars = NoCell
left_touch (st ∷ left) vars = stmt_touch st vars

abbrev pub frames_touch : List Frame → Touch
frames_touch [] = NoCell
frames_touch (f ∷ below) = left_touch f.left f.vars

abbrev pub thread_touch : Option Thread → Touch
thread_touch None = NoCell
thread_touch (Some frames) = frames_touch frames

-- what the next event of thread t touches
abbrev pub touch : State → ℕ → Touch
touch s t = thread_touch (slice_get s.threads t)

-- two touches of one cell of which one frees it (a conflict, C11 5.1.2.4)
pub data Conflict : Touch → Touch → Type 0 where
  read_freed : (b i f : ℕ) → Conflict (Reads b i f) (FreesBlock b)
  freed_read : (b i f : ℕ) → Conflict (FreesBlock b) (Reads b i f)
  freed_twice : (b : ℕ) → Conflict (FreesBlock b) (FreesBlock b)

-- two different threads stand before events that conflict
pub record Race (s : State) (t u : ℕ) : Type 0 where
  pub apart : t ≢ u
  pub conflict : Conflict (touch s t) (touch s u)

-- a thread stands before an event
pub record StandsBefore (s : State) (t : ℕ) : Type 0 where
  pub event : Event
  pub after : State
  pub is : step s t ≡ Moves event after

-- no thread faults, no two race, and each thread has ended or stands before an event
pub record IsFine (s : State) : Type 0 where
  pub no_fault : (t : ℕ) (kind : Fault) → step s t ≢ Faults kind
  pub no_race : (t u : ℕ) → Race s t u → ⊥
  pub ready : (t : ℕ) (frames : Thread) → slice_get s.threads t ≡ Some frames → (frames ≡ []) ⊎ StandsBefore s t

-- a split of what there is to own in a state: a part for each thread, and what was dropped
pub record Split (s : State) : Type 0 where
  pub parts : List Resource
  pub held : Resource
  pub dropped : Resource
  pub one_each : length parts ≡ length s.threads
  pub parts_sum : Sums parts held
  pub adds : Adds held dropped (resource_of s.heap)

-- an event of thread t changes no other thread's part, and what was dropped only grows
pub record Keeps (t : ℕ) {s s' : State} (a : Split s) (b : Split s') : Type 0 where
  pub others : (u : ℕ) → u ≢ t → slice_get b.parts u ≡ slice_get a.parts u
  pub more : Resource
  pub grows : Adds a.dropped more b.dropped

-- a run of the listed threads with a split for each of its states, in which each state is fine
abbrev pub RunSplits : List ℕ → (s : State) → Split s → Type 0
RunSplits [] s a = IsFine s
RunSplits (t ∷ ts) s a = IsFine s × ((b : Split (moved s (step s t))) × Keeps t a b × RunSplits ts (moved s (step s t)) b)

-- for every input, every run has an annotation, and each of its states is fine
pub record Good (main : FunDecl) : Type 0 where
  pub first : (input : List ℤ) → Split (start_of main input)
  pub runs : (input : List ℤ) (ts : List ℕ) → RunSplits ts (start_of main input) (first input)
