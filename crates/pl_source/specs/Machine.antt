-- What a program does: its state, its events, and its runs as lists of threads.
use Rattle.std.specs.Prelude.{ℕ, ℤ, pos, Option, Some, None, Bool, true, false, List, [], ◌∷◌, ◌++◌, length, slice_get, set}
use Rattle.pl_base.specs.Permission.{whole}
use Rattle.pl_syntax.specs.Tree.{Name, Whole, Stmt, Load, Alloc, Free, Print, FunDecl, list_of}
use Rattle.pl_syntax.specs.Values.{Value, Number, Null, Block, Vars, no_vars, bind, value_of}
use Rattle.pl_syntax.specs.Resource.{Mark, Plain, Atomic, Cell, FreeToken, Share, Resource}

-- a live block: whether its cells are atomic, and its elements, each a list of its fields
pub record HeapBlock : Type 0 where
  pub atomic : Bool
  pub elements : List (List Value)

-- the blocks that were made, by their numbers; none where one was freed
abbrev pub Heap : Type 0
Heap = List (Option HeapBlock)

abbrev pub if_live : Option (Option HeapBlock) → Option HeapBlock
if_live None = None
if_live (Some block) = block

-- the live block of that number
abbrev pub block_at : Heap → ℕ → Option HeapBlock
block_at h b = if_live (slice_get h b)

abbrev pub field_at : Option (List Value) → ℕ → Option Value
field_at None f = None
field_at (Some fields) f = slice_get fields f

abbrev pub mark_of : Bool → Mark
mark_of true = Atomic
mark_of false = Plain

abbrev pub cell_share : Mark → Option Value → Option Share
cell_share mark None = None
cell_share mark (Some w) = Some (record { permission = whole; value = w; mark = mark })

abbrev pub block_cell : Option HeapBlock → ℕ → ℕ → Option Share
block_cell None i f = None
block_cell (Some block) i f = cell_share (mark_of block.atomic) (field_at (slice_get block.elements i) f)

abbrev pub block_token : Option HeapBlock → Option Share
block_token None = None
block_token (Some block) = Some (record { permission = whole; value = Number (pos (length block.elements)); mark = Plain })

-- all that there is to own in a heap: each live cell, and the free token of each live block
abbrev pub resource_of : Heap → Resource
resource_of h (Cell b i f) = block_cell (block_at h b) i f
resource_of h (FreeToken b) = block_token (block_at h b)

-- a recorded action, with its answer
pub data Event : Type 0 where
  AllocEvent : (block count : ℕ) → Event
  LoadEvent : (block index field : ℕ) (w : Value) → Event
  FreeEvent : (block : ℕ) → Event
  PrintEvent : (n : ℤ) → Event
  ReturnEvent : Event

-- why an event is undefined: the block was freed; there is no such cell; the cell is of another kind; the pointer is null
pub data Fault : Type 0 where
  DeadBlock : Fault
  OutsideBlock : Fault
  WrongKind : Fault
  NullPointer : Fault

-- what a statement does in a thread
pub data Effect : Type 0 where
  Goes : (e : Event) (heap : Heap) (vars : Vars) (out : List ℤ) → Effect
  FaultsBy : (kind : Fault) → Effect
  -- an expression has no value, or one of another sort
  HasNone : Effect

-- a new block of one cell
abbrev pub one_cell : Value → HeapBlock
one_cell w = record { atomic = false; elements = (w ∷ []) ∷ [] }

abbrev pub alloc_effect : Name → Option Value → Heap → Vars → Effect
alloc_effect x None h vars = HasNone
alloc_effect x (Some w) h vars = Goes (AllocEvent (length h) 1) (h ++ Some (one_cell w) ∷ []) (bind x (Block (length h)) vars) []

abbrev pub load_plain : Name → ℕ → Bool → Value → Heap → Vars → Effect
load_plain x b true w h vars = FaultsBy WrongKind
load_plain x b false w h vars = Goes (LoadEvent b 0 0 w) h (bind x w vars) []

abbrev pub load_cell : Name → ℕ → HeapBlock → Option Value → Heap → Vars → Effect
load_cell x b block None h vars = FaultsBy OutsideBlock
load_cell x b block (Some w) h vars = load_plain x b block.atomic w h vars

abbrev pub load_block : Name → ℕ → Option HeapBlock → Heap → Vars → Effect
load_block x b None h vars = FaultsBy DeadBlock
load_block x b (Some block) h vars = load_cell x b block (field_at (slice_get block.elements 0) 0) h vars

abbrev pub load_at : Name → Option Value → Heap → Vars → Effect
load_at x (Some (Block b)) h vars = load_block x b (block_at h b) h vars
load_at x (Some Null) h vars = FaultsBy NullPointer
load_at x _ h vars = HasNone

abbrev pub free_block : ℕ → Option HeapBlock → Heap → Vars → Effect
free_block b None h vars = FaultsBy DeadBlock
free_block b (Some block) h vars = Goes (FreeEvent b) (set h b None) vars []

abbrev pub free_at : Option Value → Heap → Vars → Effect
free_at (Some (Block b)) h vars = free_block b (block_at h b) h vars
free_at (Some Null) h vars = FaultsBy NullPointer
free_at _ h vars = HasNone

abbrev pub print_effect : Option Value → Heap → Vars → Effect
print_effect (Some (Number n)) h vars = Goes (PrintEvent n) h vars (n ∷ [])
print_effect _ h vars = HasNone

-- the effect of a statement; the other forms aren't built yet
abbrev pub effect : Stmt → Heap → Vars → Effect
effect (Load place x (Whole c) is_ghost) h vars = load_at x (vars c) h vars
effect (Alloc place x e) h vars = alloc_effect x (value_of vars e) h vars
effect (Free place x) h vars = free_at (vars x) h vars
effect (Print place e) h vars = print_effect (value_of vars e) h vars
effect _ h vars = HasNone

-- a call that isn't over: the statements that are left, and its variables
pub record Frame : Type 0 where
  pub left : List Stmt
  pub vars : Vars

-- a thread is a stack of frames; it has ended where none is left
abbrev pub Thread : Type 0
Thread = List Frame

pub record State : Type 0 where
  pub heap : Heap
  -- the numbers that were not read yet
  pub input : List ℤ
  -- the numbers that were printed
  pub out : List ℤ
  pub threads : List Thread

pub data Outcome : Type 0 where
  Moves : (e : Event) (s : State) → Outcome
  -- the thread has ended, or isn't there
  Stands : Outcome
  Faults : (kind : Fault) → Outcome
  -- the statement that stands next has no event
  Stuck : Outcome

abbrev pub on_effect : State → ℕ → List Frame → List Stmt → Effect → Outcome
on_effect s t below left (Goes e h vars out) = Moves e (record { heap = h; input = s.input; out = s.out ++ out; threads = set s.threads t (record { left = left; vars = vars } ∷ below) })
on_effect s t below left (FaultsBy kind) = Faults kind
on_effect s t below left HasNone = Stuck

abbrev pub step_left : State → ℕ → Frame → List Frame → List Stmt → Outcome
step_left s t f below [] = Moves ReturnEvent (record s { threads = set s.threads t below })
step_left s t f below (st ∷ left) = on_effect s t below left (effect st s.heap f.vars)

abbrev pub step_frames : State → ℕ → List Frame → Outcome
step_frames s t [] = Stands
step_frames s t (f ∷ below) = step_left s t f below f.left

abbrev pub step_thread : State → ℕ → Option Thread → Outcome
step_thread s t None = Stands
step_thread s t (Some frames) = step_frames s t frames

-- the event of thread t
abbrev pub step : State → ℕ → Outcome
step s t = step_thread s t (slice_get s.threads t)

abbrev pub moved : State → Outcome → State
moved s (Moves e s') = s'
moved s Stands = s
moved s (Faults kind) = s
moved s Stuck = s

-- the state after the listed threads took their turns; those that stand are skipped
abbrev pub run : List ℕ → State → State
run [] s = s
run (t ∷ ts) s = run ts (moved s (step s t))

-- one thread, before the statements of `main`
abbrev pub start_of : FunDecl → List ℤ → State
start_of main input = record { heap = []; input = input; out = []; threads = (record { left = list_of main.body; vars = no_vars } ∷ []) ∷ [] }
