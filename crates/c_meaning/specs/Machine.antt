-- What the frames of the machine show.
use Rattle.std.specs.Prelude.{◌≡◌, ℕ, suc, ◌≤◌, Bool, ⊤, List, [], ◌∷◌, ◌++◌, Option, Some, None, Result, Ok, Err, map, reverse, slice_get, vec_capacity}
use Rattle.pl_resource.specs.Faults.{chain}
use Rattle.pl_resource.specs.declared.value.Fault.{Fault}
use Rattle.pl_resource.specs.declared.value.Fault.TheVariants as fault
use Rattle.pl_resource.specs.declared.value.Value.{Value}
use Rattle.c_meaning.specs.declared.action.Action.{Action}
use Rattle.c_meaning.specs.declared.code.Block.{Block}
use Rattle.c_meaning.specs.declared.code.Op.{Op}
use Rattle.c_meaning.specs.declared.frame.Spot.{Spot}
use Rattle.c_meaning.specs.declared.act.Turn as code
use Rattle.c_meaning.specs.declared.thread.Function as rust
use Rattle.c_meaning.specs.declared.thread.Frame as machine
use Rattle.c_meaning.specs.declared.world.World as w
use Rattle.c_meaning.specs.Tree.{Stmts, more, Do, Function}
use Rattle.c_meaning.specs.Values.{Env}
use Rattle.c_meaning.specs.Local.{nest}
use Rattle.c_meaning.specs.Blocks.{IsTable, tree, stmt_of, testing, left, fits}
use Rattle.c_meaning.specs.Effects.{World, Own, Turn, Past, Calls, Forks, Returns}
use Rattle.c_meaning.specs.Acts.{turn_of}
use Rattle.c_meaning.specs.Rooms.{BlockRoom}
use Rattle.c_meaning.specs.Events.{Frame, Thread, Done, event_in, own_of, event_of_frame, callee_at, called, blank, no_function, begun, resumed, frames_after, frame_behind, forked}

abbrev pub function_shown : List Block → rust.Function → Function
function_shown T f = record { body = tree T f.body; slots = f.slots }

abbrev pub functions_shown : List Block → List rust.Function → List Function
functions_shown T fs = map (function_shown T) fs

abbrev pub shown_or_none : List Block → Option rust.Function → Function
shown_or_none T None = no_function
shown_or_none T (Some f) = function_shown T f

-- the blocks of a function lie no deeper than it says
abbrev pub IsDeep : List Block → Option rust.Function → Type 0
IsDeep T None = ⊤
IsDeep T (Some f) = nest (tree T f.body) ≤ f.depth

abbrev pub depth_of : Option rust.Function → ℕ
depth_of None = 0
depth_of (Some f) = f.depth

pub record IsCode (T : List Block) (fs : List rust.Function) : Type 0 where
  pub table : IsTable T
  pub deep : (k : ℕ) → IsDeep T (slice_get fs k)

abbrev pub frame_shown : List Block → machine.Frame → Frame
frame_shown T f = record { left = left T f.spots.items; env = f.env.items; into = f.into; child = f.child }

-- the innermost frame stands last in the machine, and first in a thread
abbrev pub frames_shown : List Block → List machine.Frame → Thread
frames_shown T fs = reverse (map (frame_shown T) fs)

abbrev pub FrameFits : List Block → machine.Frame → Type 0
FrameFits T f = fits T 0 (vec_capacity f.spots) f.spots.items

abbrev pub AllFit : List Block → List machine.Frame → Type 0
AllFit T [] = ⊤
AllFit T (f ∷ fs) = FrameFits T f × AllFit T fs

-- the next statement is that of an operation, or its test
pub record AtOp (T : List Block) (l : Stmts) (checks : Bool) (o : Op) : Type 0 where
  pub rest : Stmts
  pub is : l ≡ testing checks (more (stmt_of (tree T) o) rest)

-- a place that was taken out, before an operation
pub record Taken (T : List Block) (room : ℕ) (start : List Spot) (now : List Spot) (s : Spot) (ops : List Op) (o : Op) : Type 0 where
  pub same : left T start ≡ left T (now ++ s ∷ [])
  pub there : slice_get ops s.at ≡ Some o
  pub fits : fits T 0 room (now ++ s ∷ [])

abbrev pub stepped : Result (Action × code.Turn) Fault → Own → World → Env → Stmts → Result Done Fault
stepped (Err f) own world locals l = Err f
stepped (Ok r) own world locals l = Ok (record { effect = record { action = r.0; env = own.env; child = own.child; world = world; turn = turn_of locals r.1 }; left = l })

-- the memory that the next statement needs
abbrev pub BlockRoomAt : Env → Stmts → w.World → Type 0
BlockRoomAt env (more (Do b) rest) world = BlockRoom env b world
BlockRoomAt env _ world = ⊤

-- so many places are enough for that function, where one is called
abbrev pub Places : List Block → Option rust.Function → ℕ → Type 0
Places T None room = ⊤
Places T (Some f) room = suc (nest (tree T f.body)) ≤ room

abbrev pub PlacesFor : Option ℕ → Function → ℕ → Type 0
PlacesFor None f room = ⊤
PlacesFor (Some k) f room = suc (nest f.body) ≤ room

abbrev pub BlankFor : Option ℕ → Function → Env → Type 0
BlankFor None f env = ⊤
BlankFor (Some k) f env = env ≡ blank f

-- a frame for that function, the one of that number, before its arguments are in it; where none is called, one with no place
pub record IsSpare (callee : Option ℕ) (f : Function) (spare : machine.Frame) : Type 0 where
  pub empty : spare.spots.items ≡ []
  pub places : PlacesFor callee f (vec_capacity spare.spots)
  pub blank : BlankFor callee f spare.env.items

-- the number of the function that a thread calls next
abbrev pub CallsNext : Option ℕ → Thread → Type 0
CallsNext callee [] = ⊤
CallsNext callee (f ∷ callers) = callee ≡ callee_at f.left

-- the block, the lock or the number printed that a thread's next event makes has room
abbrev pub MakesRoom : Thread → w.World → Type 0
MakesRoom [] world = ⊤
MakesRoom (f ∷ callers) world = BlockRoomAt f.env f.left world

-- an event of a thread: its action, what the threads share after it, the thread's frames, and the thread that it starts
pub record Moved : Type 0 where
  pub action : Action
  pub world : World
  pub frames : Thread
  pub forked : List Thread

abbrev pub moved_by : Function → Frame → Thread → Done → Moved
moved_by f frame callers done = record {
  action = done.effect.action;
  world = done.effect.world;
  frames = frames_after f done.effect.turn (frame_behind frame done) callers;
  forked = forked f done.effect.turn;
}

abbrev pub moved_of : List Function → ℕ → Thread → World → Result Moved Fault
moved_of F next [] world = Err fault.Kind
moved_of F next (frame ∷ callers) world =
    chain (event_of_frame F next frame world) (λ done. Ok (moved_by (called F frame.left) frame callers done))

-- what the innermost frame does, up to the local statements behind it
pub record Stride : Type 0 where
  pub action : Action
  pub turn : Turn
  pub world : World
  pub frames : Thread

abbrev pub strides : ℕ → Env → Thread → World → Result Stride Fault
strides next locals [] world = Err fault.Kind
strides next locals (frame ∷ callers) world =
    chain (event_in next locals frame.left (own_of frame) world) (λ done.
    Ok (record { action = done.effect.action; turn = done.effect.turn; world = done.effect.world; frames = frame_behind frame done ∷ callers }))

abbrev pub strode : Result (Action × code.Turn) Fault → Thread → World → Env → Result Stride Fault
strode (Err f) frames world locals = Err f
strode (Ok r) frames world locals = Ok (record { action = r.0; turn = turn_of locals r.1; world = world; frames = frames })

-- the innermost frame goes, and its caller goes on
abbrev pub returned : Option Value → Thread → Thread
returned result [] = []
returned result (now ∷ callers) = resumed now.into result callers

-- the frames of a thread behind an event of its innermost one
abbrev pub turned : Function → Turn → Thread → Thread
turned f Past frames = resumed None None frames
turned f (Calls locals into) frames = begun f locals into ∷ frames
turned f (Forks locals) frames = resumed None None frames
turned f (Returns result) frames = returned result frames

abbrev pub fork_shown : List Block → Option machine.Frame → List Thread
fork_shown T None = []
fork_shown T (Some f) = (frame_shown T f ∷ []) ∷ []

abbrev pub advanced : List Block → Result (Action × Option machine.Frame) Fault → Thread → World → Result Moved Fault
advanced T (Err f) frames world = Err f
advanced T (Ok r) frames world = Ok (record { action = r.0; world = world; frames = frames; forked = fork_shown T r.1 })

-- the frames that a started thread has
abbrev pub ForkFits : List Block → Option machine.Frame → Type 0
ForkFits T None = ⊤
ForkFits T (Some f) = FrameFits T f
