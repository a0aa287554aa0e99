-- What a machine holds, and the state that it shows.
use Rattle.std.specs.Prelude.{◌≡◌, ℕ, ◌<◌, ⊤, List, [], ◌∷◌, ◌++◌, Option, Some, None, map, vec_len, vec_capacity}
use Rattle.c_syntax.specs.Tree.{Program}
use Rattle.c_meaning.specs.declared.code.Block.{Block}
use Rattle.c_meaning.specs.declared.thread.Function as rust
use Rattle.c_meaning.specs.declared.thread.Frame as machine
use Rattle.c_meaning.specs.declared.state.Thread as thread
use Rattle.c_meaning.specs.declared.world.World as w
use Rattle.c_meaning.specs.Tree.{Function}
use Rattle.c_meaning.specs.Resolve.{functions_of}
use Rattle.c_meaning.specs.Acts.{shared}
use Rattle.c_meaning.specs.Events.{State, Thread, function_numbered}
use Rattle.c_meaning.specs.Machine.{functions_shown, frames_shown, AllFit, CallsNext, MakesRoom, IsSpare}

-- the code, the threads, what these share, and the thread for whose next event there is room
pub record Held : Type 0 where
  pub code : List Block
  pub functions : List rust.Function
  pub threads : List thread.Thread
  pub world : w.World
  pub ready : Option ℕ

abbrev pub thread_shown : List Block → thread.Thread → Thread
thread_shown T t = frames_shown T t.frames.items

-- the state of a machine
abbrev pub shown : Held → State
shown h = record { world = shared h.world; threads = map (thread_shown h.code) h.threads }

-- the functions that it runs
abbrev pub runs : Held → List Function
runs h = functions_shown h.code h.functions

-- it is a machine of that program
abbrev pub IsFor : Program → Held → Type 0
IsFor p h = runs h ≡ functions_of p

abbrev pub ThreadsFit : List Block → List thread.Thread → Type 0
ThreadsFit T [] = ⊤
ThreadsFit T (t ∷ ts) = AllFit T t.frames.items × ThreadsFit T ts

abbrev pub FramesRoom : Option thread.Thread → Type 0
FramesRoom None = ⊤
FramesRoom (Some t) = vec_len t.frames < vec_capacity t.frames

abbrev pub frames_at : Option thread.Thread → List machine.Frame
frames_at None = []
frames_at (Some t) = t.frames.items

-- it is the last of those frames
pub record IsLast (fs : List machine.Frame) (f : machine.Frame) : Type 0 where
  pub before : List machine.Frame
  pub is : fs ≡ before ++ f ∷ []

-- the memory that the next event of a thread needs, and which function it calls
pub record HasRoom (T : List Block) (F : List Function) (o : Option thread.Thread) (world : w.World) (callee : Option ℕ) (spare : machine.Frame) : Type 0 where
  pub frames : FramesRoom o
  pub calls : CallsNext callee (frames_shown T (frames_at o))
  pub makes : MakesRoom (frames_shown T (frames_at o)) world
  pub called : IsSpare callee (function_numbered F callee) spare

-- a thread with that frame was added, if there is one
abbrev pub ThreadAdded : List thread.Thread → List thread.Thread → Option machine.Frame → Type 0
ThreadAdded before after None = after ≡ before
ThreadAdded before after (Some f) = (t : thread.Thread) × (after ≡ before ++ t ∷ []) × (t.frames.items ≡ f ∷ [])
