-- States of a program, and what a thread stands before.
use Rattle.std.specs.Prelude.{ℕ, ◌&&◌, Bool, true, false, List, [], ◌∷◌, ◌++◌, Option, Some, None, Result, Ok, Err, length, replicate, slice_get, slice_set, slice_index_or}
use Rattle.pl_resource.specs.Faults.{chain}
use Rattle.pl_resource.specs.LockTable.{is_free_of}
use Rattle.pl_resource.specs.declared.lock_table.Lock.{Lock}
use Rattle.pl_resource.specs.declared.value.Fault.{Fault}
use Rattle.pl_resource.specs.declared.value.Fault.TheVariants as fault
use Rattle.pl_resource.specs.declared.value.Value.{Value}
use Rattle.pl_resource.specs.declared.value.Value.TheVariants as value
use Rattle.c_meaning.specs.declared.action.Action.{Action}
use Rattle.c_meaning.specs.declared.action.Action.TheVariants as act
use Rattle.c_meaning.specs.declared.action.Next.{Next}
use Rattle.c_meaning.specs.declared.action.Next.TheVariants as next
use Rattle.c_meaning.specs.Tree.{Stmts, Let, If, While, Check, Do, end, more, both, Basic, Call, Fork, Function}
use Rattle.c_meaning.specs.Values.{Env, Outcome, eval}
use Rattle.c_meaning.specs.Local.{settle, rested}
use Rattle.c_meaning.specs.Effects.{World, Own, Effect, Turn, Past, Calls, Forks, Returns, effect_of}
use Rattle.c_meaning.specs.Touches.{touch_of, is_atomic}

-- a call that isn't over: the statements left, the locals, the local of the caller that gets the result, and the thread
-- that it forked last
pub record Frame : Type 0 where
  pub left : Stmts
  pub env : Env
  pub into : Option ℕ
  pub child : Option ℕ

-- a thread: its frames, the innermost first; none where it has ended
abbrev pub Thread : Type 0
Thread = List Frame

-- what the threads share, and the threads by number
pub record State : Type 0 where
  pub world : World
  pub threads : List Thread

-- ---- functions

abbrev pub no_function : Function
no_function = record { body = end; slots = 0 }

abbrev pub or_none : Option Function → Function
or_none None = no_function
or_none (Some f) = f

-- the function of that number, if one is called
abbrev pub function_numbered : List Function → Option ℕ → Function
function_numbered functions None = no_function
function_numbered functions (Some f) = or_none (slice_get functions f)

-- the number of the function that a statement calls
abbrev pub callee : Basic → Option ℕ
callee (Call into f args) = Some f
callee (Fork f args) = Some f
callee _ = None

abbrev pub callee_at : Stmts → Option ℕ
callee_at (more (Do b) rest) = callee b
callee_at _ = None

-- the function that the next statement calls
abbrev pub called : List Function → Stmts → Function
called functions left = function_numbered functions (callee_at left)

-- the locals of a function before its arguments are in them
abbrev pub blank : Function → Env
blank f = replicate f.slots value.Null

-- a frame after its local statements
abbrev pub settled : Stmts → Env → Option ℕ → Option ℕ → Frame
settled left env into child =
    let stands = rested (settle left env) in
    record { left = stands.1; env = stands.0; into = into; child = child }

-- a function begins with these locals
abbrev pub begun : Function → Env → Option ℕ → Frame
begun f locals into = settled f.body locals into None

-- ---- the event of a frame

-- what an event of a frame does, and the statements behind it, whose local ones are still to run
pub record Done : Type 0 where
  pub effect : Effect
  pub left : Stmts

-- a let or a test that is left has a fault
abbrev pub faulted : Outcome → Result Done Fault
faulted (Err f) = Err f
faulted (Ok v) = Err fault.Kind

abbrev pub quiet : Action → Own → World → Turn → Stmts → Done
quiet action own world turn left =
    record { effect = record { action = action; env = own.env; child = own.child; world = world; turn = turn }; left = left }

-- The event of the statements that are left, or the fault before which they stand. A function's end returns, and a loop's
-- head is an event before its loads and its test. `locals` are those of the function that is called.
abbrev pub event_in : ℕ → Env → Stmts → Own → World → Result Done Fault
event_in next locals end own world = Ok (quiet act.Return own world (Returns None) end)
event_in next locals (more (Do b) rest) own world = chain (effect_of next locals b own world) (λ e. Ok (record { effect = e; left = rest }))
event_in next locals (more (While l e b) rest) own world = Ok (quiet act.Turn own world Past (both l (more (Check l e b) rest)))
event_in next locals (more (Check l e b) rest) own world = faulted (eval own.env e)
event_in next locals (more (Let x e) rest) own world = faulted (eval own.env e)
event_in next locals (more (If e a b) rest) own world = faulted (eval own.env e)

-- ---- the event of a thread

abbrev pub own_of : Frame → Own
own_of f = record { env = f.env; child = f.child }

-- a caller's locals after a function has returned
abbrev pub received : Env → Option ℕ → Option Value → Env
received env (Some x) (Some v) = slice_set env x v
received env _ _ = env

-- a caller goes on, if there is one; else the thread has ended
abbrev pub resumed : Option ℕ → Option Value → Thread → Thread
resumed into result [] = []
resumed into result (caller ∷ callers) = settled caller.left (received caller.env into result) caller.into caller.child ∷ callers

-- the frames of a thread after an event of its innermost one
abbrev pub frames_after : Function → Turn → Frame → Thread → Thread
frames_after f Past now callers = settled now.left now.env now.into now.child ∷ callers
frames_after f (Calls locals into) now callers = begun f locals into ∷ now ∷ callers
frames_after f (Forks locals) now callers = settled now.left now.env now.into now.child ∷ callers
frames_after f (Returns result) now callers = resumed now.into result callers

-- the thread that an event starts, if it starts one
abbrev pub forked : Function → Turn → List Thread
forked f (Forks locals) = (begun f locals None ∷ []) ∷ []
forked f _ = []

abbrev pub frame_behind : Frame → Done → Frame
frame_behind frame done = record { left = done.left; env = done.effect.env; into = frame.into; child = done.effect.child }

-- the state after an event of a thread's innermost frame
abbrev pub state_after : List Function → State → ℕ → Frame → Thread → Done → State
state_after functions state t frame callers done =
    let f = called functions frame.left in
    record {
      world = done.effect.world;
      threads = slice_set state.threads t (frames_after f done.effect.turn (frame_behind frame done) callers) ++ forked f done.effect.turn;
    }

-- the event of a frame, in a state with so many threads
abbrev pub event_of_frame : List Function → ℕ → Frame → World → Result Done Fault
event_of_frame functions next frame world = event_in next (blank (called functions frame.left)) frame.left (own_of frame) world

-- the frames of a thread
abbrev pub thread_of : State → ℕ → Thread
thread_of state t = slice_index_or state.threads t []

-- the event of a thread with these frames: its action and the state after it, or the fault before which it stands;
-- none where it has ended
abbrev pub event_from : List Function → State → ℕ → Thread → Option (Result (Action × State) Fault)
event_from functions state t [] = None
event_from functions state t (frame ∷ callers) =
    Some (chain (event_of_frame functions (length state.threads) frame state.world) (λ done.
    Ok (done.effect.action, state_after functions state t frame callers done)))

abbrev pub event_of : List Function → State → ℕ → Option (Result (Action × State) Fault)
event_of functions state t = event_from functions state t (thread_of state t)

-- ---- what a thread stands before

-- whether the next statement is atomic
abbrev pub atomic_at : Stmts → Bool
atomic_at (more (Do b) rest) = is_atomic b
atomic_at _ = false

abbrev pub next_by : Bool → Result Done Fault → Next
next_by atomic (Err f) = next.Fault f
next_by atomic (Ok done) = next.Act (touch_of atomic done.effect.action)

abbrev pub next_from : List Function → State → Thread → Next
next_from functions state [] = next.Ended
next_from functions state (frame ∷ callers) =
    next_by (atomic_at frame.left) (event_of_frame functions (length state.threads) frame state.world)

-- what a thread stands before: an action, a fault or its end
abbrev pub next_of : List Function → State → ℕ → Next
next_of functions state t = next_from functions state (thread_of state t)

-- it has ended
abbrev pub is_ended : Next → Bool
is_ended next.Ended = true
is_ended _ = false

abbrev pub is_truth : Result Bool Fault → Bool
is_truth (Ok b) = b
is_truth (Err f) = false

-- an acquire waits while its lock is held
abbrev pub lock_ready : List Lock → Option ℕ → Bool
lock_ready locks None = true
lock_ready locks (Some k) = is_truth (is_free_of locks k)

abbrev pub is_over : Option Thread → Bool
is_over (Some []) = true
is_over _ = false

-- a join waits until its child has ended
abbrev pub child_ready : List Thread → Option ℕ → Bool
child_ready threads None = true
child_ready threads (Some t) = is_over (slice_get threads t)

abbrev pub ready : State → Next → Bool
ready state (next.Act touch) = lock_ready state.world.locks touch.lock && child_ready state.threads touch.child
ready state _ = false

-- a thread may do its next action
abbrev pub is_enabled : List Function → State → ℕ → Bool
is_enabled functions state t = ready state (next_of functions state t)
