-- The event of the innermost frame is that of the thread.
use Rattle.std.proofs.Common.{◌≡◌, ℕ, ◌-◌, ◌<◌, List, [], ◌∷◌, Some, None, Option, Result, Ok, Err, refl, sym, ap, ◌∙◌, length, take, slice_set, slice_index_or}
use Rattle.std.specs.Prelude.{OnOk}
use Rattle.pl_resource.specs.Faults.{chain}
use Rattle.pl_resource.specs.declared.value.Fault.{Fault}
use Rattle.c_meaning.specs.declared.action.Action.{Action}
use Rattle.c_meaning.specs.declared.act.Turn as code
use Rattle.c_meaning.specs.declared.code.Block.{Block}
use Rattle.c_meaning.specs.declared.thread.Frame as machine
use Rattle.c_meaning.specs.Tree.{Stmts, Let, If, While, Check, Do, end, more, Basic, Load, Store, Cas, Make, Free, NewLock, Acquire, Release, Read, Print, Call, Fork, Join, Return, Function}
use Rattle.c_meaning.specs.Values.{Env}
use Rattle.c_meaning.specs.Blocks.{left}
use Rattle.c_meaning.specs.Effects.{World, Own, Turn, Past, Calls, Forks, Returns, effect_of}
use Rattle.c_meaning.specs.Acts.{turn_of}
use Rattle.c_meaning.specs.Events.{Frame, Thread, Done, callee, callee_at, function_numbered, blank, own_of, event_in, frame_behind, frames_after, forked}
use Rattle.c_meaning.specs.Machine.{frame_shown, frames_shown, stepped, Stride, strides, strode, turned, Moved, moved_of, CallsNext, BlankFor}
use Rattle.c_meaning.proofs.Threads.{old_shown, new_shown}

-- only a call and a fork look at the locals of the function that is called
same_effect : (n : ℕ) (a b : Env) (s : Basic) (own : Own) (world : World) → callee s ≡ None → effect_of n a s own world ≡ effect_of n b s own world
same_effect n a b (Call into f args) own world h = cc h
same_effect n a b (Fork f args) own world h = cc h
same_effect n a b (Load x place atomic) own world h = refl
same_effect n a b (Store place e atomic) own world h = refl
same_effect n a b (Cas x base old new) own world h = refl
same_effect n a b (Make x atomic first count) own world h = refl
same_effect n a b (Free base) own world h = refl
same_effect n a b (NewLock x) own world h = refl
same_effect n a b (Acquire lock) own world h = refl
same_effect n a b (Release lock) own world h = refl
same_effect n a b (Read x) own world h = refl
same_effect n a b (Print e) own world h = refl
same_effect n a b Join own world h = refl
same_effect n a b (Return e) own world h = refl

same_event : (n : ℕ) (a b : Env) (l : Stmts) (own : Own) (world : World) → callee_at l ≡ None → event_in n a l own world ≡ event_in n b l own world
same_event n a b end own world h = refl
same_event n a b (more (Do s) rest) own world h = ap (λ z. chain z (λ e. Ok (record { effect = e; left = rest }))) (same_effect n a b s own world h)
same_event n a b (more (While l e s) rest) own world h = refl
same_event n a b (more (Check l e s) rest) own world h = refl
same_event n a b (more (Let x e) rest) own world h = refl
same_event n a b (more (If e s t) rest) own world h = refl

event_with : (n : ℕ) (callee : Option ℕ) (f : Function) (locals : Env) (l : Stmts) (own : Own) (world : World) → callee ≡ callee_at l → BlankFor callee f locals → event_in n locals l own world ≡ event_in n (blank f) l own world
event_with n None f locals l own world h k = same_event n locals (blank f) l own world (sym h)
event_with n (Some m) f locals l own world h k = ap (λ z. event_in n z l own world) k

abbrev stride_of : Frame → Thread → Done → Stride
stride_of frame callers done = record { action = done.effect.action; turn = done.effect.turn; world = done.effect.world; frames = frame_behind frame done ∷ callers }

abbrev moved_from : Function → Stride → Moved
moved_from f s = record { action = s.action; world = s.world; frames = turned f s.turn s.frames; forked = forked f s.turn }

turned_is : (f : Function) (turn : Turn) (now : Frame) (callers : Thread) → turned f turn (now ∷ callers) ≡ frames_after f turn now callers
turned_is f Past now callers = refl
turned_is f (Calls locals into) now callers = refl
turned_is f (Forks locals) now callers = refl
turned_is f (Returns result) now callers = refl

by_done : (f : Function) (frame : Frame) (callers : Thread) (r : Result Done Fault) → chain (chain r (λ done. Ok (stride_of frame callers done))) (λ s. Ok (moved_from f s)) ≡ chain r (λ done. Ok (record { action = done.effect.action; world = done.effect.world; frames = frames_after f done.effect.turn (frame_behind frame done) callers; forked = forked f done.effect.turn }))
by_done f frame callers (Err e) = refl
by_done f frame callers (Ok done) = ap (λ z. Ok (record { action = done.effect.action; world = done.effect.world; frames = z; forked = forked f done.effect.turn })) (turned_is f done.effect.turn (frame_behind frame done) callers)

abbrev moved_by_of : Function → Frame → Thread → Done → Moved
moved_by_of f frame callers done = record { action = done.effect.action; world = done.effect.world; frames = frames_after f done.effect.turn (frame_behind frame done) callers; forked = forked f done.effect.turn }

-- what a thread does is what its innermost frame does, and where it goes from there
pub strides_moved : (F : List Function) (n : ℕ) (number : Option ℕ) (locals : Env) (thread : Thread) (world : World) → CallsNext number thread → BlankFor number (function_numbered F number) locals → chain (strides n locals thread world) (λ s. Ok (moved_from (function_numbered F number) s)) ≡ moved_of F n thread world
strides_moved F n number locals [] world h k = refl
strides_moved F n number locals (frame ∷ callers) world h k =
    by_done (function_numbered F number) frame callers (event_in n locals frame.left (own_of frame) world)
    ∙ (ap (λ z. chain z (λ done. Ok (moved_by_of (function_numbered F number) frame callers done))) (event_with n number (function_numbered F number) locals frame.left (own_of frame) world h k)
    ∙ ap (λ z. chain (event_in n (blank (function_numbered F z)) frame.left (own_of frame) world) (λ done. Ok (moved_by_of (function_numbered F z) frame callers done))) h)

pub strode_fault : (F : List Function) (n : ℕ) (number : Option ℕ) (locals : Env) (thread : Thread) (world : World) → CallsNext number thread → BlankFor number (function_numbered F number) locals → (f : Fault) → Err f ≡ strides n locals thread world → Err f ≡ moved_of F n thread world
strode_fault F n number locals thread world h k f e = ap (λ z. chain z (λ s. Ok (moved_from (function_numbered F number) s))) e ∙ strides_moved F n number locals thread world h k

pub strode_moves : (F : List Function) (n : ℕ) (number : Option ℕ) (locals : Env) (thread : Thread) (world : World) → CallsNext number thread → BlankFor number (function_numbered F number) locals → (s : Stride) → Ok s ≡ strides n locals thread world → (frames : Thread) (started : List Thread) → frames ≡ turned (function_numbered F number) s.turn s.frames → started ≡ forked (function_numbered F number) s.turn → Ok (record { action = s.action; world = s.world; frames = frames; forked = started }) ≡ moved_of F n thread world
strode_moves F n number locals thread world h k s e frames started a b =
    ap (λ z. Ok (record { action = s.action; world = s.world; frames = z; forked = started })) a
    ∙ (ap (λ z. Ok (record { action = s.action; world = s.world; frames = turned (function_numbered F number) s.turn s.frames; forked = z })) b
    ∙ (ap (λ z. chain z (λ s. Ok (moved_from (function_numbered F number) s))) e ∙ strides_moved F n number locals thread world h k))

strode_by : (r : Result (Action × code.Turn) Fault) (frame now : Frame) (callers : Thread) (after : World) (left : Env) → now.into ≡ frame.into → strode r (now ∷ callers) after left ≡ chain (stepped r (own_of now) after left now.left) (λ done. Ok (stride_of frame callers done))
strode_by (Err f) frame now callers after left h = refl
strode_by (Ok x) frame now callers after left h = ap (λ z. Ok (record { action = x.0; turn = turn_of left x.1; world = after; frames = (record { left = now.left; env = now.env; into = z; child = now.child }) ∷ callers })) h

-- an event of the innermost frame
pub strode_is : (n : ℕ) (r : Result (Action × code.Turn) Fault) (frame now : Frame) (callers : Thread) (before after : World) (locals left : Env) → now.into ≡ frame.into → stepped r (own_of now) after left now.left ≡ event_in n locals frame.left (own_of frame) before → strode r (now ∷ callers) after left ≡ strides n locals (frame ∷ callers) before
strode_is n r frame now callers before after locals left h e = strode_by r frame now callers after left h ∙ ap (λ z. chain z (λ done. Ok (stride_of frame callers done))) e

pub stride_told : (T : List Block) (count : ℕ) (old new : List machine.Frame) (x y : machine.Frame) → length old ≡ count → 0 < count → x ≡ slice_index_or old (count - 1) x → new ≡ slice_set old (count - 1) y → (n : ℕ) (r : Result (Action × code.Turn) Fault) (before after : World) (locals rest : Env) → y.into ≡ x.into → stepped r (own_of (frame_shown T y)) after rest (left T y.spots.items) ≡ event_in n locals (left T x.spots.items) (own_of (frame_shown T x)) before → strode r (frames_shown T new) after rest ≡ strides n locals (frames_shown T old) before
stride_told T count old new x y len some at put n r before after locals rest i e =
    ap (λ z. strode r z after rest) (new_shown T count old new x y len some at put)
    ∙ (strode_is n r (frame_shown T x) (frame_shown T y) (frames_shown T (take (count - 1) old)) before after locals rest i e
    ∙ sym (ap (λ z. strides n locals z before) (old_shown T count old new x y len some at put)))

pub on_ok : {A E : Type 0} {P Q : Type 0} (r : Result A E) → (P → Q) → OnOk r P → OnOk r Q
on_ok (Ok x) f h = f h
on_ok (Err e) f h = h
