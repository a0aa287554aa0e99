-- The event of a thread is that of the state.
use Rattle.std.proofs.Common.{◌≡◌, ℕ, zero, suc, ◌≤◌, ◌<◌, arith, List, [], ◌∷◌, ◌++◌, true, false, Bool, Some, None, Option, Result, Ok, Err, refl, sym, ap, ◌∙◌, length, map, slice_get, slice_set, slice_index_or, subst}
use Rattle.pl_resource.specs.Faults.{chain}
use Rattle.pl_resource.specs.declared.value.Fault.{Fault}
use Rattle.c_meaning.specs.declared.action.Action.{Action}
use Rattle.c_meaning.specs.declared.code.Block.{Block}
use Rattle.c_meaning.specs.declared.thread.Frame as machine
use Rattle.c_meaning.specs.declared.state.Thread as thread
use Rattle.c_meaning.specs.Tree.{Function}
use Rattle.c_meaning.specs.Effects.{World}
use Rattle.c_meaning.specs.Events.{State, Thread, Frame, Done, ready, is_ended, next_by, next_from, next_of, is_enabled, atomic_at, event_of, event_from, event_of_frame, thread_of, state_after, called}
use Rattle.c_meaning.specs.Machine.{AllFit, frames_shown, frame_shown, Moved, moved_by, moved_of, fork_shown, ForkFits}
use Rattle.c_meaning.specs.States.{thread_shown, ThreadsFit, ThreadAdded, frames_at, IsLast}
use Rattle.c_meaning.proofs.Threads.{shown_snoc}

pub get_shown : (T : List Block) (ts : List thread.Thread) (t : ℕ) → slice_index_or (map (thread_shown T) ts) t [] ≡ frames_shown T (frames_at (slice_get ts t))
get_shown T [] t = refl
get_shown T (x ∷ ts) zero = refl
get_shown T (x ∷ ts) (suc t) = get_shown T ts t

pub set_shown : (T : List Block) (ts : List thread.Thread) (t : ℕ) (x : thread.Thread) → map (thread_shown T) (slice_set ts t x) ≡ slice_set (map (thread_shown T) ts) t (thread_shown T x)
set_shown T [] t x = refl
set_shown T (y ∷ ts) zero x = refl
set_shown T (y ∷ ts) (suc t) x = ap (λ z. thread_shown T y ∷ z) (set_shown T ts t x)

set_same : {A : Type 0} (xs : List A) (t : ℕ) (x : A) → slice_get xs t ≡ Some x → slice_set xs t x ≡ xs
set_same [] t x h = refl
set_same (y ∷ xs) zero x h = cc h
set_same (y ∷ xs) (suc t) x h = ap (λ z. y ∷ z) (set_same xs t x h)

get_mapped : {A B : Type 0} (f : A → B) (xs : List A) (t : ℕ) (x : A) → slice_get xs t ≡ Some x → slice_get (map f xs) t ≡ Some (f x)
get_mapped f [] t x h = cc
get_mapped f (y ∷ xs) zero x h = cc h
get_mapped f (y ∷ xs) (suc t) x h = get_mapped f xs t x h

pub length_map : {A B : Type 0} (f : A → B) (xs : List A) → length (map f xs) ≡ length xs
length_map f [] = refl
length_map f (x ∷ xs) = ap suc (length_map f xs)

pub length_set : {A : Type 0} (xs : List A) (t : ℕ) (x : A) → length (slice_set xs t x) ≡ length xs
length_set [] t x = refl
length_set (y ∷ xs) zero x = refl
length_set (y ∷ xs) (suc t) x = ap suc (length_set xs t x)

pub get_set : {A : Type 0} (xs : List A) (t : ℕ) (x : A) → t < length xs → slice_get (slice_set xs t x) t ≡ Some x
get_set [] t x h = absurd (omega (arith, h))
get_set (y ∷ xs) zero x h = refl
get_set (y ∷ xs) (suc t) x h = get_set xs t x (omega (arith, h))

pub get_at : {A : Type 0} (xs : List A) (t : ℕ) (x : A) → t < length xs → x ≡ slice_index_or xs t x → slice_get xs t ≡ Some x
get_at [] t x h e = absurd (omega (arith, h))
get_at (y ∷ xs) zero x h e = ap Some (sym e)
get_at (y ∷ xs) (suc t) x h e = get_at xs t x (omega (arith, h)) e

-- the frames of a thread, put back with the same calls
pub shown_same : (T : List Block) (ts : List thread.Thread) (t : ℕ) (x y : thread.Thread) → slice_get ts t ≡ Some x → y.frames.items ≡ x.frames.items → map (thread_shown T) (slice_set ts t y) ≡ map (thread_shown T) ts
shown_same T ts t x y h e =
    set_shown T ts t y ∙ (ap (λ z. slice_set (map (thread_shown T) ts) t (frames_shown T z)) e ∙ set_same (map (thread_shown T) ts) t (thread_shown T x) (get_mapped (thread_shown T) ts t x h))

pub fit_get : (T : List Block) (ts : List thread.Thread) (t : ℕ) (x : thread.Thread) → ThreadsFit T ts → slice_get ts t ≡ Some x → AllFit T x.frames.items
fit_get T [] t x h e = cc
fit_get T (y ∷ ts) zero x h e = subst (AllFit T) (ap frames_at e) h.0
fit_get T (y ∷ ts) (suc t) x h e = fit_get T ts t x h.1 e

pub fit_set : (T : List Block) (ts : List thread.Thread) (t : ℕ) (x : thread.Thread) → ThreadsFit T ts → AllFit T x.frames.items → ThreadsFit T (slice_set ts t x)
fit_set T [] t x h k = tt
fit_set T (y ∷ ts) zero x h k = (k, h.1)
fit_set T (y ∷ ts) (suc t) x h k = (h.0, fit_set T ts t x h.1 k)

fit_more : (T : List Block) (ts : List thread.Thread) (x : thread.Thread) → ThreadsFit T ts → AllFit T x.frames.items → ThreadsFit T (ts ++ x ∷ [])
fit_more T [] x h k = (k, tt)
fit_more T (y ∷ ts) x h k = (h.0, fit_more T ts x h.1 k)

pub fit_added : (T : List Block) (before after : List thread.Thread) (o : Option machine.Frame) → ThreadAdded before after o → ThreadsFit T before → ForkFits T o → ThreadsFit T after
fit_added T before after None a h k = subst (ThreadsFit T) (sym a) h
fit_added T before after (Some f) a h k = subst (ThreadsFit T) (sym a.1) (fit_more T before a.0 h (subst (AllFit T) (sym a.2) (k, tt)))

map_more : {A B : Type 0} (f : A → B) (xs : List A) (x : A) → map f (xs ++ x ∷ []) ≡ map f xs ++ f x ∷ []
map_more f [] x = refl
map_more f (y ∷ ys) x = ap (λ z. f y ∷ z) (map_more f ys x)

append_nil : {A : Type 0} (xs : List A) → xs ≡ xs ++ []
append_nil [] = refl
append_nil (x ∷ xs) = ap (λ z. x ∷ z) (append_nil xs)

pub shown_added : (T : List Block) (before after : List thread.Thread) (o : Option machine.Frame) → ThreadAdded before after o → map (thread_shown T) after ≡ map (thread_shown T) before ++ fork_shown T o
shown_added T before after None a = ap (map (thread_shown T)) a ∙ append_nil (map (thread_shown T) before)
shown_added T before after (Some f) a = ap (map (thread_shown T)) a.1 ∙ (map_more (thread_shown T) before a.0 ∙ ap (λ z. map (thread_shown T) before ++ frames_shown T z ∷ []) a.2)

pub length_added : (before after : List thread.Thread) (o : Option machine.Frame) → ThreadAdded before after o → length after ≤ suc (length before)
length_added before after None a = omega (arith, ap length a)
length_added before after (Some f) a = omega (arith, ap length a.1, more before a.0)
  where
    more : (xs : List thread.Thread) (x : thread.Thread) → length (xs ++ x ∷ []) ≡ suc (length xs)
    more [] x = refl
    more (y ∷ ys) x = ap suc (more ys x)

abbrev state_with : State → ℕ → Moved → State
state_with s t m = record { world = m.world; threads = slice_set s.threads t m.frames ++ m.forked }

-- what a thread's event does is what the state's does
moved_by_done : (F : List Function) (s : State) (t : ℕ) (frame : Frame) (callers : Thread) (r : Result Done Fault) (m : Moved) → Ok m ≡ chain r (λ done. Ok (moved_by (called F frame.left) frame callers done)) → chain {B = Action × State} r (λ done. Ok (done.effect.action, state_after F s t frame callers done)) ≡ Ok (m.action, state_with s t m)
moved_by_done F s t frame callers (Err f) m h = cc h
moved_by_done F s t frame callers (Ok done) m h = sym (ap (answer s t) h)
  where
    answer : State → ℕ → Result Moved Fault → Result (Action × State) Fault
    answer s t (Err f) = Err f
    answer s t (Ok m) = Ok (m.action, state_with s t m)

pub moved_event : (F : List Function) (s : State) (t : ℕ) (fs : Thread) → thread_of s t ≡ fs → (m : Moved) → Ok m ≡ moved_of F (length s.threads) fs s.world → event_of F s t ≡ Some (Ok (m.action, state_with s t m))
moved_event F s t [] e m h = cc h
moved_event F s t (frame ∷ callers) e m h = ap (event_from F s t) e ∙ ap Some (moved_by_done F s t frame callers (event_of_frame F (length s.threads) frame s.world) m h)

enabled_done : (F : List Function) (s : State) (frame : Frame) (callers : Thread) (a : Bool) (r : Result Done Fault) (f : Fault) → Err f ≡ chain r (λ done. Ok (moved_by (called F frame.left) frame callers done)) → ready s (next_by a r) ≡ true → ⊥
enabled_done F s frame callers a (Err g) f h k = cc k
enabled_done F s frame callers a (Ok done) f h k = cc h

-- an enabled thread doesn't stand before a fault
pub moved_enabled : (F : List Function) (s : State) (t : ℕ) (fs : Thread) → thread_of s t ≡ fs → (f : Fault) → Err f ≡ moved_of F (length s.threads) fs s.world → is_enabled F s t ≡ true → ⊥
moved_enabled F s t [] e f h k = absurd_by (sym (ap (λ z. ready s (next_from F s z)) e) ∙ k)
  where
    absurd_by : false ≡ true → ⊥
    absurd_by h = cc h
moved_enabled F s t (frame ∷ callers) e f h k =
    enabled_done F s frame callers (atomic_at frame.left) (event_of_frame F (length s.threads) frame s.world) f h (sym (ap (λ z. ready s (next_from F s z)) e) ∙ k)

pub next_told : (F : List Function) (T : List Block) (world : World) (ts : List thread.Thread) (t : ℕ) (f : machine.Frame) → IsLast (frames_at (slice_get ts t)) f → next_by (atomic_at (frame_shown T f).left) (event_of_frame F (length (map (thread_shown T) ts)) (frame_shown T f) world) ≡ next_of F (record { world = world; threads = map (thread_shown T) ts }) t
next_told F T world ts t f l = sym (ap (next_from F (record { world = world; threads = map (thread_shown T) ts })) (get_shown T ts t ∙ (ap (frames_shown T) l.is ∙ shown_snoc T l.before f)))

pub next_ended : (F : List Function) (T : List Block) (world : World) (ts : List thread.Thread) (t : ℕ) → frames_at (slice_get ts t) ≡ [] → next_from F (record { world = world; threads = map (thread_shown T) ts }) [] ≡ next_of F (record { world = world; threads = map (thread_shown T) ts }) t
next_ended F T world ts t e = sym (ap (next_from F (record { world = world; threads = map (thread_shown T) ts })) (get_shown T ts t ∙ ap (frames_shown T) e))

never_ended : (atomic : Bool) (r : Result Done Fault) → false ≡ is_ended (next_by atomic r)
never_ended atomic (Err f) = refl
never_ended atomic (Ok done) = refl

-- a thread with a frame has not ended
pub unended_told : (F : List Function) (T : List Block) (world : World) (ts : List thread.Thread) (t : ℕ) (f : machine.Frame) → IsLast (frames_at (slice_get ts t)) f → false ≡ is_ended (next_of F (record { world = world; threads = map (thread_shown T) ts }) t)
unended_told F T world ts t f l =
    never_ended (atomic_at (frame_shown T f).left) (event_of_frame F (length (map (thread_shown T) ts)) (frame_shown T f) world) ∙ ap is_ended (next_told F T world ts t f l)
