-- A thread may act exactly where it stands before an action and waits for nothing.
use Rattle.std.proofs.Common.{◌≡◌, ℕ, Bool, true, false, not, ◌&&◌, List, [], ◌∷◌, Option, Some, None, Result, Ok, Err, refl, sym, ap, ◌∙◌, if◌then◌else◌, length, map, slice_get, slice_index_or, zero, suc, ◌≤◌, arith, IfOk}
use Rattle.pl_resource.specs.Faults.{chain}
use Rattle.pl_resource.specs.declared.value.Fault.{Fault}
use Rattle.pl_resource.specs.declared.value.Fault.TheVariants as fault
use Rattle.pl_resource.specs.declared.lock_table.Lock.{Lock}
use Rattle.pl_resource.specs.declared.value.Value.{Value}
use Rattle.pl_resource.specs.declared.value.Value.TheVariants as value
use Rattle.c_meaning.specs.declared.action.Action.{Action}
use Rattle.c_meaning.specs.declared.action.Action.TheVariants as act
use Rattle.c_meaning.specs.declared.code.Block.{Block}
use Rattle.c_meaning.specs.declared.thread.Frame as machine
use Rattle.c_meaning.specs.declared.state.Thread as thread
use Rattle.c_meaning.specs.declared.state.Ahead.{Ahead}
use Rattle.c_meaning.specs.Tree.{Stmts, Let, If, While, Check, Do, end, more, Basic, Load, Store, Cas, Make, Free, NewLock, Acquire, Release, Read, Print, Call, Fork, Join, Return, Function}
use Rattle.c_meaning.specs.Values.{Env, Outcome, local_of, eval, eval_onto, arguments}
use Rattle.c_meaning.specs.Effects.{World, Own, Effect, offset_of, base_of, cell_at, eval_number, count_of, has_fields, past, with_locks, lock_of_local, freed, joined, effect_of}
use Rattle.c_meaning.specs.Events.{State, Thread, Done, faulted, event_in, event_from, event_of, event_of_frame, next_by, next_from, next_of, thread_of, state_after, atomic_at, ready, is_enabled, own_of, lock_ready, child_ready}
use Rattle.c_meaning.specs.Machine.{frame_shown}
use Rattle.c_meaning.specs.States.{thread_shown, frames_at, IsLast}
use Rattle.c_meaning.specs.Touches.{is_atomic}
use Rattle.c_meaning.specs.Waits.{acts, lock_waits, waits_for, waits_at}
use Rattle.c_meaning.proofs.StateEvents.{next_told, next_ended}
use Rattle.pl_resource.specs.LockTable.{set_of, end_of}
use Rattle.pl_resource.specs.Heap.{load_of, store_of, cas_of, free_of}

module _ (s : State) (rest : Stmts) where
  abbrev stands : Bool → Result Effect Fault → Bool × Bool
  stands a r =
      let n = next_by a (chain r (λ e. Ok (record { effect = e; left = rest }))) in
      (ready s n, acts n)

  -- nothing is waited for
  record Free_to (a : Bool) (r : Result Effect Fault) : Type 0 where
    is : (stands a r).0 ≡ (stands a r).1

  through : {A : Type 0} (a : Bool) (r : Result A Fault) (g : A → Result Effect Fault) → ((x : A) → Free_to a (g x)) → Free_to a (chain r g)
  through a (Err e) g k = record { is = refl }
  through a (Ok x) g k = k x

  by_test : (a t : Bool) (r : Result Effect Fault) (f : Fault) → Free_to a r → Free_to a (if t then r else Err f)
  by_test a true r f k = k
  by_test a false r f k = record { is = refl }

  free_free : (own : Own) (world : World) (v : Value) → Free_to false (freed own world v)
  free_free own world (value.Block b) = through false (free_of world.blocks b) _ (λ blocks. record { is = refl })
  free_free own world (value.Lock k) = through false (end_of world.locks k) _ (λ locks. record { is = refl })
  free_free own world value.Null = record { is = refl }
  free_free own world (value.Int n) = record { is = refl }
  free_free own world (value.Truth b) = record { is = refl }

  -- whether it may act is that it stands before an action and doesn't wait
  record Told (waits a : Bool) (r : Result Effect Fault) : Type 0 where
    is : (stands a r).0 ≡ (not waits && (stands a r).1)

  told_free : (a : Bool) (r : Result Effect Fault) → Free_to a r → Told false a r
  told_free a r k = record { is = k.is }

  acquired : (own : Own) (world : World) (lock : Result ℕ Fault) → Told (lock_waits s lock) false (chain lock (λ k. chain (set_of world.locks k true) (λ locks. past (act.Acquire k) own (with_locks world locks))))
  acquired own world (Err f) = record { is = refl }
  acquired own world (Ok k) = by_set (set_of world.locks k true) (lock_ready s.world.locks (Some k)) refl
    where
      by_set : (r : Result (List Lock) Fault) (free : Bool) → lock_ready s.world.locks (Some k) ≡ free → Told (not (lock_ready s.world.locks (Some k))) false (chain r (λ locks. past (act.Acquire k) own (with_locks world locks)))
      by_set (Err f) true h = record { is = rw h refl }
      by_set (Err f) false h = record { is = rw h refl }
      by_set (Ok locks) true h = record { is = rw h refl }
      by_set (Ok locks) false h = record { is = rw h refl }

  join_told : (own : Own) (world : World) (child : Option ℕ) → Told (not (child_ready s.threads child)) false (joined own world child)
  join_told own world None = record { is = refl }
  join_told own world (Some t) = by_child (child_ready s.threads (Some t)) refl
    where
      by_child : (over : Bool) → child_ready s.threads (Some t) ≡ over → Told (not (child_ready s.threads (Some t))) false (joined own world (Some t))
      by_child true h = record { is = rw h refl }
      by_child false h = record { is = rw h refl }

  told : (n : ℕ) (blank : Env) (b : Basic) (own : Own) (world : World) → Told (waits_for b own s) (is_atomic b) (effect_of n blank b own world)
  told n blank (Load x place a) own world = told_free a _ (through a (offset_of own.env place) _ (λ at. through a (cell_at own.env (base_of place) at) _ (λ cell. through a (load_of world.blocks cell a) _ (λ v. record { is = refl }))))
  told n blank (Store place e a) own world = told_free a _ (through a (offset_of own.env place) _ (λ at. through a (eval own.env e) _ (λ v. through a (cell_at own.env (base_of place) at) _ (λ cell. through a (store_of world.blocks cell a v) _ (λ blocks. record { is = refl })))))
  told n blank (Cas x base old new) own world = told_free true _ (through true (eval_number own.env old) _ (λ a. through true (eval_number own.env new) _ (λ b. through true (cell_at own.env base (record { index = 0; field = 0 })) _ (λ cell. through true (cas_of world.blocks cell a b) _ (λ swap. record { is = refl })))))
  told n blank (Make x a first count) own world = told_free false _ (through false (eval_onto [] own.env first) _ (λ values. through false (eval_number own.env count) _ (λ m. through false (count_of m) _ (λ c. by_test false (has_fields values) _ fault.Kind (record { is = refl })))))
  told n blank (Free base) own world = told_free false _ (through false (local_of own.env base) _ (free_free own world))
  told n blank (NewLock x) own world = record { is = refl }
  told n blank (Acquire l) own world = acquired own world (lock_of_local own.env l)
  told n blank (Release l) own world = told_free false _ (through false (lock_of_local own.env l) _ (λ k. through false (set_of world.locks k false) _ (λ locks. record { is = refl })))
  told n blank (Read x) own world = record { is = refl }
  told n blank (Print e) own world = told_free false _ (through false (eval_number own.env e) _ (λ m. record { is = refl }))
  told n blank (Call into f args) own world = told_free false _ (through false (arguments own.env args 1 blank) _ (λ locals. record { is = refl }))
  told n blank (Fork f args) own world = told_free false _ (through false (arguments own.env args 1 blank) _ (λ locals. record { is = refl }))
  told n blank Join own world = join_told own world own.child
  told n blank (Return e) own world = told_free false _ (through false (eval own.env e) _ (λ v. record { is = refl }))

fault_told : (s : State) (r : Outcome) → ready s (next_by false (faulted r)) ≡ acts (next_by false (faulted r))
fault_told s (Err f) = refl
fault_told s (Ok v) = refl

-- the same of statements
left_told : (s : State) (n : ℕ) (blank : Env) (left : Stmts) (own : Own) (world : World) → ready s (next_by (atomic_at left) (event_in n blank left own world)) ≡ (not (waits_at left own s) && acts (next_by (atomic_at left) (event_in n blank left own world)))
left_told s n blank end own world = refl
left_told s n blank (more (Do b) rest) own world = (told s rest n blank b own world).is
left_told s n blank (more (While l e b) rest) own world = refl
left_told s n blank (more (Check l e b) rest) own world = fault_told s (eval own.env e)
left_told s n blank (more (Let x e) rest) own world = fault_told s (eval own.env e)
left_told s n blank (more (If e a b) rest) own world = fault_told s (eval own.env e)

module _ (F : List Function) (T : List Block) (world : World) (ts : List thread.Thread) (t : ℕ) where
  abbrev state : State
  state = record { world = world; threads = map (thread_shown T) ts }

  pub frame_told : (f : machine.Frame) → IsLast (frames_at (slice_get ts t)) f → is_enabled F state t ≡ (not (waits_at (frame_shown T f).left (own_of (frame_shown T f)) state) && acts (next_of F state t))
  frame_told f last =
      let told = next_told F T world ts t f last in
      sym (ap (ready state) told) ∙ (left_told state _ _ (frame_shown T f).left (own_of (frame_shown T f)) world ∙ ap (λ z. not (waits_at (frame_shown T f).left (own_of (frame_shown T f)) state) && acts z) told)

  pub ended_told : frames_at (slice_get ts t) ≡ [] → is_enabled F state t ≡ false
  ended_told h = sym (ap (ready state) (next_ended F T world ts t h))

acts_by : (a : Bool) (r : Result Done Fault) (f : Done → Action × State) (x : Action × State) → Some (chain r (λ done. Ok (f done))) ≡ Some (Ok x) → acts (next_by a r) ≡ true
acts_by a (Err g) f x h = cc h
acts_by a (Ok done) f x h = refl

-- a thread that has an event stands before an action
acts_from : (F : List Function) (s : State) (t : ℕ) (fs : Thread) (x : Action × State) → event_from F s t fs ≡ Some (Ok x) → acts (next_from F s fs) ≡ true
acts_from F s t [] x h = cc h
acts_from F s t (frame ∷ callers) x h = acts_by (atomic_at frame.left) (event_of_frame F (length s.threads) frame s.world) (λ done. (done.effect.action, state_after F s t frame callers done)) x h

pub acts_of : (F : List Function) (s : State) (t : ℕ) (x : Action × State) → event_of F s t ≡ Some (Ok x) → acts (next_of F s t) ≡ true
acts_of F s t x h = acts_from F s t (thread_of s t) x h

-- a thread that isn't there may do nothing
pub not_there : (F : List Function) (s : State) (t : ℕ) → length s.threads ≤ t → is_enabled F s t ≡ false
not_there F s t h = ap (λ z. ready s (next_from F s z)) (none s.threads t h)
  where
    none : (xs : List Thread) (t : ℕ) → length xs ≤ t → slice_index_or xs t [] ≡ []
    none [] t h = refl
    none (x ∷ xs) zero h = absurd (omega arith)
    none (x ∷ xs) (suc t) h = none xs t (omega (arith, h))

-- what is told of a thread's last frame is told of the thread
pub waits_of : {E : Type 0} (T : List Block) (world : World) (ts : List thread.Thread) (t : ℕ) (f : machine.Frame) → IsLast (frames_at (slice_get ts t)) f → (r : Result Ahead E) → IfOk r (λ ahead. ahead.waits ≡ waits_at (frame_shown T f).left (own_of (frame_shown T f)) (record { world = world; threads = map (thread_shown T) ts })) → IfOk r (λ ahead. (F : List Function) → is_enabled F (record { world = world; threads = map (thread_shown T) ts }) t ≡ (not ahead.waits && acts (next_of F (record { world = world; threads = map (thread_shown T) ts }) t)))
waits_of T world ts t f last (Err e) told = tt
waits_of T world ts t f last (Ok ahead) told = λ F. frame_told F T world ts t f last ∙ ap (λ z. not z && acts (next_of F (record { world = world; threads = map (thread_shown T) ts }) t)) (sym told)
