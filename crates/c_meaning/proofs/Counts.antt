-- An event makes at most one block, one lock and one thread.
use Rattle.std.proofs.Common.{◌≡◌, ℕ, ℤ, suc, ◌+◌, ◌≤◌, arith, List, [], ◌∷◌, ◌++◌, true, false, Bool, Some, None, Option, Result, Ok, Err, refl, ap, length, slice_set, subst, if◌then◌else◌}
use Rattle.std.specs.Prelude.{⊤}
use Rattle.pl_resource.specs.Faults.{chain}
use Rattle.pl_resource.specs.Heap.{Block, Blocks, made, block_of, store_in, cas_in, load_of, store_of, cas_of, free_of}
use Rattle.pl_resource.specs.LockTable.{usable, is_free, mark_after, marked, set_of, end_of}
use Rattle.pl_resource.specs.declared.lock_table.Lock.{Lock}
use Rattle.pl_resource.specs.declared.lock_table.Mark.{Mark}
use Rattle.pl_resource.specs.declared.lock_table.Mark.TheVariants as mark
use Rattle.pl_resource.specs.declared.value.Cell.{Cell}
use Rattle.pl_resource.specs.declared.value.Fault.{Fault}
use Rattle.pl_resource.specs.declared.value.Fault.TheVariants as fault
use Rattle.pl_resource.specs.declared.value.Value.{Value}
use Rattle.pl_resource.specs.declared.value.Value.TheVariants as value
use Rattle.c_meaning.specs.declared.action.Action.{Action}
use Rattle.c_meaning.specs.declared.action.Action.TheVariants as act
use Rattle.c_meaning.specs.Tree.{Basic, Load, Store, Cas, Make, Free, NewLock, Acquire, Release, Read, Print, Call, Fork, Join, Return, Stmts, Let, If, While, Check, Do, end, more, Function}
use Rattle.c_meaning.specs.Values.{Env, Outcome, local_of, eval, eval_onto, arguments}
use Rattle.c_meaning.specs.Effects.{World, Own, Effect, Turn, Past, Calls, Forks, Returns, offset_of, base_of, cell_at, eval_number, count_of, has_fields, past, binding, with_blocks, with_locks, made_block, lock_of_local, freed, joined, effect_of}
use Rattle.c_meaning.specs.Events.{State, Thread, Frame, Done, faulted, event_in, event_of_frame, event_from, event_of, state_after, thread_of, forked, called, frames_after, frame_behind, blank, own_of}
use Rattle.c_meaning.proofs.StateEvents.{length_set}

-- at most one more of each
abbrev pub Small : World → World → Type 0
Small w v = (length v.blocks ≤ suc (length w.blocks)) × (length v.locks ≤ suc (length w.locks))

abbrev SmallOf : World → Result Effect Fault → Type 0
SmallOf w (Err f) = ⊤
SmallOf w (Ok e) = Small w e.world

record Grows (w : World) (r : Result Effect Fault) : Type 0 where
  all : SmallOf w r

abbrev LenOf : {A : Type 0} → ℕ → Result (List A) Fault → Type 0
LenOf n (Err f) = ⊤
LenOf n (Ok xs) = length xs ≡ n

abbrev SwapLen : ℕ → Result (ℤ × Bool × Blocks) Fault → Type 0
SwapLen n (Err f) = ⊤
SwapLen n (Ok swap) = length swap.2 ≡ n

through : {A : Type 0} (w : World) (r : Result A Fault) (g : A → Result Effect Fault) → ((a : A) → Grows w (g a)) → Grows w (chain r g)
through w (Err f) g k = record { all = tt }
through w (Ok a) g k = k a

through_list : {A : Type 0} (n : ℕ) (w : World) (r : Result (List A) Fault) (g : List A → Result Effect Fault) → LenOf n r → ((xs : List A) → length xs ≡ n → Grows w (g xs)) → Grows w (chain r g)
through_list n w (Err f) g h k = record { all = tt }
through_list n w (Ok xs) g h k = k xs h

through_swap : (n : ℕ) (w : World) (r : Result (ℤ × Bool × Blocks) Fault) (g : (ℤ × Bool × Blocks) → Result Effect Fault) → SwapLen n r → ((s : ℤ × Bool × Blocks) → length s.2 ≡ n → Grows w (g s)) → Grows w (chain r g)
through_swap n w (Err f) g h k = record { all = tt }
through_swap n w (Ok s) g h k = k s h

same_world : (w : World) → Small w w
same_world w = (omega arith, omega arith)

blocks_world : (w : World) (bs : Blocks) → length bs ≡ length w.blocks → Small w (with_blocks w bs)
blocks_world w bs h = (omega (arith, h), omega arith)

locks_world : (w : World) (ls : List Lock) → length ls ≡ length w.locks → Small w (with_locks w ls)
locks_world w ls h = (omega arith, omega (arith, h))

store_len : (bs : Blocks) (cell : Cell) (a : Bool) (v : Value) → LenOf (length bs) (store_of bs cell a v)
store_len bs cell a v = by_block (block_of bs cell.block)
  where
    by_after : (r : Result Block Fault) → LenOf (length bs) (chain r (λ after. Ok (slice_set bs cell.block (Some after))))
    by_after (Err f) = tt
    by_after (Ok after) = length_set bs cell.block (Some after)

    by_block : (r : Result Block Fault) → LenOf (length bs) (chain r (λ block. chain (store_in block cell a v) (λ after. Ok (slice_set bs cell.block (Some after)))))
    by_block (Err f) = tt
    by_block (Ok block) = by_after (store_in block cell a v)

abbrev swapped : Blocks → Cell → (ℤ × Bool × Block) → Result (ℤ × Bool × Blocks) Fault
swapped bs cell swap = Ok (swap.0, swap.1, slice_set bs cell.block (Some swap.2))

cas_len : (bs : Blocks) (cell : Cell) (old new : ℤ) → SwapLen (length bs) (cas_of bs cell old new)
cas_len bs cell old new = by_block (block_of bs cell.block)
  where
    by_after : (r : Result (ℤ × Bool × Block) Fault) → SwapLen (length bs) (chain r (swapped bs cell))
    by_after (Err f) = tt
    by_after (Ok swap) = length_set bs cell.block (Some swap.2)

    by_block : (r : Result Block Fault) → SwapLen (length bs) (chain r (λ block. chain (cas_in block cell old new) (swapped bs cell)))
    by_block (Err f) = tt
    by_block (Ok block) = by_after (cas_in block cell old new)

free_len : (bs : Blocks) (b : ℕ) → LenOf (length bs) (free_of bs b)
free_len bs b = by_block (block_of bs b)
  where
    by_block : (r : Result Block Fault) → LenOf (length bs) (chain r (λ block. Ok (slice_set bs b None)))
    by_block (Err f) = tt
    by_block (Ok block) = length_set bs b None

set_len : (ls : List Lock) (k : ℕ) (held : Bool) → LenOf (length ls) (set_of ls k held)
set_len ls k held = by_lock (usable ls k)
  where
    by_mark : (lock : Lock) (r : Result Mark Fault) → LenOf (length ls) (chain r (λ mark. Ok (marked ls k lock mark)))
    by_mark lock (Err f) = tt
    by_mark lock (Ok m) = length_set ls k (record lock { mark = m })

    by_lock : (r : Result Lock Fault) → LenOf (length ls) (chain r (λ lock. chain (mark_after held lock.mark) (λ mark. Ok (marked ls k lock mark))))
    by_lock (Err f) = tt
    by_lock (Ok lock) = by_mark lock (mark_after held lock.mark)

end_len : (ls : List Lock) (k : ℕ) → LenOf (length ls) (end_of ls k)
end_len ls k = by_lock (usable ls k)
  where
    by_free : (lock : Lock) (b : Bool) → LenOf (length ls) (if b then Err fault.LockFree else Ok (marked ls k lock mark.Ended))
    by_free lock true = tt
    by_free lock false = length_set ls k (record lock { mark = mark.Ended })

    by_lock : (r : Result Lock Fault) → LenOf (length ls) (chain r (λ lock. if is_free lock.mark then Err fault.LockFree else Ok (marked ls k lock mark.Ended)))
    by_lock (Err f) = tt
    by_lock (Ok lock) = by_free lock (is_free lock.mark)

length_snoc : {A : Type 0} (xs : List A) (x : A) → length (xs ++ x ∷ []) ≡ suc (length xs)
length_snoc [] x = refl
length_snoc (y ∷ ys) x = ap suc (length_snoc ys x)

make_grows : (a : Bool) (x : ℕ) (own : Own) (w : World) (first : List Value) (count : ℕ) → Grows w (made_block a x own w first count)
make_grows a x own w first count = by_fields (has_fields first)
  where
    by_fields : (t : Bool) → Grows w (if t then past (act.Alloc (length w.blocks) count) (binding own x (value.Block (length w.blocks))) (with_blocks w (w.blocks ++ Some (made a first count) ∷ [])) else Err fault.Kind)
    by_fields true = record { all = (omega (arith, length_snoc w.blocks (Some (made a first count))), omega arith) }
    by_fields false = record { all = tt }

free_grows : (own : Own) (w : World) (v : Value) → Grows w (freed own w v)
free_grows own w (value.Block b) = through_list (length w.blocks) w (free_of w.blocks b) _ (free_len w.blocks b) (λ bs h. record { all = blocks_world w bs h })
free_grows own w (value.Lock k) = through_list (length w.locks) w (end_of w.locks k) _ (end_len w.locks k) (λ ls h. record { all = locks_world w ls h })
free_grows own w value.Null = record { all = tt }
free_grows own w (value.Int n) = record { all = tt }
free_grows own w (value.Truth b) = record { all = tt }

join_grows : (own : Own) (w : World) (child : Option ℕ) → Grows w (joined own w child)
join_grows own w None = record { all = tt }
join_grows own w (Some t) = record { all = same_world w }

grows : (n : ℕ) (locals : Env) (b : Basic) (own : Own) (w : World) → Grows w (effect_of n locals b own w)
grows n locals (Load x place a) own w = through w (offset_of own.env place) _ (λ at. through w (cell_at own.env (base_of place) at) _ (λ cell. through w (load_of w.blocks cell a) _ (λ v. record { all = same_world w })))
grows n locals (Store place e a) own w = through w (offset_of own.env place) _ (λ at. through w (eval own.env e) _ (λ v. through w (cell_at own.env (base_of place) at) _ (λ cell. through_list (length w.blocks) w (store_of w.blocks cell a v) _ (store_len w.blocks cell a v) (λ bs h. record { all = blocks_world w bs h }))))
grows n locals (Cas x base old new) own w = through w (eval_number own.env old) _ (λ a. through w (eval_number own.env new) _ (λ b. through w (cell_at own.env base (record { index = 0; field = 0 })) _ (λ cell. through_swap (length w.blocks) w (cas_of w.blocks cell a b) _ (cas_len w.blocks cell a b) (λ s h. record { all = blocks_world w s.2 h }))))
grows n locals (Make x a first count) own w = through w (eval_onto [] own.env first) _ (λ values. through w (eval_number own.env count) _ (λ m. through w (count_of m) _ (λ c. make_grows a x own w values c)))
grows n locals (Free base) own w = through w (local_of own.env base) _ (free_grows own w)
grows n locals (NewLock x) own w = record { all = (omega arith, omega (arith, length_snoc w.locks (record { mark = mark.Free; entry = None }))) }
grows n locals (Acquire l) own w = through w (lock_of_local own.env l) _ (λ k. through_list (length w.locks) w (set_of w.locks k true) _ (set_len w.locks k true) (λ ls h. record { all = locks_world w ls h }))
grows n locals (Release l) own w = through w (lock_of_local own.env l) _ (λ k. through_list (length w.locks) w (set_of w.locks k false) _ (set_len w.locks k false) (λ ls h. record { all = locks_world w ls h }))
grows n locals (Read x) own w = record { all = (omega arith, omega arith) }
grows n locals (Print e) own w = through w (eval_number own.env e) _ (λ m. record { all = (omega arith, omega arith) })
grows n locals (Call into f args) own w = through w (arguments own.env args 1 locals) _ (λ v. record { all = same_world w })
grows n locals (Fork f args) own w = through w (arguments own.env args 1 locals) _ (λ v. record { all = same_world w })
grows n locals Join own w = join_grows own w own.child
grows n locals (Return e) own w = through w (eval own.env e) _ (λ v. record { all = same_world w })

abbrev SmallDone : World → Result Done Fault → Type 0
SmallDone w (Err f) = ⊤
SmallDone w (Ok d) = Small w d.effect.world

fault_small : (w : World) (r : Outcome) → SmallDone w (faulted r)
fault_small w (Err f) = tt
fault_small w (Ok v) = tt

do_small : (w : World) (rest : Stmts) (r : Result Effect Fault) → SmallOf w r → SmallDone w (chain r (λ e. Ok (record { effect = e; left = rest })))
do_small w rest (Err f) h = tt
do_small w rest (Ok e) h = h

event_small : (n : ℕ) (locals : Env) (l : Stmts) (own : Own) (w : World) → SmallDone w (event_in n locals l own w)
event_small n locals end own w = same_world w
event_small n locals (more (Do b) rest) own w = do_small w rest (effect_of n locals b own w) (grows n locals b own w).all
event_small n locals (more (While l e b) rest) own w = same_world w
event_small n locals (more (Check l e b) rest) own w = fault_small w (eval own.env e)
event_small n locals (more (Let x e) rest) own w = fault_small w (eval own.env e)
event_small n locals (more (If e a b) rest) own w = fault_small w (eval own.env e)

fork_few : (f : Function) (t : Turn) → length (forked f t) ≤ 1
fork_few f Past = omega arith
fork_few f (Calls l i) = omega arith
fork_few f (Forks l) = omega arith
fork_few f (Returns r) = omega arith

length_both : {A : Type 0} (xs ys : List A) → length (xs ++ ys) ≡ length xs + length ys
length_both [] ys = omega arith
length_both (x ∷ xs) ys = omega (arith, length_both xs ys)

abbrev FewIn : State → Option (Result (Action × State) Fault) → Type 0
FewIn s None = ⊤
FewIn s (Some (Err f)) = ⊤
FewIn s (Some (Ok r)) = Small s.world r.1.world × (length r.1.threads ≤ suc (length s.threads))

from_done : (F : List Function) (s : State) (t : ℕ) (frame : Frame) (callers : Thread) (r : Result Done Fault) → SmallDone s.world r → FewIn s (Some (chain {B = Action × State} r (λ done. Ok (done.effect.action, state_after F s t frame callers done))))
from_done F s t frame callers (Err f) h = tt
from_done F s t frame callers (Ok d) h =
    let f = called F frame.left in
    (h, omega (arith, length_both (slice_set s.threads t (frames_after f d.effect.turn (frame_behind frame d) callers)) (forked f d.effect.turn), length_set s.threads t (frames_after f d.effect.turn (frame_behind frame d) callers), fork_few f d.effect.turn))

few_from : (F : List Function) (s : State) (t : ℕ) (fs : Thread) → FewIn s (event_from F s t fs)
few_from F s t [] = tt
few_from F s t (frame ∷ callers) = from_done F s t frame callers (event_of_frame F (length s.threads) frame s.world) (event_small (length s.threads) (blank (called F frame.left)) frame.left (own_of frame) s.world)

pub few_of : (F : List Function) (s : State) (t : ℕ) (a : Action) (s' : State) → event_of F s t ≡ Some (Ok (a, s')) → Small s.world s'.world × (length s'.threads ≤ suc (length s.threads))
few_of F s t a s' h = subst (FewIn s) h (few_from F s t (thread_of s t))
