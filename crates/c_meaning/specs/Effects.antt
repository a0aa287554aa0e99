-- What one event does to the locals of its frame and to what the threads share.
use Rattle.std.specs.Prelude.{ℕ, zero, ℤ, pos, negsuc, ◌-◌, ◌^◌, ◌&&◌, nat_lt, Bool, true, false, List, [], ◌∷◌, ◌++◌, Option, Some, None, Result, Ok, Err, if◌then◌else◌, length, slice_set}
use Rattle.pl_resource.specs.Faults.{chain}
use Rattle.pl_resource.specs.Heap.{Blocks, made, load_of, store_of, cas_of, free_of}
use Rattle.pl_resource.specs.LockTable.{set_of, end_of}
use Rattle.pl_resource.specs.declared.lock_table.Lock.{Lock}
use Rattle.pl_resource.specs.declared.lock_table.Mark.TheVariants as mark
use Rattle.pl_resource.specs.declared.value.Cell.{Cell}
use Rattle.pl_resource.specs.declared.value.Fault.{Fault}
use Rattle.pl_resource.specs.declared.value.Fault.TheVariants as fault
use Rattle.pl_resource.specs.declared.value.Value.{Value}
use Rattle.pl_resource.specs.declared.value.Value.TheVariants as value
use Rattle.c_meaning.specs.declared.action.Action.{Action}
use Rattle.c_meaning.specs.declared.action.Action.TheVariants as act
use Rattle.c_meaning.specs.declared.act.Offset.{Offset}
use Rattle.c_meaning.specs.Tree.{Term, Place, Whole, At, Field, Basic, Load, Store, Cas, Make, Free, NewLock, Acquire, Release, Read, Print, Call, Fork, Join, Return}
use Rattle.c_meaning.specs.Values.{Env, local_of, eval, eval_onto, arguments}

-- what all threads share: the blocks, the locks, the numbers of the input that are left, and what was printed
pub record World : Type 0 where
  pub blocks : Blocks
  pub locks : List Lock
  pub input : List ℤ
  pub outputs : List ℤ

-- ---- cells

-- an index that no block has
abbrev pub far : ℕ
far = 2 ^ 32 - 1

-- the index of a number: one below 0 or above what any block has is one that no block has
abbrev pub index_of : Value → Result ℕ Fault
index_of (value.Int (pos n)) = Ok (if nat_lt n far then n else far)
index_of (value.Int (negsuc n)) = Ok far
index_of _ = Err fault.Kind

-- where a cell stands in its block; the value of an index is what comes first in an event
abbrev pub offset_of : Env → Place → Result Offset Fault
offset_of env (Whole base) = Ok (record { index = 0; field = 0 })
offset_of env (At base index) = chain (chain (eval env index) index_of) (λ n. Ok (record { index = n; field = 0 }))
offset_of env (Field base field) = Ok (record { index = 0; field = field })

abbrev pub base_of : Place → ℕ
base_of (Whole base) = base
base_of (At base index) = base
base_of (Field base field) = base

-- the block to which a pointer points; null is a fault (C11 6.5.3.2)
abbrev pub block_at : Value → Result ℕ Fault
block_at (value.Block b) = Ok b
block_at value.Null = Err fault.Null
block_at _ = Err fault.Kind

abbrev pub block_of_local : Env → ℕ → Result ℕ Fault
block_of_local env x = chain (local_of env x) block_at

-- the cell at that place in the block to which the base points: the null check comes after all expressions
abbrev pub cell_at : Env → ℕ → Offset → Result Cell Fault
cell_at env base place = chain (block_of_local env base) (λ b. Ok (record { block = b; index = place.index; field = place.field }))

-- ---- numbers and locks

abbrev pub number_of : Value → Result ℤ Fault
number_of (value.Int n) = Ok n
number_of _ = Err fault.Kind

abbrev pub eval_number : Env → Term → Result ℤ Fault
eval_number env e = chain (eval env e) number_of

-- how many elements a block gets: from 1 to 1,048,576
abbrev pub count_of : ℤ → Result ℕ Fault
count_of (pos n) = if nat_lt zero n && nat_lt n 1048577 then Ok n else Err fault.Outside
count_of (negsuc n) = Err fault.Outside

-- an element has from 1 to 2^32 - 2 fields
abbrev pub has_fields : {A : Type 0} → List A → Bool
has_fields first = nat_lt zero (length first) && nat_lt (length first) far

abbrev pub lock_at : Value → Result ℕ Fault
lock_at (value.Lock k) = Ok k
lock_at _ = Err fault.Kind

abbrev pub lock_of_local : Env → ℕ → Result ℕ Fault
lock_of_local env x = chain (local_of env x) lock_at

-- ---- effects

-- where a thread goes from an event: behind it; into a function with these locals, whose result goes into that local of
-- the caller; behind it, beside a new thread in a function with these locals; or back to its caller
pub data Turn : Type 0 where
  Past : Turn
  Calls : (locals : Env) (into : Option ℕ) → Turn
  Forks : (locals : Env) → Turn
  Returns : (result : Option Value) → Turn

-- what an event does: its action, the locals of the frame and the thread that this forked last, what the threads
-- share, and where the thread goes
pub record Effect : Type 0 where
  pub action : Action
  pub env : Env
  pub child : Option ℕ
  pub world : World
  pub turn : Turn

-- a frame's own part: its locals, and the thread that it forked last
pub record Own : Type 0 where
  pub env : Env
  pub child : Option ℕ

abbrev pub past : Action → Own → World → Result Effect Fault
past action own world = Ok (record { action = action; env = own.env; child = own.child; world = world; turn = Past })

-- a local gets a value; one that has no place gets none
abbrev pub binding : Own → ℕ → Value → Own
binding own x v = record own { env = slice_set own.env x v }

abbrev pub with_blocks : World → Blocks → World
with_blocks world blocks = record world { blocks = blocks }

abbrev pub with_locks : World → List Lock → World
with_locks world locks = record world { locks = locks }

abbrev pub made_block : Bool → ℕ → Own → World → List Value → ℕ → Result Effect Fault
made_block atomic x own world first count =
    if has_fields first then
    past (act.Alloc (length world.blocks) count) (binding own x (value.Block (length world.blocks)))
    (with_blocks world (world.blocks ++ Some (made atomic first count) ∷ []))
    else Err fault.Kind

-- a free of a block or of a lock
abbrev pub freed : Own → World → Value → Result Effect Fault
freed own world (value.Block b) = chain (free_of world.blocks b) (λ blocks. past (act.Free b) own (with_blocks world blocks))
freed own world (value.Lock k) = chain (end_of world.locks k) (λ locks. past (act.FreeLock k) own (with_locks world locks))
freed own world value.Null = Err fault.Null
freed own world _ = Err fault.Kind

-- past its end the input reads as 0
abbrev pub next_number : List ℤ → ℤ
next_number [] = pos 0
next_number (n ∷ ns) = n

abbrev pub after_number : List ℤ → List ℤ
after_number [] = []
after_number (n ∷ ns) = ns

abbrev pub read_number : ℕ → Own → World → Result Effect Fault
read_number x own world =
    let n = next_number world.input in
    past (act.Read n) (binding own x (value.Int n)) (record world { input = after_number world.input })

-- a join has waited for its child
abbrev pub joined : Own → World → Option ℕ → Result Effect Fault
joined own world None = Err fault.Kind
joined own world (Some child) = past (act.Join child) own world

-- What a statement does. Expressions come first, from left to right; then the null check of a base; then the faults of
-- the cell or the lock. `next` is the number of the next thread, and `blank` are the locals of the function that is
-- called, before its arguments are in them.
abbrev pub effect_of : ℕ → Env → Basic → Own → World → Result Effect Fault
effect_of next blank (Load x place atomic) own world =
    chain (offset_of own.env place) (λ at.
    chain (cell_at own.env (base_of place) at) (λ cell.
    chain (load_of world.blocks cell atomic) (λ v.
    past (act.Load cell v) (binding own x v) world)))
effect_of next blank (Store place e atomic) own world =
    chain (offset_of own.env place) (λ at.
    chain (eval own.env e) (λ v.
    chain (cell_at own.env (base_of place) at) (λ cell.
    chain (store_of world.blocks cell atomic v) (λ blocks.
    past (act.Store cell v) own (with_blocks world blocks)))))
effect_of next blank (Cas x base old new) own world =
    chain (eval_number own.env old) (λ a.
    chain (eval_number own.env new) (λ b.
    chain (cell_at own.env base (record { index = 0; field = 0 })) (λ cell.
    chain (cas_of world.blocks cell a b) (λ swap.
    past (act.Cas cell swap.0 swap.1) (binding own x (value.Truth swap.1)) (with_blocks world swap.2)))))
effect_of next blank (Make x atomic first count) own world =
    chain (eval_onto [] own.env first) (λ values.
    chain (eval_number own.env count) (λ n.
    chain (count_of n) (λ count.
    made_block atomic x own world values count)))
effect_of next blank (Free base) own world = chain (local_of own.env base) (freed own world)
effect_of next blank (NewLock x) own world =
    past (act.NewLock (length world.locks)) (binding own x (value.Lock (length world.locks)))
    (with_locks world (world.locks ++ record { mark = mark.Free; entry = None } ∷ []))
effect_of next blank (Acquire lock) own world =
    chain (lock_of_local own.env lock) (λ k.
    chain (set_of world.locks k true) (λ locks.
    past (act.Acquire k) own (with_locks world locks)))
effect_of next blank (Release lock) own world =
    chain (lock_of_local own.env lock) (λ k.
    chain (set_of world.locks k false) (λ locks.
    past (act.Release k) own (with_locks world locks)))
effect_of next blank (Read x) own world = read_number x own world
effect_of next blank (Print e) own world =
    chain (eval_number own.env e) (λ n.
    past (act.Print n) own (record world { outputs = world.outputs ++ n ∷ [] }))
effect_of next blank (Call into f args) own world =
    chain (arguments own.env args 1 blank) (λ locals.
    Ok (record { action = act.Call f; env = own.env; child = own.child; world = world; turn = Calls locals into }))
effect_of next blank (Fork f args) own world =
    chain (arguments own.env args 1 blank) (λ locals.
    Ok (record { action = act.Fork next; env = own.env; child = Some next; world = world; turn = Forks locals }))
effect_of next blank Join own world = joined own world own.child
effect_of next blank (Return e) own world =
    chain (eval own.env e) (λ v.
    Ok (record { action = act.Return; env = own.env; child = own.child; world = world; turn = Returns (Some v) }))
