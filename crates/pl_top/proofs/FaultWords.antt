-- No C program comes to a fault of ghost cells: the fault before which a thread stands has words.
use Rattle.std.proofs.Common.{ℕ, ℤ, pos, negsuc, Bool, true, false, List, [], ◌∷◌, ◌++◌, Option, Some, None, Result, Ok, Err, if◌then◌else◌, subst, zero, nat_lt, ◌&&◌, length}
use Rattle.std.specs.Prelude.{◌+ℤ◌, ◌-ℤ◌, ◌*ℤ◌, neg_ℤ}
use Rattle.std.specs.Ordering.{int_eq}
use Rattle.std.specs.Int.RustNames.{int_div, int_rem}
use Rattle.pl_resource.specs.Faults.{chain}
use Rattle.pl_resource.specs.Heap.{Block, Blocks, made, put_in, same_mark, same_kind, if_alive, if_there, block_of, value_of, load_in, store_in, swap_in, cas_in, load_of, store_of, cas_of, free_of}
use Rattle.pl_resource.specs.LockTable.{is_free, marked, unless_ended, if_usable, usable, mark_after, set_of, end_of}
use Rattle.pl_resource.specs.declared.lock_table.Lock.{Lock}
use Rattle.pl_resource.specs.declared.lock_table.Mark.{Mark}
use Rattle.pl_resource.specs.declared.lock_table.Mark.TheVariants as mark
use Rattle.pl_resource.specs.declared.value.Cell.{Cell}
use Rattle.pl_resource.specs.declared.value.Fault.{Fault}
use Rattle.pl_resource.specs.declared.value.Fault.TheVariants as fault
use Rattle.pl_resource.specs.declared.value.Value.{Value}
use Rattle.pl_resource.specs.declared.value.Value.TheVariants as value
use Rattle.c_syntax.specs.declared.expr.COp.{COp}
use Rattle.c_syntax.specs.declared.expr.COp.TheVariants as op
use Rattle.c_syntax.specs.Tree.{Program}
use Rattle.c_meaning.specs.declared.action.Action.TheVariants as act
use Rattle.c_meaning.specs.declared.action.Next.{Next}
use Rattle.c_meaning.specs.declared.action.Next.TheVariants as next
use Rattle.c_meaning.specs.Tree as t
use Rattle.c_meaning.specs.Values.{Env, Outcome, fits_i64, number, known, local_of, quotient, remainder, on_numbers, same_value, numbers_only, on_values, operated, truth_of, and_then, or_else, joined, negated, opposite, eval, eval_onto, arguments}
use Rattle.c_meaning.specs.Effects.{World, Own, Effect, has_fields, past, binding, with_blocks, index_of, offset_of, base_of, block_at, block_of_local, cell_at, number_of, eval_number, count_of, lock_at, lock_of_local, made_block, freed, effect_of}
use Rattle.c_meaning.specs.Effects as effects
use Rattle.c_meaning.specs.Resolve.{functions_of}
use Rattle.c_meaning.specs.Events.{State, Thread, Done, called, blank, own_of, event_of_frame, atomic_at, faulted, event_in, next_by, next_from, thread_of}
use Rattle.c_meaning.specs.Steps.{Faults}
use Rattle.c_runner.specs.Ends.{EndOf}
use Rattle.c_runner.specs.declared.run_end.RunEnd.{RunEnd}
use Rattle.c_runner.specs.declared.run_end.RunEnd.TheVariants as end
use Rattle.pl_report.specs.Lines.{HasWords}
use Rattle.pl_top.specs.Lines.{HasLine}

-- an answer, or a fault that has words
abbrev AreWords : {A : Type 0} → Result A Fault → Type 0
AreWords (Ok x) = Unit {0}
AreWords (Err f) = HasWords f

record Worded {A : Type 0} (r : Result A Fault) : Type 0 where
  words : AreWords r

chained : {A B : Type 0} (r : Result A Fault) (f : A → Result B Fault) → Worded r → ((x : A) → Worded (f x)) → Worded (chain r f)
chained (Ok x) f first rest = rest x
chained (Err e) f first rest = record { words = first.words }

tested : {A : Type 0} (b : Bool) (x y : Result A Fault) → Worded x → Worded y → Worded (if b then x else y)
tested true x y h k = h
tested false x y h k = k

-- ---- expressions

of_number : (z : ℤ) → Worded (number z)
of_number z = tested (fits_i64 z) (Ok (value.Int z)) (Err fault.Overflow) (record { words = tt }) (record { words = tt })

of_known : (o : Option Value) → Worded (known o)
of_known None = record { words = tt }
of_known (Some v) = record { words = tt }

of_quotient : (a b : ℤ) → Worded (quotient a b)
of_quotient a b = tested (int_eq b (pos 0)) (Err fault.ZeroDivisor) (number (int_div a b)) (record { words = tt }) (of_number (int_div a b))

of_remainder : (a b : ℤ) → Worded (remainder a b)
of_remainder a b =
    tested (int_eq b (pos 0)) (Err fault.ZeroDivisor) (if fits_i64 (int_div a b) then Ok (value.Int (int_rem a b)) else Err fault.Overflow) (record { words = tt })
    (tested (fits_i64 (int_div a b)) (Ok (value.Int (int_rem a b))) (Err fault.Overflow) (record { words = tt }) (record { words = tt }))

of_numbers : (o : COp) (a b : ℤ) → Worded (on_numbers o a b)
of_numbers op.Add a b = of_number (a +ℤ b)
of_numbers op.Sub a b = of_number (a -ℤ b)
of_numbers op.Mul a b = of_number (a *ℤ b)
of_numbers op.Div a b = of_quotient a b
of_numbers op.Rem a b = of_remainder a b
of_numbers _ a b = record { words = tt }

of_same : (a b : Value) → Worded (same_value a b)
of_same (value.Int a) (value.Int b) = record { words = tt }
of_same (value.Truth true) (value.Truth b) = record { words = tt }
of_same (value.Truth false) (value.Truth b) = record { words = tt }
of_same value.Null value.Null = record { words = tt }
of_same value.Null (value.Block b) = record { words = tt }
of_same (value.Block a) value.Null = record { words = tt }
of_same (value.Block a) (value.Block b) = record { words = tt }
of_same (value.Lock a) (value.Lock b) = record { words = tt }
of_same _ _ = record { words = tt }

of_numbers_only : (o : COp) (a b : Value) → Worded (numbers_only o a b)
of_numbers_only o (value.Int a) (value.Int b) = of_numbers o a b
of_numbers_only o _ _ = record { words = tt }

of_values : (o : COp) (a b : Value) → Worded (on_values o a b)
of_values op.Eq a b = chained (same_value a b) _ (of_same a b) (λ x. record { words = tt })
of_values op.Ne a b = chained (same_value a b) _ (of_same a b) (λ x. record { words = tt })
of_values o a b = of_numbers_only o a b

of_operated : (o : COp) (l r : Outcome) → Worded l → Worded r → Worded (operated o l r)
of_operated o l r h k = chained l _ h (λ a. chained r _ k (λ b. of_values o a b))

of_truth : (v : Value) → Worded (truth_of v)
of_truth (value.Truth b) = record { words = tt }
of_truth _ = record { words = tt }

of_and : (r : Outcome) → Worded r → (v : Value) → Worded (and_then r v)
of_and r k (value.Truth true) = chained r _ k of_truth
of_and r k (value.Truth false) = record { words = tt }
of_and r k _ = record { words = tt }

of_or : (r : Outcome) → Worded r → (v : Value) → Worded (or_else r v)
of_or r k (value.Truth true) = record { words = tt }
of_or r k (value.Truth false) = chained r _ k of_truth
of_or r k _ = record { words = tt }

of_joined : (o : COp) (l r : Outcome) → Worded l → Worded r → Worded (joined o l r)
of_joined op.And l r h k = chained l _ h (of_and r k)
of_joined op.Or l r h k = chained l _ h (of_or r k)
of_joined o l r h k = of_operated o l r h k

of_negated : (v : Value) → Worded (negated v)
of_negated (value.Int n) = of_number (neg_ℤ n)
of_negated _ = record { words = tt }

of_opposite : (v : Value) → Worded (opposite v)
of_opposite (value.Truth b) = record { words = tt }
of_opposite _ = record { words = tt }

of_eval : (env : Env) (e : t.Term) → Worded (eval env e)
of_eval env (t.Int n) = record { words = tt }
of_eval env (t.Truth b) = record { words = tt }
of_eval env t.Null = record { words = tt }
of_eval env (t.Var x) = of_known _
of_eval env (t.Neg e) = chained (eval env e) _ (of_eval env e) of_negated
of_eval env (t.Not e) = chained (eval env e) _ (of_eval env e) of_opposite
of_eval env (t.Bin o a b) = of_joined o (eval env a) (eval env b) (of_eval env a) (of_eval env b)

of_eval_onto : (vs : List Value) (env : Env) (es : List t.Term) → Worded (eval_onto vs env es)
of_eval_onto vs env [] = record { words = tt }
of_eval_onto vs env (e ∷ es) = chained (eval env e) _ (of_eval env e) (λ v. of_eval_onto _ env es)

of_arguments : (env : Env) (es : List t.Term) (x : ℕ) (locals : Env) → Worded (arguments env es x locals)
of_arguments env [] x locals = record { words = tt }
of_arguments env (e ∷ es) x locals = chained (eval env e) _ (of_eval env e) (λ v. of_arguments env es _ _)

-- ---- blocks and locks

of_alive : (o : Option (Option Block)) → Worded (if_alive o)
of_alive None = record { words = tt }
of_alive (Some None) = record { words = tt }
of_alive (Some (Some block)) = record { words = tt }

of_there : (o : Option Value) → Worded (if_there o)
of_there None = record { words = tt }
of_there (Some v) = record { words = tt }

of_load_in : (block : Block) (cell : Cell) (atomic : Bool) → Worded (load_in block cell atomic)
of_load_in block cell atomic = chained (value_of block cell) _ (of_there _) (λ held. tested (same_mark block.atomic atomic) (Ok held) (Err fault.Kind) (record { words = tt }) (record { words = tt }))

of_load : (blocks : Blocks) (cell : Cell) (atomic : Bool) → Worded (load_of blocks cell atomic)
of_load blocks cell atomic = chained (block_of blocks cell.block) _ (of_alive _) (λ block. of_load_in block cell atomic)

of_store_in : (block : Block) (cell : Cell) (atomic : Bool) (new : Value) → Worded (store_in block cell atomic new)
of_store_in block cell atomic new = chained (load_in block cell atomic) _ (of_load_in block cell atomic) (λ held. tested (same_kind held new) (Ok (put_in block cell new)) (Err fault.Kind) (record { words = tt }) (record { words = tt }))

of_store : (blocks : Blocks) (cell : Cell) (atomic : Bool) (new : Value) → Worded (store_of blocks cell atomic new)
of_store blocks cell atomic new =
    chained (block_of blocks cell.block) _ (of_alive _) (λ block.
    chained (store_in block cell atomic new) _ (of_store_in block cell atomic new) (λ after. record { words = tt }))

of_swap : (block : Block) (cell : Cell) (held : Value) (old new : ℤ) → Worded (swap_in block cell held old new)
of_swap block cell (value.Int seen) old new = tested (int_eq seen old) (Ok (seen, true, put_in block cell (value.Int new))) (Ok (seen, false, block)) (record { words = tt }) (record { words = tt })
of_swap block cell _ old new = record { words = tt }

of_cas : (blocks : Blocks) (cell : Cell) (old new : ℤ) → Worded (cas_of blocks cell old new)
of_cas blocks cell old new =
    chained (block_of blocks cell.block) _ (of_alive _) (λ block.
    chained (cas_in block cell old new) _ (chained (load_in block cell true) _ (of_load_in block cell true) (λ held. of_swap block cell held old new)) (λ swap. record { words = tt }))

of_free : (blocks : Blocks) (b : ℕ) → Worded (free_of blocks b)
of_free blocks b = chained (block_of blocks b) _ (of_alive _) (λ block. record { words = tt })

of_unless : (lock : Lock) (m : Mark) → Worded (unless_ended lock m)
of_unless lock mark.Ended = record { words = tt }
of_unless lock _ = record { words = tt }

of_usable : (o : Option Lock) → Worded (if_usable o)
of_usable None = record { words = tt }
of_usable (Some lock) = of_unless lock lock.mark

of_mark : (held : Bool) (m : Mark) → Worded (mark_after held m)
of_mark true m = record { words = tt }
of_mark false mark.Held = record { words = tt }
of_mark false _ = record { words = tt }

of_set : (locks : List Lock) (k : ℕ) (held : Bool) → Worded (set_of locks k held)
of_set locks k held =
    chained (usable locks k) _ (of_usable _) (λ lock.
    chained (mark_after held lock.mark) _ (of_mark held lock.mark) (λ m. record { words = tt }))

of_end : (locks : List Lock) (k : ℕ) → Worded (end_of locks k)
of_end locks k = chained (usable locks k) _ (of_usable _) (λ lock. tested (is_free lock.mark) (Err fault.LockFree) (Ok (marked locks k lock mark.Ended)) (record { words = tt }) (record { words = tt }))

-- ---- events

of_index : (v : Value) → Worded (index_of v)
of_index (value.Int (pos n)) = record { words = tt }
of_index (value.Int (negsuc n)) = record { words = tt }
of_index _ = record { words = tt }

of_offset : (env : Env) (p : t.Place) → Worded (offset_of env p)
of_offset env (t.Whole base) = record { words = tt }
of_offset env (t.At base e) = chained (chain (eval env e) index_of) _ (chained (eval env e) _ (of_eval env e) of_index) (λ n. record { words = tt })
of_offset env (t.Field base field) = record { words = tt }

of_block_at : (v : Value) → Worded (block_at v)
of_block_at (value.Block b) = record { words = tt }
of_block_at value.Null = record { words = tt }
of_block_at _ = record { words = tt }

of_block : (env : Env) (x : ℕ) → Worded (block_of_local env x)
of_block env x = chained (local_of env x) _ (of_known _) of_block_at

of_number_of : (v : Value) → Worded (number_of v)
of_number_of (value.Int n) = record { words = tt }
of_number_of _ = record { words = tt }

of_eval_number : (env : Env) (e : t.Term) → Worded (eval_number env e)
of_eval_number env e = chained (eval env e) _ (of_eval env e) of_number_of

of_count : (n : ℤ) → Worded (count_of n)
of_count (pos n) = tested (nat_lt zero n && nat_lt n 1048577) (Ok n) (Err fault.Outside) (record { words = tt }) (record { words = tt })
of_count (negsuc n) = record { words = tt }

of_lock_at : (v : Value) → Worded (lock_at v)
of_lock_at (value.Lock k) = record { words = tt }
of_lock_at _ = record { words = tt }

of_lock : (env : Env) (x : ℕ) → Worded (lock_of_local env x)
of_lock env x = chained (local_of env x) _ (of_known _) of_lock_at

of_made : (atomic : Bool) (x : ℕ) (own : Own) (w : World) (first : List Value) (count : ℕ) → Worded (made_block atomic x own w first count)
of_made atomic x own w first count =
    tested (has_fields first)
    (past (act.Alloc (length w.blocks) count) (binding own x (value.Block (length w.blocks))) (with_blocks w (w.blocks ++ Some (made atomic first count) ∷ [])))
    (Err fault.Kind) (record { words = tt }) (record { words = tt })

of_freed : (own : Own) (w : World) (v : Value) → Worded (freed own w v)
of_freed own w (value.Block b) = chained (free_of w.blocks b) _ (of_free w.blocks b) (λ blocks. record { words = tt })
of_freed own w (value.Lock k) = chained (end_of w.locks k) _ (of_end w.locks k) (λ locks. record { words = tt })
of_freed own w value.Null = record { words = tt }
of_freed own w _ = record { words = tt }

of_join : (own : Own) (w : World) (child : Option ℕ) → Worded (effects.joined own w child)
of_join own w None = record { words = tt }
of_join own w (Some child) = record { words = tt }

of_effect : (n : ℕ) (locals : Env) (b : t.Basic) (own : Own) (w : World) → Worded (effect_of n locals b own w)
of_effect n locals (t.Load x place atomic) own w =
    chained (offset_of own.env place) _ (of_offset own.env place) (λ at.
    chained (cell_at own.env (base_of place) at) _ (chained (block_of_local own.env (base_of place)) _ (of_block own.env (base_of place)) (λ b. record { words = tt })) (λ cell.
    chained (load_of w.blocks cell atomic) _ (of_load w.blocks cell atomic) (λ v. record { words = tt })))
of_effect n locals (t.Store place e atomic) own w =
    chained (offset_of own.env place) _ (of_offset own.env place) (λ at.
    chained (eval own.env e) _ (of_eval own.env e) (λ v.
    chained (cell_at own.env (base_of place) at) _ (chained (block_of_local own.env (base_of place)) _ (of_block own.env (base_of place)) (λ b. record { words = tt })) (λ cell.
    chained (store_of w.blocks cell atomic v) _ (of_store w.blocks cell atomic v) (λ blocks. record { words = tt }))))
of_effect n locals (t.Cas x base old new) own w =
    chained (eval_number own.env old) _ (of_eval_number own.env old) (λ a.
    chained (eval_number own.env new) _ (of_eval_number own.env new) (λ b.
    chained (cell_at own.env base (record { index = 0; field = 0 })) _ (chained (block_of_local own.env base) _ (of_block own.env base) (λ b. record { words = tt })) (λ cell.
    chained (cas_of w.blocks cell a b) _ (of_cas w.blocks cell a b) (λ swap. record { words = tt }))))
of_effect n locals (t.Make x atomic first count) own w =
    chained (eval_onto [] own.env first) _ (of_eval_onto [] own.env first) (λ values.
    chained (eval_number own.env count) _ (of_eval_number own.env count) (λ n.
    chained (count_of n) _ (of_count n) (λ count. of_made atomic x own w values count)))
of_effect n locals (t.Free base) own w = chained (local_of own.env base) _ (of_known _) (of_freed own w)
of_effect n locals (t.NewLock x) own w = record { words = tt }
of_effect n locals (t.Acquire lock) own w =
    chained (lock_of_local own.env lock) _ (of_lock own.env lock) (λ k. chained (set_of w.locks k true) _ (of_set w.locks k true) (λ locks. record { words = tt }))
of_effect n locals (t.Release lock) own w =
    chained (lock_of_local own.env lock) _ (of_lock own.env lock) (λ k. chained (set_of w.locks k false) _ (of_set w.locks k false) (λ locks. record { words = tt }))
of_effect n locals (t.Read x) own w = record { words = tt }
of_effect n locals (t.Print e) own w = chained (eval_number own.env e) _ (of_eval_number own.env e) (λ n. record { words = tt })
of_effect n locals (t.Call into f args) own w = chained (arguments own.env args 1 locals) _ (of_arguments own.env args 1 locals) (λ locals. record { words = tt })
of_effect n locals (t.Fork f args) own w = chained (arguments own.env args 1 locals) _ (of_arguments own.env args 1 locals) (λ locals. record { words = tt })
of_effect n locals t.Join own w = of_join own w own.child
of_effect n locals (t.Return e) own w = chained (eval own.env e) _ (of_eval own.env e) (λ v. record { words = tt })

of_faulted : (o : Outcome) → Worded o → Worded (faulted o)
of_faulted (Err f) h = record { words = h.words }
of_faulted (Ok v) h = record { words = tt }

of_event : (n : ℕ) (locals : Env) (left : t.Stmts) (own : Own) (w : World) → Worded (event_in n locals left own w)
of_event n locals t.end own w = record { words = tt }
of_event n locals (t.more (t.Do b) rest) own w = chained (effect_of n locals b own w) _ (of_effect n locals b own w) (λ e. record { words = tt })
of_event n locals (t.more (t.While l e b) rest) own w = record { words = tt }
of_event n locals (t.more (t.Check l e b) rest) own w = of_faulted (eval own.env e) (of_eval own.env e)
of_event n locals (t.more (t.Let x e) rest) own w = of_faulted (eval own.env e) (of_eval own.env e)
of_event n locals (t.more (t.If e a b) rest) own w = of_faulted (eval own.env e) (of_eval own.env e)

-- ---- ends

-- a fault that is next has words
abbrev IsWorded : Next → Type 0
IsWorded (next.Fault f) = HasWords f
IsWorded _ = Unit {0}

of_next_by : (atomic : Bool) (r : Result Done Fault) → Worded r → IsWorded (next_by atomic r)
of_next_by atomic (Err f) h = h.words
of_next_by atomic (Ok done) h = tt

of_thread : (functions : List t.Function) (state : State) (thread : Thread) → IsWorded (next_from functions state thread)
of_thread functions state [] = tt
of_thread functions state (frame ∷ callers) =
    of_next_by (atomic_at frame.left) (event_of_frame functions (length state.threads) frame state.world) (of_event (length state.threads) (blank (called functions frame.left)) frame.left (own_of frame) state.world)

of_faults : (p : Program) (state : State) (i : ℕ) (f : Fault) → Faults p state i f → HasWords f
of_faults p state i f h = subst IsWorded h (of_thread (functions_of p) state (thread_of state i))

-- how a run ends has a line
pub end_has_line : (p : Program) (bound : ℕ) (state : State) (count : ℕ) (e : RunEnd) → EndOf p bound state count e → HasLine e
end_has_line p bound state count (end.CFault i f) h = of_faults p state i f h.2.faults
end_has_line p bound state count _ h = tt
