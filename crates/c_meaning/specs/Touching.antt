-- What a statement touches, by looking alone.
use Rattle.std.specs.Prelude.{ℕ, true, false, ◌∷◌, [], List, Option, Some, None, Result, Ok, Err, if◌then◌else◌}
use Rattle.pl_resource.specs.Faults.{chain}
use Rattle.pl_resource.specs.Heap.{load_of, store_of, cas_of, free_of}
use Rattle.pl_resource.specs.LockTable.{set_of, end_of}
use Rattle.pl_resource.specs.declared.value.Fault.{Fault}
use Rattle.pl_resource.specs.declared.value.Fault.TheVariants as fault
use Rattle.pl_resource.specs.declared.value.Value.{Value}
use Rattle.pl_resource.specs.declared.value.Value.TheVariants as value
use Rattle.c_meaning.specs.declared.action.Touch.{Touch}
use Rattle.c_meaning.specs.Tree.{Term, Basic, Load, Store, Cas, Make, Free, NewLock, Acquire, Release, Read, Print, Call, Fork, Join, Return}
use Rattle.c_meaning.specs.Values.{Env, local_of, eval}
use Rattle.c_meaning.specs.Effects.{World, Own, offset_of, base_of, cell_at, eval_number, count_of, has_fields, lock_of_local}
use Rattle.c_meaning.specs.Touches.{untouched}

-- the fault alone
abbrev pub told : {A : Type 0} → Result A Fault → Result (Unit {0}) Fault
told (Ok a) = Ok tt
told (Err f) = Err f

-- the faults of expressions
abbrev pub sound_all : Env → List Term → Result (Unit {0}) Fault
sound_all env [] = Ok tt
sound_all env (e ∷ es) = chain (eval env e) (λ v. sound_all env es)

abbrev pub freeing : World → Value → Result Touch Fault
freeing world (value.Block b) = chain (told (free_of world.blocks b)) (λ u. Ok (record untouched { block = Some b; writes = true }))
freeing world (value.Lock k) = chain (told (end_of world.locks k)) (λ u. Ok untouched)
freeing world value.Null = Err fault.Null
freeing world _ = Err fault.Kind

abbrev pub joining : Option ℕ → Result Touch Fault
joining None = Err fault.Kind
joining (Some child) = Ok (record untouched { child = Some child })

abbrev pub some_fields : List Term → Result Touch Fault
some_fields first = if has_fields first then Ok untouched else Err fault.Kind

abbrev pub touching : Basic → Own → World → Result Touch Fault
touching (Load x place atomic) own world =
    chain (offset_of own.env place) (λ at.
    chain (cell_at own.env (base_of place) at) (λ cell.
    chain (told (load_of world.blocks cell atomic)) (λ v.
    Ok (record untouched { cell = Some cell; atomic = atomic }))))
touching (Store place e atomic) own world =
    chain (offset_of own.env place) (λ at.
    chain (eval own.env e) (λ v.
    chain (cell_at own.env (base_of place) at) (λ cell.
    chain (told (store_of world.blocks cell atomic v)) (λ u.
    Ok (record untouched { cell = Some cell; writes = true; atomic = atomic })))))
touching (Cas x base old new) own world =
    chain (eval_number own.env old) (λ a.
    chain (eval_number own.env new) (λ b.
    chain (cell_at own.env base (record { index = 0; field = 0 })) (λ cell.
    chain (told (cas_of world.blocks cell a b)) (λ u.
    Ok (record untouched { cell = Some cell; writes = true; atomic = true })))))
touching (Make x atomic first count) own world =
    chain (sound_all own.env first) (λ u.
    chain (eval_number own.env count) (λ n.
    chain (count_of n) (λ c. some_fields first)))
touching (Free base) own world = chain (local_of own.env base) (freeing world)
touching (NewLock x) own world = Ok untouched
touching (Acquire lock) own world =
    chain (lock_of_local own.env lock) (λ k.
    chain (told (set_of world.locks k true)) (λ u.
    Ok (record untouched { lock = Some k })))
touching (Release lock) own world =
    chain (lock_of_local own.env lock) (λ k.
    chain (told (set_of world.locks k false)) (λ u.
    Ok untouched))
touching (Read x) own world = Ok untouched
touching (Print e) own world = chain (eval_number own.env e) (λ n. Ok untouched)
touching (Call into f args) own world = chain (sound_all own.env args) (λ u. Ok untouched)
touching (Fork f args) own world = chain (sound_all own.env args) (λ u. Ok (record untouched { forks = true }))
touching Join own world = joining own.child
touching (Return e) own world = chain (eval own.env e) (λ v. Ok untouched)
