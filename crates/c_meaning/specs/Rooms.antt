-- The memory that an event needs.
use Rattle.std.specs.Prelude.{◌≡◌, ℕ, ◌≤◌, ◌<◌, ⊤, Some, Ok, IsTrue, length, vec_len, vec_capacity}
use Rattle.pl_resource.specs.Faults.{chain}
use Rattle.pl_resource.specs.Heap.{IsFields}
use Rattle.c_meaning.specs.declared.world.World.{World}
use Rattle.c_meaning.specs.Tree.{Basic, Make, NewLock, Print}
use Rattle.c_meaning.specs.Values.{Env}
use Rattle.c_meaning.specs.Effects.{eval_number, count_of}

-- there is room for the block or the lock that an operation makes, and for the number that it prints
abbrev pub BlockRoom : Env → Basic → World → Type 0
BlockRoom env (Make x atomic first count) w =
    (length first ≤ vec_capacity w.first) × ((n : ℕ) → chain (eval_number env count) count_of ≡ Ok n → IsFields (length first) → w.heap.room ≡ Some (length first, n))
BlockRoom env (NewLock x) w = IsTrue w.locks.room
BlockRoom env (Print e) w = vec_len w.outputs < vec_capacity w.outputs
BlockRoom env _ w = ⊤
