-- What a thread waits for, by looking at its statement alone.
use Rattle.std.specs.Prelude.{ℕ, Bool, true, false, not, Some, Result, Ok, Err}
use Rattle.pl_resource.specs.declared.value.Fault.{Fault}
use Rattle.c_meaning.specs.declared.action.Next.{Next}
use Rattle.c_meaning.specs.declared.action.Next.TheVariants as next
use Rattle.c_meaning.specs.Tree.{Stmts, Do, more, Basic, Acquire, Join}
use Rattle.c_meaning.specs.Effects.{Own, lock_of_local}
use Rattle.c_meaning.specs.Events.{State, lock_ready, child_ready}

-- it stands before an action, whether or not it waits there
abbrev pub acts : Next → Bool
acts (next.Act touch) = true
acts _ = false

abbrev pub lock_waits : State → Result ℕ Fault → Bool
lock_waits state (Ok k) = not (lock_ready state.world.locks (Some k))
lock_waits state (Err f) = false

-- an acquire of a lock that isn't free, or a join of a thread that hasn't ended
abbrev pub waits_for : Basic → Own → State → Bool
waits_for (Acquire x) own state = lock_waits state (lock_of_local own.env x)
waits_for Join own state = not (child_ready state.threads own.child)
waits_for _ own state = false

abbrev pub waits_at : Stmts → Own → State → Bool
waits_at (more (Do b) rest) own state = waits_for b own state
waits_at _ own state = false
