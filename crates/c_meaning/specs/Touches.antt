-- What an event touches.
use Rattle.std.specs.Prelude.{Bool, true, false, Some, None, Result, Ok, Err}
use Rattle.pl_resource.specs.declared.value.Fault.{Fault}
use Rattle.c_meaning.specs.declared.action.Action.{Action}
use Rattle.c_meaning.specs.declared.action.Action.TheVariants as act
use Rattle.c_meaning.specs.declared.action.Touch.{Touch}
use Rattle.c_meaning.specs.Tree.{Basic, Load, Store, Cas}
use Rattle.c_meaning.specs.Effects.{Effect}

-- nothing that another thread could touch or wait for
abbrev pub untouched : Touch
untouched = record { cell = None; block = None; writes = false; atomic = false; lock = None; child = None; forks = false }

-- what an action touches, given whether it is atomic
abbrev pub touch_of : Bool → Action → Touch
touch_of atomic (act.Load cell v) = record untouched { cell = Some cell; atomic = atomic }
touch_of atomic (act.Store cell v) = record untouched { cell = Some cell; writes = true; atomic = atomic }
touch_of atomic (act.Cas cell seen done) = record untouched { cell = Some cell; writes = true; atomic = atomic }
touch_of atomic (act.Free b) = record untouched { block = Some b; writes = true }
touch_of atomic (act.Acquire k) = record untouched { lock = Some k }
touch_of atomic (act.Join t) = record untouched { child = Some t }
touch_of atomic (act.Fork t) = record untouched { forks = true }
touch_of atomic _ = untouched

-- the loads and stores of atomic blocks, and the compare-and-swaps, are atomic (C11 7.17.7)
abbrev pub is_atomic : Basic → Bool
is_atomic (Load x place atomic) = atomic
is_atomic (Store place e atomic) = atomic
is_atomic (Cas x base old new) = true
is_atomic _ = false

-- what an effect touches, or its fault
abbrev pub touched : Bool → Result Effect Fault → Result Touch Fault
touched atomic (Err f) = Err f
touched atomic (Ok e) = Ok (touch_of atomic e.action)
