-- What an operation of the code has done, as an effect.
use Rattle.std.specs.Prelude.{Result, Ok, Err, drop}
use Rattle.pl_resource.specs.declared.value.Fault.{Fault}
use Rattle.c_meaning.specs.declared.action.Action.{Action}
use Rattle.c_meaning.specs.declared.world as rust
use Rattle.c_meaning.specs.declared.act.Turn as code
use Rattle.c_meaning.specs.declared.act.Turn.TheVariants as turn
use Rattle.c_meaning.specs.Values.{Env}
use Rattle.c_meaning.specs.Effects.{World, Own, Effect, Turn, Past, Calls, Forks, Returns}

-- what the threads share
abbrev pub shared : rust.World.World → World
shared w = record { blocks = w.heap.blocks; locks = w.locks.locks; input = drop w.at w.input.items; outputs = w.outputs.items }

-- where it goes; the locals are those of the function that is called
abbrev pub turn_of : Env → code.Turn → Turn
turn_of locals turn.Past = Past
turn_of locals (turn.Call into) = Calls locals into
turn_of locals turn.Fork = Forks locals
turn_of locals (turn.Return v) = Returns v

abbrev pub acted : Result (Action × code.Turn) Fault → Own → World → Env → Result Effect Fault
acted (Err f) own world locals = Err f
acted (Ok r) own world locals = Ok (record { action = r.0; env = own.env; child = own.child; world = world; turn = turn_of locals r.1 })
