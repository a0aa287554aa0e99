-- Steps that may fault.
use Rattle.std.specs.Prelude.{Result, Ok, Err}
use Rattle.pl_resource.specs.declared.value.Fault.{Fault}

-- one step and then the next, up to the first fault
abbrev pub chain : {A B : Type 0} → Result A Fault → (A → Result B Fault) → Result B Fault
chain (Ok answer) next = next answer
chain (Err fault) next = Err fault

-- what a call with no answer leaves: its fault, or else what is there after it
abbrev pub leaves : {A B : Type 0} → Result A Fault → B → Result B Fault
leaves (Ok answer) after = Ok after
leaves (Err fault) after = Err fault
