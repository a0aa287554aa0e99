-- The ghost cells by number, which hold whole numbers, and what each use of them answers.
use Rattle.std.specs.Prelude.{ℕ, ℤ, List, Option, Some, None, Result, Ok, Err, slice_get, slice_set}
use Rattle.pl_resource.specs.Faults.{chain}
use Rattle.pl_resource.specs.declared.value.Fault.{Fault}
use Rattle.pl_resource.specs.declared.value.Fault.TheVariants.{GhostMissing}

-- a number that is there: else `GhostMissing`
abbrev pub if_made : Option ℤ → Result ℤ Fault
if_made None = Err GhostMissing
if_made (Some number) = Ok number

-- a ghost read: the number in the cell
abbrev pub get_of : List ℤ → ℕ → Result ℤ Fault
get_of cells cell = if_made (slice_get cells cell)

-- a ghost write: the cells after it
abbrev pub set_of : List ℤ → ℕ → ℤ → Result (List ℤ) Fault
set_of cells cell new = chain (get_of cells cell) (λ held. Ok (slice_set cells cell new))
