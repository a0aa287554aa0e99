-- How the code holds the names in scope: slots, and the number of the newest slot of each name.
use Rattle.std.specs.Prelude.{◌≡◌, ℕ, Option, Some, None, List, [], ◌∷◌, if◌then◌else◌, length}
use Rattle.std.specs.HashMap.{get_by}
use Rattle.std.specs.Str.{bytes_eq}
use Rattle.pl_syntax.specs.Tree.{Name}
use Rattle.pl_syntax.specs.Scopes.{Bound}
use Rattle.pl_types.specs.declared.numbers.Numbers.{Numbers}
use Rattle.pl_types.specs.declared.scopes.Slot.{Slot}
use Rattle.pl_types.specs.Held.{bound}

-- numbers of names
abbrev pub Table : Type 0
Table = Name → Option ℕ

abbrev pub numbers_in : Numbers → Table
numbers_in numbers = λ q. get_by (λ k. bytes_eq q k.now) numbers.newest

abbrev pub no_numbers : Table
no_numbers q = None

-- another number for one name, or none
abbrev pub set : Name → Option ℕ → Table → Table
set name number table = λ q. if bytes_eq name q then number else table q

-- the binder that a slot holds
abbrev pub held : Slot → Bound
held s = bound s.binding

-- the table has the number of the newest slot of each name, where the slots are given with the newest first and their
-- numbers count from the oldest; and each slot has the number that its name had before it
abbrev pub Tied : List Slot → Table → Type 0
Tied [] table = (q : Name) → table q ≡ None
Tied (s ∷ older) table = (table s.binding.name.now ≡ Some (length older)) × Tied older (set s.binding.name.now s.hides table)
