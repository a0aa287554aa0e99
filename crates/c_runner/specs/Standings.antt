-- What follows from what threads stand before, as functions.
use Rattle.std.specs.Prelude.{◌≡◌, ℕ, ◌<◌, ◌==◌, ◌&&◌, ◌||◌, Bool, true, false, List, [], ◌∷◌, Option, Some, None, is_some, length, nat_le, nat_lt, if◌then◌else◌}
use Rattle.pl_resource.specs.declared.value.Cell.{Cell}
use Rattle.pl_resource.specs.declared.value.Fault.{Fault}
use Rattle.c_meaning.specs.declared.action.Next.{Next}
use Rattle.c_meaning.specs.declared.action.Next.TheVariants as next
use Rattle.c_meaning.specs.Steps.{race_of}
use Rattle.c_runner.specs.declared.standing.Standing.{Standing}
use Rattle.c_runner.specs.declared.run_end.RunEnd.{RunEnd}
use Rattle.c_runner.specs.declared.run_end.RunEnd.TheVariants as end

abbrev pub touches : Next → Bool
touches (next.Act touch) = is_some touch.cell || is_some touch.block
touches _ = false

abbrev pub is_fork : Next → Bool
is_fork (next.Act touch) = touch.forks
is_fork _ = false

-- a thread, by what each stands before
abbrev pub stands : (ℕ → Next) → ℕ → Standing
stands next t = record { tid = t; next = next t }

abbrev pub raced : ℕ → ℕ → Option Cell → Option (ℕ × ℕ × Cell) → Option (ℕ × ℕ × Cell)
raced s t (Some cell) rest = Some (s, t, cell)
raced s t None rest = rest

abbrev pub race_with : Standing → List Standing → Option (ℕ × ℕ × Cell)
race_with a [] = None
race_with a (b ∷ bs) = raced a.tid b.tid (race_of a.next b.next) (race_with a bs)

abbrev pub either_race : Option (ℕ × ℕ × Cell) → Option (ℕ × ℕ × Cell) → Option (ℕ × ℕ × Cell)
either_race (Some r) rest = Some r
either_race None rest = rest

abbrev pub race_among : List Standing → Option (ℕ × ℕ × Cell)
race_among [] = None
race_among (a ∷ others) = either_race (race_with a others) (race_among others)

-- the first of these behind a thread that races with it
abbrev pub race_behind : Standing → List Standing → Option (ℕ × ℕ × Cell)
race_behind a [] = None
race_behind a (b ∷ bs) = if nat_lt a.tid b.tid then raced a.tid b.tid (race_of a.next b.next) (race_behind a bs) else race_behind a bs

-- a thread has moved in an event: it was stepped, or made
abbrev pub has_moved : ℕ → ℕ → Standing → Bool
has_moved stepped made a = (a.tid == stepped) || nat_le made a.tid

-- the first pair that races, where each thread that hasn't moved is compared with these alone
abbrev pub race_moved : ℕ → ℕ → List Standing → List Standing → Option (ℕ × ℕ × Cell)
race_moved stepped made moved [] = None
race_moved stepped made moved (a ∷ others) = either_race (if has_moved stepped made a then race_with a others else race_behind a moved) (race_moved stepped made moved others)

-- of the threads that haven't moved no two race
abbrev pub AreQuiet : (ℕ → Next) → ℕ → ℕ → Type 0
AreQuiet stand stepped made = (s t : ℕ) → s < t → (s ≡ stepped → ⊥) → (t ≡ stepped → ⊥) → t < made → race_of (stand s) (stand t) ≡ None

abbrev pub faulting : ℕ → Next → Option (ℕ × Fault) → Option (ℕ × Fault)
faulting t (next.Fault f) rest = Some (t, f)
faulting t _ rest = rest

abbrev pub fault_among : List Standing → Option (ℕ × Fault)
fault_among [] = None
fault_among (a ∷ others) = faulting a.tid a.next (fault_among others)

abbrev pub forks_among : List Standing → Bool
forks_among [] = false
forks_among (a ∷ others) = is_fork a.next || forks_among others

abbrev pub end_by_race : Option (ℕ × ℕ × Cell) → Option RunEnd → Option RunEnd
end_by_race (Some r) rest = Some (end.Race r.0 r.1 r.2)
end_by_race None rest = rest

abbrev pub end_by_fault : Option (ℕ × Fault) → Option RunEnd → Option RunEnd
end_by_fault (Some r) rest = Some (end.CFault r.0 r.1)
end_by_fault None rest = rest

-- the end in a state with this race, where these threads are enabled
abbrev pub end_with : Option (ℕ × ℕ × Cell) → List Standing → List ℕ → ℕ → ℕ → Option RunEnd
end_with race standings enabled bound count =
    if length standings == 0 then Some end.Ended else
    end_by_race race (end_by_fault (fault_among standings) (
    if length enabled == 0 then Some end.Deadlock else
    if nat_le 1024 (length standings) && forks_among standings then Some end.ThreadLimit else
    if nat_le bound count then Some end.StepBound else None))

abbrev pub end_among : List Standing → List ℕ → ℕ → ℕ → Option RunEnd
end_among standings enabled bound count = end_with (race_among standings) standings enabled bound count
