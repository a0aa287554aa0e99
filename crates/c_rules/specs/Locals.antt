-- The locals that are bound, as the code holds them: by number, with nothing where a block has ended.
use Rattle.std.specs.Prelude.{◌≡◌, ℕ, ◌+◌, ◌-◌, ◌==◌, Option, Some, None, if◌then◌else◌, List, [], ◌∷◌, ◌++◌, length, take, replicate}
use Rattle.std.specs.List.{slice_get}
use Rattle.std.specs.Str.{bytes_eq}
use Rattle.c_syntax.specs.declared.kind.CType.{CType}
use Rattle.c_syntax.specs.declared.program.CParam.{CParam}
use Rattle.c_syntax.specs.Rules.{Scope}
use Rattle.c_syntax.specs.Tree.{Name}
use Rattle.c_rules.specs.Kinds.{type}
use Rattle.c_rules.specs.declared.locals.Binder.{Binder}

-- a binder with that number
abbrev pub numbered : ℕ → Binder → CParam
numbered n b = record { local = record { name = b.name.now; number = n }; kind = type b.kind }

-- those that are bound, the newest first; the first has the number n
abbrev pub bound_from : ℕ → List (Option Binder) → List CParam
bound_from n [] = []
bound_from n (None ∷ slots) = bound_from (n + 1) slots
bound_from n (Some b ∷ slots) = bound_from (n + 1) slots ++ (numbered n b ∷ [])

-- the scope that the slots stand for
abbrev pub scope_of : List (Option Binder) → Scope
scope_of slots = record { bound = bound_from 1 slots; next = length slots + 1 }

-- the type of the binder in a slot, if it has that name
abbrev pub named : Name → Option (Option Binder) → Option CType
named name None = None
named name (Some None) = None
named name (Some (Some b)) = if bytes_eq name b.name.now then Some (type b.kind) else None

-- the type of the local with that name and number
abbrev pub look : List (Option Binder) → Name → ℕ → Option CType
look slots name n = if n == 0 then None else named name (slice_get slots (n - 1))

-- the slots from the k-th on hold nothing
abbrev pub closed : ℕ → List (Option Binder) → List (Option Binder)
closed k slots = take k slots ++ replicate (length slots - k) None

-- the slots that were there are as they were
abbrev pub Grows : List (Option Binder) → List (Option Binder) → Type 0
Grows old new = take (length old) new ≡ old
