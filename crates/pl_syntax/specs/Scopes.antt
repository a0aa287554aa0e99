-- Sorts, and the names that are in scope.
use Rattle.std.specs.Prelude.{Bool, true, false, Option, Some, None, List, [], ◌∷◌, if◌then◌else◌}
use Rattle.std.specs.Str.{bytes_eq}
use Rattle.pl_syntax.specs.declared.expr.Class.{Class}
use Rattle.pl_syntax.specs.declared.expr.Sort.{Sort}
use Rattle.pl_syntax.specs.declared.expr.Sort.TheVariants.{I64, Bool as Truths, RefI64, RefBool, RefStruct, Atomic, Lock, Int, Perm, Gref, Iname}
use Rattle.pl_syntax.specs.Tree.{Name}

-- a sort as contracts and ghost code read it: i64 as int
abbrev pub read_as : Sort → Sort
read_as I64 = Int
read_as sort = sort

-- whether two sorts are the same
abbrev pub same_sort : Sort → Sort → Bool
same_sort I64 I64 = true
same_sort Truths Truths = true
same_sort RefI64 RefI64 = true
same_sort RefBool RefBool = true
same_sort (RefStruct s) (RefStruct t) = bytes_eq s t
same_sort Atomic Atomic = true
same_sort Lock Lock = true
same_sort Int Int = true
same_sort Perm Perm = true
same_sort Gref Gref = true
same_sort Iname Iname = true
same_sort _ _ = false

-- whether it is a `ref` sort
abbrev pub is_ref : Sort → Bool
is_ref RefI64 = true
is_ref RefBool = true
is_ref (RefStruct s) = true
is_ref _ = false

-- a name in scope: its class, and its sort as contracts read it. It has no sort where what it was bound to was refused.
pub record Bound : Type 0 where
  pub name : Name
  pub class : Class
  pub sort : Option Sort

-- the names in scope, the newest first
abbrev pub Scope : Type 0
Scope = List Bound

-- the newest binder of that name
abbrev pub look : Name → Scope → Option Bound
look x [] = None
look x (b ∷ bs) = if bytes_eq x b.name then Some b else look x bs

-- one name more
abbrev pub bind : Name → Class → Option Sort → Scope → Scope
bind x class sort scope = record { name = x; class = class; sort = sort } ∷ scope
