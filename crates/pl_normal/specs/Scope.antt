-- What names stand for, and the atoms by their numbers.
use Rattle.std.specs.Prelude.{ℕ, List, [], ◌∷◌, ◌++◌, map, take, slice_get, Option, Some, None, if◌then◌else◌}
use Rattle.std.specs.Option.{option_map}
use Rattle.std.specs.Str.{bytes_eq}
use Rattle.pl_base.specs.declared.perm.Perm.{Perm}
use Rattle.pl_syntax.specs.declared.expr.Sort.{Sort}
use Rattle.pl_syntax.specs.Tree.{Name, Expr}
use Rattle.pl_syntax.specs.Plain.{plain_expr}
use Rattle.pl_forms.specs.declared.form.Form.{Form}
use Rattle.pl_normal.specs.declared.scope.Operands.{Operands}
use Rattle.pl_normal.specs.declared.scope.Binding.{Binding}
use Rattle.pl_normal.specs.declared.scope.Scope as scope
use Rattle.pl_normal.specs.declared.scope.Atom as atom
use Rattle.pl_normal.specs.declared.scope.Origin as origin
use Rattle.pl_normal.specs.declared.scope.Origin.TheVariants as o

-- where an atom comes from: a variable; an expression, as it is printed; or a part of a permission
pub data Origin : Type 0 where
  Variable : (x : Name) (sort : Sort) → Origin
  Opaque : (e : Expr) → Origin
  Part : (part : Perm) (var : Option ℕ) → Origin

-- an atom; a product, a quotient or a remainder has its operands' forms
pub record Atom : Type 0 where
  pub origin : Origin
  pub operands : Option Operands

-- the atoms by their numbers, and the names with their forms, the oldest first
pub record Scope : Type 0 where
  pub atoms : List Atom
  pub bound : List Binding

-- ---- of the program's own scope

abbrev pub plain_origin : origin.Origin → Origin
plain_origin (o.Var x sort) = Variable x sort
plain_origin (o.Opaque e) = Opaque (plain_expr e)
plain_origin (o.Part part var) = Part part var

abbrev pub plain_atom : atom.Atom → Atom
plain_atom a = record { origin = plain_origin a.origin; operands = a.operands }

abbrev pub scope_of : scope.Scope → Scope
scope_of s = record { atoms = map plain_atom s.atoms.items; bound = s.bound }

-- where the atom of a number comes from
abbrev pub origin_at : ℕ → Scope → Option Origin
origin_at k s = option_map (λ a. a.origin) (slice_get s.atoms k)

-- ---- names

abbrev pub or_older : Option Form → Option Form → Option Form
or_older (Some f) older = Some f
or_older None older = older

abbrev pub if_named : Name → Binding → Option Form
if_named x b = if bytes_eq x b.name then Some b.form else None

-- the form of the newest binder of a name
abbrev pub form_of : List Binding → Name → Option Form
form_of [] x = None
form_of (b ∷ bs) x = or_older (form_of bs x) (if_named x b)

-- before any name
abbrev pub no_names : Scope
no_names = record { atoms = []; bound = [] }

-- one name more
abbrev pub with_name : Scope → Binding → Scope
with_name s b = record s { bound = s.bound ++ b ∷ [] }

-- a variable more, for which its name stands
abbrev pub with_variable : Scope → Name → Sort → Binding → Scope
with_variable s x sort b = record { atoms = s.atoms ++ record { origin = Variable x sort; operands = None } ∷ []; bound = s.bound ++ b ∷ [] }

-- only the oldest names
abbrev pub cut : ℕ → Scope → Scope
cut n s = record s { bound = take n s.bound }
