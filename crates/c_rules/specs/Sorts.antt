-- Breaches of the rules on sorts and names in expressions and cells, each by the byte at which it stands.
-- `at` is where the part begins that is looked at.
use Rattle.std.specs.Prelude.{ℕ, ◌+◌, Bool, false, Option, Some, None, if◌then◌else◌, List, [], ◌∷◌, ◌++◌, length, option_and_then}
use Rattle.c_syntax.specs.declared.kind.CType.{CType}
use Rattle.c_syntax.specs.declared.kind.CType.TheVariants as kind
use Rattle.c_syntax.specs.declared.kind.Local as plain
use Rattle.c_syntax.specs.declared.expr.COp.{COp}
use Rattle.c_syntax.specs.declared.program.CMember.{CMember}
use Rattle.c_syntax.specs.declared.program.CParam.{CParam}
use Rattle.c_syntax.specs.Rules.{type_of, type_of_member, element, operand, outcome}
use Rattle.c_syntax.specs.Text.{operator}
use Rattle.c_syntax.specs.Tree.{Name}
use Rattle.c_forms.specs.declared.word.Local.{Local}
use Rattle.c_forms.specs.declared.word.Number.{Number}
use Rattle.c_forms.specs.declared.word.Number.TheVariants.{Small, Long}
use Rattle.c_forms.specs.Tree as w
use Rattle.c_forms.specs.Tree.{Expr, Cell}
use Rattle.c_forms.specs.Text.{local_text, expr_text}
use Rattle.c_rules.specs.Kinds.{same_type, is_nullable}

-- ---- what is written, as data of the fragment

-- a number; one that is longer than any local's is 0, which no local has
abbrev pub number_of : Number → ℕ
number_of (Small n) = n
number_of (Long digits) = 0

-- the local of that name and number
abbrev pub local_of : Local → plain.Local
local_of x = record { name = x.name; number = number_of x.number }

-- the type of the local that a use names, if one is in scope
abbrev pub kind_at : List CParam → Local → Option CType
kind_at bound x = type_of bound (local_of x)

-- ---- expressions

-- a breach there, unless the test holds
abbrev pub unless : Bool → ℕ → List ℕ
unless test at = if test then [] else at ∷ []

-- a breach there, unless there is something
abbrev pub unless_some : {X : Type 0} → Option X → ℕ → List ℕ
unless_some None at = at ∷ []
unless_some (Some x) at = []

-- these, or where there are none those
abbrev pub or_else : List ℕ → List ℕ → List ℕ
or_else [] others = others
or_else (n ∷ ns) others = n ∷ ns

-- where the right side of an operator begins, whose left side begins there
abbrev pub behind : COp → ℕ → Expr → ℕ
behind op at a = at + length (expr_text a) + length (operator op)

-- the names in an expression that aren't in scope
abbrev pub unknown : List CParam → ℕ → Expr → List ℕ
unknown bound at (w.Var x) = unless_some (kind_at bound x) at
unknown bound at (w.Neg e) = unknown bound (at + 2) e
unknown bound at (w.Not e) = unknown bound (at + 2) e
unknown bound at (w.Bin op a b) = unknown bound (at + 1) a ++ unknown bound (behind op (at + 1) a) b
unknown bound at _ = []

-- the type that an expression has by itself; NULL has none
abbrev pub own : List CParam → Expr → Option CType
own bound (w.Int n) = Some kind.I64
own bound (w.Truth b) = Some kind.Bool
own bound w.Null = None
own bound (w.Var x) = kind_at bound x
own bound (w.Neg e) = Some kind.I64
own bound (w.Not e) = Some kind.Bool
own bound (w.Bin op a b) = Some (outcome op)

-- whether it is that type
abbrev pub is_type : CType → Option CType → Bool
is_type want None = false
is_type want (Some type) = same_type type want

-- two sides of one type, or NULL and a side that may be null; inside are the breaches inside of both
abbrev pub compared : List ℕ → Option CType → Option CType → ℕ → ℕ → ℕ → List ℕ
compared inside (Some s) (Some t) at left right = or_else inside (unless (same_type s t) at)
compared inside (Some s) None at left right = inside ++ unless (is_nullable s) right
compared inside None (Some t) at left right = unless (is_nullable t) left ++ inside
compared inside None None at left right = left ∷ inside

-- what an operator with operands of that type wants of its sides
abbrev pub operands : Option CType → List ℕ → Option CType → List ℕ → Option CType → ℕ → ℕ → ℕ → List ℕ
operands (Some want) a s b t at left right = or_else a (unless (is_type want s) left) ++ or_else b (unless (is_type want t) right)
operands None a s b t at left right = compared (a ++ b) s t at left right

-- the operands whose own sort isn't wanted, each only where nothing inside it is a breach
abbrev pub inside : List CParam → ℕ → Expr → List ℕ
inside bound at (w.Neg e) = or_else (inside bound (at + 2) e) (unless (is_type kind.I64 (own bound e)) (at + 2))
inside bound at (w.Not e) = or_else (inside bound (at + 2) e) (unless (is_type kind.Bool (own bound e)) (at + 2))
inside bound at (w.Bin op a b) =
    operands (operand op) (inside bound (at + 1) a) (own bound a) (inside bound (behind op (at + 1) a) b) (own bound b) at (at + 1) (behind op (at + 1) a)
inside bound at _ = []

-- an expression of which that type is wanted. Where it has names that aren't in scope, these alone are breaches.
abbrev pub wanted : List CParam → CType → ℕ → Expr → List ℕ
wanted bound want at e = or_else (unknown bound at e) (or_else (inside bound at e) (unless (is_type want (own bound e)) at))

-- the same, where also NULL may stand if a pointer that may be null is wanted
abbrev pub fitting : List CParam → CType → ℕ → Expr → List ℕ
fitting bound want at w.Null = unless (is_nullable want) at
fitting bound want at e = wanted bound want at e

-- ---- cells

-- a local of that type
abbrev pub local_wanted : List CParam → CType → ℕ → Local → List ℕ
local_wanted bound want at x = unless (is_type want (kind_at bound x)) at

-- the members of structures, by name
abbrev pub Structs : Type 0
Structs = Name → Option (List CMember)

-- the structure to which a pointer points
abbrev pub pointed : CType → Option Name
pointed (kind.PtrStruct s) = Some s
pointed _ = None

-- the members of the structure to which a local points
abbrev pub members_at : Structs → List CParam → Local → Option (List CMember)
members_at structs bound x = option_and_then structs (option_and_then pointed (kind_at bound x))

-- a base that points to no structure, or a member that it doesn't have
abbrev pub field_breaches : Option (List CMember) → Name → ℕ → ℕ → List ℕ
field_breaches None member base at = base ∷ []
field_breaches (Some members) member base at = unless_some (type_of_member members member) at

-- the type of what a cell holds
abbrev pub held : Structs → List CParam → Cell → Option CType
held structs bound (w.Whole base) = option_and_then element (kind_at bound base)
held structs bound (w.At base index) = option_and_then element (kind_at bound base)
held structs bound (w.Field base member) = option_and_then (λ members. type_of_member members member) (members_at structs bound base)

-- where the name in a cell begins by which its type is known
abbrev pub named_at : ℕ → Cell → ℕ
named_at at (w.Whole base) = at + 1
named_at at (w.At base index) = at
named_at at (w.Field base member) = at + length (local_text base) + 2

-- a base that points to no such cell, a member that isn't there, and what is wrong with an index
abbrev pub cell_breaches : Structs → List CParam → ℕ → Cell → List ℕ
cell_breaches structs bound at (w.Whole base) = unless_some (option_and_then element (kind_at bound base)) (at + 1)
cell_breaches structs bound at (w.At base index) =
    unless_some (option_and_then element (kind_at bound base)) at ++ wanted bound kind.I64 (at + length (local_text base) + 1) index
cell_breaches structs bound at (w.Field base member) =
    field_breaches (members_at structs bound base) member at (at + length (local_text base) + 2)
