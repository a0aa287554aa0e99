-- Breaches in expressions.
use Rattle.std.specs.Prelude.{ℤ, pos, negsuc, ◌^◌, ◌&&◌, nat_lt, Bool, true, false, Option, Some, None, List, [], ◌∷◌, ◌++◌}
use Rattle.pl_base.specs.declared.pos.Pos.{Pos}
use Rattle.pl_syntax.specs.declared.expr.BinOp.{BinOp}
use Rattle.pl_syntax.specs.declared.expr.BinOp.TheVariants as op
use Rattle.pl_syntax.specs.declared.expr.Class.{Class}
use Rattle.pl_syntax.specs.declared.expr.Class.TheVariants as class
use Rattle.pl_syntax.specs.declared.expr.Sort.{Sort}
use Rattle.pl_syntax.specs.declared.expr.Sort.TheVariants as sort
use Rattle.pl_syntax.specs.Tree.{Expr, Int, Truth, Null, Var, Neg, Not, Bin}
use Rattle.pl_syntax.specs.declared.rules.Breach.{Breach}
use Rattle.pl_syntax.specs.declared.rules.Rule.TheVariants.{Unknown, GhostFlow, IllTyped}
use Rattle.pl_syntax.specs.declared.rules.Mode.{Mode}
use Rattle.pl_syntax.specs.declared.rules.Mode.TheVariants as mode
use Rattle.pl_syntax.specs.Breaches.{at, unless, or_else}
use Rattle.pl_syntax.specs.Scopes.{Scope, Bound, look, same_sort, is_ref}

-- ---- names, literals and `==>`

-- whether names of that class may be used there: real code uses real ones, evaluated ghost code no logical ones
abbrev pub admits : Mode → Class → Bool
admits mode.Real class.Real = true
admits mode.Real _ = false
admits mode.Ghost class.Logical = false
admits _ _ = true

-- whether a number has 64 bits with a sign
abbrev pub fits_i64 : ℤ → Bool
fits_i64 (pos n) = nat_lt n (2 ^ 63)
fits_i64 (negsuc n) = nat_lt n (2 ^ 63)

-- literals of real code have 64 bits
abbrev pub literal_fits : Mode → ℤ → Bool
literal_fits mode.Real n = fits_i64 n
literal_fits _ n = true

-- `==>` stands in propositions alone
abbrev pub may_stand : Mode → BinOp → Bool
may_stand mode.Prop _ = true
may_stand _ op.Implies = false
may_stand _ _ = true

-- the use of a name at a place
abbrev pub use_breaches : Mode → Pos → Option Bound → List Breach
use_breaches m place None = at Unknown place ∷ []
use_breaches m place (Some b) = unless (admits m b.class) GhostFlow place

-- what is wrong with an expression whatever sorts its parts have. In propositions that is names alone.
abbrev pub leaves : Mode → Scope → Expr → List Breach
leaves m scope (Int place n) = unless (literal_fits m n) IllTyped place
leaves m scope (Var place x) = use_breaches m place (look x scope)
leaves m scope (Neg place e) = leaves m scope e
leaves m scope (Not place e) = leaves m scope e
leaves m scope (Bin place o a b) = unless (may_stand m o) IllTyped place ++ leaves m scope a ++ leaves m scope b
leaves m scope _ = []

-- ---- sorts

-- the sort that an expression has by itself: none where it was refused before; `null` has that of its place
pub data Own : Type 0 where
  unsorted : Own
  null : Own
  of : (s : Sort) → Own

abbrev pub own_sort : Option Sort → Own
own_sort None = unsorted
own_sort (Some s) = of s

abbrev pub own_name : Option Bound → Own
own_name None = unsorted
own_name (Some b) = own_sort b.sort

-- the sort of what an operator gives
abbrev pub outcome : BinOp → Sort
outcome op.Add = sort.Int
outcome op.Sub = sort.Int
outcome op.Mul = sort.Int
outcome op.Div = sort.Int
outcome op.Rem = sort.Int
outcome _ = sort.Bool

abbrev pub own : Scope → Expr → Own
own scope (Int place n) = of sort.Int
own scope (Truth place b) = of sort.Bool
own scope (Null place) = null
own scope (Var place x) = own_name (look x scope)
own scope (Neg place e) = of sort.Int
own scope (Not place e) = of sort.Bool
own scope (Bin place o a b) = of (outcome o)

-- what is wanted of an expression
pub data Want : Type 0 where
  -- nothing, where its place was refused
  any : Want
  -- some sort that it has by itself
  value : Want
  -- that sort
  sorted : (s : Sort) → Want
  -- what a cell of its own can hold: an integer or a truth value
  scalar : Want
  -- a pointer to an array
  array : Want
  -- a pointer to a block
  block : Want

-- a cell of its own holds an integer or a truth value
abbrev pub is_scalar : Sort → Bool
is_scalar sort.Int = true
is_scalar sort.Bool = true
is_scalar _ = false

abbrev pub is_array : Sort → Bool
is_array sort.RefI64 = true
is_array sort.RefBool = true
is_array _ = false

abbrev pub is_block : Sort → Bool
is_block sort.Atomic = true
is_block s = is_ref s

-- whether a sort is wanted
abbrev pub takes : Want → Sort → Bool
takes any s = true
takes value s = true
takes (sorted t) s = same_sort t s
takes scalar s = is_scalar s
takes array s = is_array s
takes block s = is_block s

-- `null` stands where one `ref` sort is wanted
abbrev pub takes_null : Want → Bool
takes_null any = true
takes_null (sorted t) = is_ref t
takes_null _ = false

abbrev pub fits : Want → Own → Bool
fits want unsorted = true
fits want null = takes_null want
fits want (of s) = takes want s

-- where an expression begins
abbrev pub begins : Expr → Pos
begins (Int place n) = place
begins (Truth place b) = place
begins (Null place) = place
begins (Var place x) = place
begins (Neg place e) = place
begins (Not place e) = place
begins (Bin place o a b) = place

-- the sort of the operands of an operator; `==` and `!=` have two of any one sort
abbrev pub operand : BinOp → Option Sort
operand op.Eq = None
operand op.Ne = None
operand op.And = Some sort.Bool
operand op.Or = Some sort.Bool
operand op.Implies = Some sort.Bool
operand _ = Some sort.Int

-- a variable, or the `not` of one
abbrev pub is_var : Expr → Bool
is_var (Var place x) = true
is_var _ = false

abbrev pub is_guard : Expr → Bool
is_guard (Not place e) = is_var e
is_guard e = is_var e

-- the left of `==>` is a guard
abbrev pub left_fits : BinOp → Expr → Bool
left_fits op.Implies a = is_guard a
left_fits _ a = true

-- two sides of one sort, or `null` and a side of a `ref` sort. Inside are the breaches inside of both.
abbrev pub compared : List Breach → Own → Own → Pos → Pos → Pos → List Breach
compared inside (of s) (of t) place left right = or_else inside (unless (same_sort s t) IllTyped place)
compared inside (of s) null place left right = inside ++ unless (is_ref s) IllTyped right
compared inside null (of t) place left right = unless (is_ref t) IllTyped left ++ inside
compared inside null null place left right = at IllTyped left ∷ inside
compared inside _ _ place left right = inside

-- a part whose own sort must fit, where nothing inside it is a breach
abbrev pub fitted : List Breach → Bool → Pos → List Breach
fitted inside test place = or_else inside (unless test IllTyped place)

-- the two sides of an operator with operands of that sort, whose left side may stand there by its form
abbrev pub operands : Option Sort → Bool → List Breach → Own → List Breach → Own → Pos → Pos → Pos → List Breach
operands (Some s) form one a two b place left right =
    fitted one (form && fits (sorted s) a) left ++ fitted two (fits (sorted s) b) right
operands None form one a two b place left right = compared (one ++ two) a b place left right

-- the innermost parts whose own sort isn't wanted
abbrev pub inside : Scope → Expr → List Breach
inside scope (Neg place e) = fitted (inside scope e) (fits (sorted sort.Int) (own scope e)) (begins e)
inside scope (Not place e) = fitted (inside scope e) (fits (sorted sort.Bool) (own scope e)) (begins e)
inside scope (Bin place o a b) =
    operands (operand o) (left_fits o a) (inside scope a) (own scope a) (inside scope b) (own scope b) place (begins a) (begins b)
inside scope _ = []

-- ---- what stands in a place

-- an expression of which that is wanted
abbrev pub wanted : Mode → Scope → Want → Expr → List Breach
wanted m scope want e = leaves m scope e ++ fitted (inside scope e) (fits want (own scope e)) (begins e)

-- a name by itself, of which that is wanted
abbrev pub named : Mode → Want → Pos → Option Bound → List Breach
named m want place b = use_breaches m place b ++ unless (fits want (own_name b)) IllTyped place
