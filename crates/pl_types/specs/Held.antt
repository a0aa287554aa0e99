-- What the code holds, as plain data.
use Rattle.std.specs.Prelude.{Option, Some, None, List, map}
use Rattle.std.specs.Borrow.{Bor}
use Rattle.pl_syntax.specs.declared.expr.Sort.{Sort}
use Rattle.pl_syntax.specs.declared.expr.Sort.TheVariants as s
use Rattle.pl_types.specs.declared.kinds.Kind.{Kind}
use Rattle.pl_types.specs.declared.kinds.Kind.TheVariants as k
use Rattle.pl_types.specs.declared.scopes.Binding.{Binding}
use Rattle.pl_types.specs.declared.exprs.Own.{Own}
use Rattle.pl_types.specs.declared.exprs.Own.TheVariants as o
use Rattle.pl_types.specs.declared.exprs.Want.{Want}
use Rattle.pl_types.specs.declared.exprs.Want.TheVariants as w
use Rattle.pl_types.specs.declared.cells.Content.{Content}
use Rattle.pl_types.specs.declared.cells.Content.TheVariants as c
use Rattle.pl_syntax.specs.Scopes.{Bound}
use Rattle.pl_syntax.specs.ExprRules as x
use Rattle.pl_syntax.specs.PropRules as p

-- the sort that is passed
abbrev pub sort : Kind → Sort
sort k.Bool = s.Bool
sort k.RefI64 = s.RefI64
sort k.RefBool = s.RefBool
sort (k.RefStruct name) = s.RefStruct name.now
sort k.Atomic = s.Atomic
sort k.Lock = s.Lock
sort k.Int = s.Int
sort k.Perm = s.Perm
sort k.Gref = s.Gref
sort k.Iname = s.Iname

abbrev pub sorts : Option Kind → Option Sort
sorts None = None
sorts (Some kind) = Some (sort kind)

-- a name in scope
abbrev pub bound : Binding → Bound
bound b = record { name = b.name.now; class = b.class; sort = sorts b.sort }

abbrev pub bounds : Option Binding → Option Bound
bounds None = None
bounds (Some b) = Some (bound b)

-- the sort of an expression
abbrev pub own : Own → x.Own
own o.Unsorted = x.unsorted
own o.Null = x.null
own (o.Of kind) = x.of (sort kind)

-- what is wanted of one
abbrev pub want : Want → x.Want
want w.Any = x.any
want w.Value = x.value
want (w.Sorted kind) = x.sorted (sort kind)
want w.Scalar = x.scalar
want w.Array = x.array
want w.Block = x.block

-- what a cell holds
abbrev pub content : Content → p.Content
content c.Unknown = p.unknown
content c.Wrong = p.wrong
content (c.Of kind) = p.of (sort kind)

-- a list that is lent, if there is one, and a list of what is lent
abbrev pub lent : {X : Type 0} → Option (Bor X) → Option X
lent None = None
lent (Some b) = Some b.now

abbrev pub all_lent : {X : Type 0} → List (Bor X) → List X
all_lent list = map (λ b. b.now) list
