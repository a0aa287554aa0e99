-- What the rule of a statement promises of its event, in any frame.
use Rattle.std.specs.Prelude.{◌≡◌, ℕ, ℤ, pos, Option, Some, None, List, ◌∷◌, length}
use Rattle.pl_base.specs.Permission.{whole}
use Rattle.pl_syntax.specs.Tree.{Name, Stmt, Load, Alloc, Free, Print}
use Rattle.pl_syntax.specs.declared.expr.Sort.{Sort}
use Rattle.pl_syntax.specs.declared.expr.Sort.TheVariants.{I64, RefI64}
use Rattle.pl_syntax.specs.Values.{Value, Number, HasSort, Vars}
use Rattle.pl_syntax.specs.Straight.{Scope, sort_of}
use Rattle.pl_syntax.specs.Resource.{Plain, Share, Resource, Adds}
use Rattle.pl_terms.specs.declared.term.Term.{Term}
use Rattle.pl_terms.specs.Terms.{Values, eval, AllHold, Extends, Fresh}
use Rattle.pl_terms.specs.Table.{Names, Known}
use Rattle.pl_source.specs.Machine.{HeapBlock, Heap, block_at, resource_of, one_cell, Event, Goes, effect}

-- the share of a whole plain place
abbrev pub full : Value → Share
full w = record { permission = whole; value = w; mark = Plain }

-- the share of the free token of a block of one element
abbrev pub one_token : Share
one_token = full (Number (pos 1))

-- each live block has one plain cell
pub record OneCells (h : Heap) : Type 0 where
  pub each : (b : ℕ) (block : HeapBlock) → block_at h b ≡ Some block → (w : Value) × (block ≡ one_cell w)

-- a name's term has the name's value
abbrev pub TermFits : Values → Option Term → Option Value → Type 0
TermFits vs None None = Unit {0}
TermFits vs None (Some w) = ⊥
TermFits vs (Some t) None = ⊥
TermFits vs (Some t) (Some w) = eval vs t ≡ Some w

-- names stand for terms with the names' values
pub record Stands (vs : Values) (names : Names) (vars : Vars) : Type 0 where
  pub at : (y : Name) → TermFits vs (names y) (vars y)

-- a name in scope has a value of its sort
abbrev pub SortFits : Option Sort → Option Value → Type 0
SortFits None v = Unit {0}
SortFits (Some k) None = ⊥
SortFits (Some k) (Some w) = HasSort k w

-- all names in scope have values of their sorts
pub record HaveSorts (scope : Scope) (vars : Vars) : Type 0 where
  pub at : (y : Name) → SortFits (sort_of y scope) (vars y)

-- at these values, what is known holds of a thread's variables and its part
pub record Fits (s : Known) (scope : Scope) (vs : Values) (vars : Vars) (x : Resource) : Type 0 where
  pub names : Stands vs s.names vars
  pub sorts : HaveSorts scope vars
  pub fresh : Fresh (length s.origins) vs
  pub atoms : AllHold vs s.atoms x

-- a statement went, and after it what is known then holds, with the same frame
pub record Went (t : Known) (scope : Scope) (vs : Values) (st : Stmt) (h : Heap) (vars : Vars) (frame : Resource) : Type 0 where
  pub event : Event
  pub heap : Heap
  pub after : Vars
  pub out : List ℤ
  pub goes : effect st h vars ≡ Goes event heap after out
  pub values : Values
  pub extends : Extends vs values
  pub part : Resource
  pub fits : Fits t scope values after part
  pub adds : Adds part frame (resource_of heap)
  pub cells : OneCells heap

-- the names in scope after a statement
abbrev pub scope_after : Scope → Stmt → Scope
scope_after scope (Load place y cell is_ghost) = (y, I64) ∷ scope
scope_after scope (Alloc place y e) = (y, RefI64) ∷ scope
scope_after scope (Free place y) = scope
scope_after scope (Print place e) = scope
scope_after scope _ = scope
