-- Breaches in statements.
use Rattle.std.specs.Prelude.{ℕ, ◌==◌, ◌&&◌, ◌||◌, not, nat_lt, Bool, true, false, Option, Some, None, if◌then◌else◌, List, [], ◌∷◌, ◌++◌, length, drop}
use Rattle.std.specs.List.{slice_get}
use Rattle.std.specs.Option.{is_some}
use Rattle.std.specs.Str.{bytes_eq}
use Rattle.pl_base.specs.declared.pos.Pos.{Pos}
use Rattle.pl_syntax.specs.declared.expr.Binder.{Binder}
use Rattle.pl_syntax.specs.declared.expr.Class.TheVariants as class
use Rattle.pl_syntax.specs.declared.expr.Sort.{Sort}
use Rattle.pl_syntax.specs.declared.expr.Sort.TheVariants as sort
use Rattle.pl_syntax.specs.Tree as t
use Rattle.pl_syntax.specs.Tree.{Name, Expr, CellExpr, Init, Key, Prop, Stmt, Stmts, Braced, Else}
use Rattle.pl_syntax.specs.declared.rules.Breach.{Breach}
use Rattle.pl_syntax.specs.declared.rules.Rule.TheVariants.{Unknown, IllTyped, Opening, Measure}
use Rattle.pl_syntax.specs.declared.rules.Mode.{Mode}
use Rattle.pl_syntax.specs.declared.rules.Mode.TheVariants as mode
use Rattle.pl_syntax.specs.declared.rules.CellUse.TheVariants as cell
use Rattle.pl_syntax.specs.declared.rules.Role.TheVariants as role
use Rattle.pl_syntax.specs.declared.rules.Spot.{Spot}
use Rattle.pl_syntax.specs.declared.rules.Inside.{Inside}
use Rattle.pl_syntax.specs.declared.rules.Inside.TheVariants.{Outside, Direct, Nested}
use Rattle.pl_syntax.specs.Breaches.{at, unless}
use Rattle.pl_syntax.specs.Scopes.{Scope, look, bind, read_as}
use Rattle.pl_syntax.specs.Known.{Known, Placed, nothing, sort_in, written}
use Rattle.pl_syntax.specs.ExprRules as x
use Rattle.pl_syntax.specs.ExprRules.{Want, leaves, own, wanted, named}
use Rattle.pl_syntax.specs.PropRules as p
use Rattle.pl_syntax.specs.PropRules.{content_of, want_of, cell_breaches, is_ghost_cell, agree, arguments_breaches, instance_breaches, binders_breaches, bind_all, prop_breaches, after_breaches, same_atom}

-- ---- where a statement may stand

abbrev pub is_outside : Inside → Bool
is_outside Outside = true
is_outside _ = false

abbrev pub is_nested : Inside → Bool
is_nested Nested = true
is_nested _ = false

-- the arms of an `if` in a block are nested
abbrev pub nested : Inside → Inside
nested Outside = Outside
nested _ = Nested

-- what stands in no block
abbrev pub outside_breaches : Spot → Pos → List Breach
outside_breaches spot place = unless (is_outside spot.inside) Opening place

-- a real statement stands in no ghost function and in no block
abbrev pub real_breaches : Spot → Pos → List Breach
real_breaches spot place = unless (not spot.is_ghost) IllTyped place ++ outside_breaches spot place

-- an atomic action may stand in a block, but not under an `if` of it
abbrev pub action_breaches : Spot → Pos → List Breach
action_breaches spot place = unless (not spot.is_ghost) IllTyped place ++ unless (not (is_nested spot.inside)) Opening place

-- an invariant is opened in real functions and in ghost functions that are marked, and in no block
abbrev pub opening_breaches : Spot → Pos → List Breach
opening_breaches spot place = outside_breaches spot place ++ unless (not spot.is_ghost || spot.opens) Opening place

-- ---- ghost statements

abbrev pub is_ghost_fun : Option Placed → Bool
is_ghost_fun None = false
is_ghost_fun (Some f) = f.fun.is_ghost

-- ---- the names that a statement binds

-- the sort of what a name is bound to
abbrev pub sort_of_own : x.Own → Option Sort
sort_of_own (x.of s) = Some s
sort_of_own _ = None

abbrev pub sort_of_content : p.Content → Option Sort
sort_of_content (p.of s) = Some s
sort_of_content _ = None

-- a pointer to a cell that holds it
abbrev pub pointer_to : x.Own → Option Sort
pointer_to (x.of sort.Int) = Some sort.RefI64
pointer_to (x.of sort.Bool) = Some sort.RefBool
pointer_to _ = None

abbrev pub result_of : Option Binder → Option Sort
result_of None = None
result_of (Some b) = Some (read_as b.sort)

abbrev pub result_in : Option Placed → Option Sort
result_in None = None
result_in (Some f) = result_of f.fun.result

-- the result of a call
abbrev pub bind_result : Option Name → Option Sort → Scope → Scope
bind_result None s scope = scope
bind_result (Some name) s scope = bind name class.Real s scope

-- what a load binds
abbrev pub bind_load : Known → Bool → Name → CellExpr → Scope → Scope
bind_load known true name c scope = bind name class.Ghost (Some sort.Int) scope
bind_load known false name c scope = bind name class.Real (sort_of_content (content_of known cell.Plain scope c)) scope

-- the names in scope behind a statement without a block
abbrev pub bound_by : Known → Stmt → Scope → Scope
bound_by known (t.Let place name e) scope = bind name class.Real (sort_of_own (own scope e)) scope
bound_by known (t.Load place name c is_ghost) scope = bind_load known is_ghost name c scope
bound_by known (t.Alloc place name e) scope = bind name class.Real (pointer_to (own scope e)) scope
bound_by known (t.AllocArray place name e n) scope = bind name class.Real (Some sort.RefI64) scope
bound_by known (t.AllocAtomic place name e) scope = bind name class.Real (Some sort.Atomic) scope
bound_by known (t.New place name s inits) scope = bind name class.Real (Some (sort.RefStruct s)) scope
bound_by known (t.AtomicRead place name c) scope = bind name class.Real (Some sort.Int) scope
bound_by known (t.Cas place name c old new) scope = bind name class.Real (Some sort.Bool) scope
bound_by known (t.NewLock place name i) scope = bind name class.Real (Some sort.Lock) scope
bound_by known (t.Read place name) scope = bind name class.Real (Some sort.Int) scope
bound_by known (t.Call place name f args) scope = bind_result name (result_in (known.funs f)) scope
bound_by known (t.LetMut place name e) scope = bind name class.Real (pointer_to (own scope e)) scope
bound_by known (t.GLet place name e) scope = bind name class.Ghost (sort_of_own (own scope e)) scope
bound_by known (t.GAlloc place name e) scope = bind name class.Ghost (Some sort.Gref) scope
bound_by known (t.NewInv place name i) scope = bind name class.Ghost (Some sort.Iname) scope
bound_by known _ scope = scope

abbrev mutual
  -- the names in scope behind a statement
  pub behind : Known → Stmt → Scope → Scope
  behind known (t.With place name body after) scope = behind_block known body scope
  behind known (t.WithAssert place bs q) scope = bind_all role.Bound bs scope
  behind known s scope = bound_by known s scope

  pub behind_all : Known → Stmts → Scope → Scope
  behind_all known t.end scope = scope
  behind_all known (t.more s rest) scope = behind_all known rest (behind known s scope)

  pub behind_block : Known → Braced → Scope → Scope
  behind_block known (t.braces list close) scope = behind_all known list scope

-- whether a statement without a block is a ghost statement
abbrev pub is_plain_ghost : Known → Stmt → Scope → Bool
is_plain_ghost known (t.Load place name c ghost) scope = ghost
is_plain_ghost known (t.Store place c e) scope = is_ghost_cell scope c
is_plain_ghost known (t.Call place name f args) scope = is_ghost_fun (known.funs f)
is_plain_ghost known (t.GLet place name e) scope = true
is_plain_ghost known (t.GAlloc place name e) scope = true
is_plain_ghost known (t.NewInv place name i) scope = true
is_plain_ghost known (t.Fold place i) scope = true
is_plain_ghost known (t.Unfold place i) scope = true
is_plain_ghost known (t.Share place key) scope = true
is_plain_ghost known (t.Gather place key) scope = true
is_plain_ghost known (t.Split place a lo hi m) scope = true
is_plain_ghost known (t.Join place a lo m hi) scope = true
is_plain_ghost known (t.Focus place base i) scope = true
is_plain_ghost known (t.Unfocus place base i) scope = true
is_plain_ghost known (t.Assert place label e hint) scope = true
is_plain_ghost known _ scope = false

abbrev mutual
  -- whether it is a ghost statement. A block of a real function is none, and neither is a loop.
  pub is_ghost : Known → Stmt → Scope → Bool
  is_ghost known (t.If place e first second after) scope = is_ghost_block known first scope && is_ghost_else known second scope
  is_ghost known (t.Rewrite place a b) scope = true
  is_ghost known (t.WithAssert place bs q) scope = true
  is_ghost known (t.Drop place q) scope = true
  is_ghost known s scope = is_plain_ghost known s scope

  -- whether all are ghost statements
  pub are_ghost : Known → Stmts → Scope → Bool
  are_ghost known t.end scope = true
  are_ghost known (t.more s rest) scope = is_ghost known s scope && are_ghost known rest (behind known s scope)

  pub is_ghost_block : Known → Braced → Scope → Bool
  is_ghost_block known (t.braces list close) scope = are_ghost known list scope

  pub is_ghost_else : Known → Else → Scope → Bool
  is_ghost_else known t.no_else scope = true
  is_ghost_else known (t.else second) scope = is_ghost_block known second scope

-- ---- atomic actions

abbrev mutual
  -- whether there is an atomic action in a statement: itself, in an arm or in a block
  pub has_action : Stmt → Bool
  has_action (t.AtomicRead place name c) = true
  has_action (t.AtomicWrite place c e) = true
  has_action (t.Cas place name c old new) = true
  has_action (t.If place e first second after) = has_action_block first || has_action_else second
  has_action (t.With place name body after) = has_action_block body
  has_action _ = false

  pub have_action : Stmts → Bool
  have_action t.end = false
  have_action (t.more s rest) = has_action s || have_action rest

  pub has_action_block : Braced → Bool
  has_action_block (t.braces list close) = have_action list

  pub has_action_else : Else → Bool
  has_action_else t.no_else = false
  has_action_else (t.else second) = has_action_block second

-- the place of an atomic action
abbrev pub action_place : Stmt → Option Pos
action_place (t.AtomicRead place name c) = Some place
action_place (t.AtomicWrite place c e) = Some place
action_place (t.Cas place name c old new) = Some place
action_place _ = None

-- an action behind another one
abbrev pub second_action : Bool → Option Pos → List Breach
second_action before None = []
second_action before (Some place) = unless (not before) Opening place

-- the atomic actions of a block behind its first one
abbrev pub second_actions : Bool → Stmts → List Breach
second_actions before t.end = []
second_actions before (t.more s rest) = second_action before (action_place s) ++ second_actions (before || is_some (action_place s)) rest

abbrev pub second_actions_in : Braced → List Breach
second_actions_in (t.braces list close) = second_actions false list

-- ---- statements without blocks

-- an expression of real code, and one that is evaluated in ghost code
abbrev pub real : Scope → Want → Expr → List Breach
real scope want e = wanted mode.Real scope want e

abbrev pub ghost : Scope → Want → Expr → List Breach
ghost scope want e = wanted mode.Ghost scope want e

-- an expression of contracts that stands in no proposition
abbrev pub read : Scope → Want → Expr → List Breach
read scope want e = wanted mode.Read scope want e

abbrev pub integer : Want
integer = x.sorted sort.Int

-- a name that real code uses, and one that isn't evaluated
abbrev pub real_name : Scope → Want → Pos → Name → List Breach
real_name scope want place name = named mode.Real want place (look name scope)

abbrev pub read_name : Scope → Want → Pos → Name → List Breach
read_name scope want place name = named mode.Read want place (look name scope)

-- a load or a store of real code
abbrev pub real_cell : Known → Scope → Pos → CellExpr → List Breach
real_cell known scope place c = cell_breaches mode.Real cell.Plain known scope place c

-- a ghost load or a store to a ghost cell
abbrev pub ghost_cell : Known → Scope → Pos → CellExpr → List Breach
ghost_cell known scope place c = cell_breaches mode.Ghost cell.Ghost known scope place c

abbrev pub load_breaches : Known → Spot → Scope → Pos → CellExpr → Bool → List Breach
load_breaches known spot scope place c true = ghost_cell known scope place c
load_breaches known spot scope place c false = real_breaches spot place ++ real_cell known scope place c

abbrev pub store_breaches : Known → Spot → Scope → Pos → CellExpr → Expr → Bool → List Breach
store_breaches known spot scope place c e true = ghost_cell known scope place c ++ ghost scope integer e
store_breaches known spot scope place c e false =
    real_breaches spot place ++ real_cell known scope place c ++ real scope (want_of (content_of known cell.Plain scope c)) e

-- the first value of a field
abbrev pub init_breaches : Scope → Pos → Option Sort → Expr → List Breach
init_breaches scope place None e = at Unknown place ∷ leaves mode.Prop scope e
init_breaches scope place (Some s) e = real scope (x.sorted s) e

abbrev pub inits_breaches : Scope → Pos → List Binder → List Init → List Breach
inits_breaches scope place fields [] = []
inits_breaches scope place fields (i ∷ rest) = init_breaches scope place (sort_in i.name fields) i.value ++ inits_breaches scope place fields rest

-- whether the first values are those of all fields in their order
abbrev pub is_field : Name → Option Binder → Bool
is_field name None = false
is_field name (Some b) = bytes_eq name b.name

abbrev pub same_fields : List Binder → List Init → Bool
same_fields fields [] = not (is_some (slice_get fields 0))
same_fields fields (i ∷ rest) = is_field i.name (slice_get fields 0) && same_fields (drop 1 fields) rest

abbrev pub new_breaches : Scope → Pos → Option (List Binder) → List Init → List Breach
new_breaches scope place None inits = at Unknown place ∷ inits_breaches scope place [] inits
new_breaches scope place (Some fields) inits = unless (same_fields fields inits) IllTyped place ++ inits_breaches scope place fields inits

-- ghost functions call those that stand earlier, and themselves where they have a measure
abbrev pub may_call : Spot → ℕ → Bool
may_call spot place = nat_lt place spot.place || (place == spot.place && spot.measured)

-- a call of a marked function opens invariants
abbrev pub marked_breaches : Spot → Pos → Bool → List Breach
marked_breaches spot place opens = if opens then opening_breaches spot place else []

abbrev pub ghost_call : Spot → Pos → Placed → List Breach
ghost_call spot place f =
    marked_breaches spot place f.fun.opens ++ unless (not spot.is_ghost || may_call spot f.place) Measure place

abbrev pub callee_breaches : Spot → Pos → Placed → List Breach
callee_breaches spot place f = if f.fun.is_ghost then ghost_call spot place f else real_breaches spot place

-- the arguments of a call, one for each parameter that isn't logical
abbrev pub given_breaches : Scope → Pos → List Binder → List Expr → List Breach
given_breaches scope place params args =
    unless (length params == length args) IllTyped place ++ arguments_breaches mode.Ghost scope params args

-- the arguments of a function that isn't declared are looked at for names alone
abbrev pub undeclared_breaches : Scope → Pos → List Expr → List Breach
undeclared_breaches scope place args = at Unknown place ∷ arguments_breaches mode.Ghost scope [] args

-- a call; its result is bound where the function has one
abbrev pub call_breaches : Spot → Scope → Pos → Bool → Option Placed → List Expr → List Breach
call_breaches spot scope place bound None args = undeclared_breaches scope place args
call_breaches spot scope place bound (Some f) args =
    unless (agree bound (is_some f.fun.result)) IllTyped place ++ callee_breaches spot place f ++ given_breaches scope place (written f.fun.params) args

-- a call of a `par` is of a real function without result
abbrev pub forked_breaches : Scope → Pos → Option Placed → List Expr → List Breach
forked_breaches scope place None args = undeclared_breaches scope place args
forked_breaches scope place (Some f) args =
    unless (not f.fun.is_ghost && not (is_some f.fun.result)) IllTyped place ++ given_breaches scope place (written f.fun.params) args

-- a `return` with the sort of the result where it may stand
abbrev pub return_breaches : Scope → Pos → Option Sort → Expr → List Breach
return_breaches scope place None e = at IllTyped place ∷ leaves mode.Prop scope e
return_breaches scope place (Some s) e = real scope (x.sorted s) e

-- a slice between two bounds
abbrev pub range_breaches : Scope → Expr → Expr → Expr → List Breach
range_breaches scope a lo hi = read scope x.array a ++ read scope integer lo ++ read scope integer hi

-- what is shared or gathered
abbrev pub key_breaches : Known → Scope → Pos → Key → List Breach
key_breaches known scope place (t.Cell c) = cell_breaches mode.Read cell.Key known scope place c
key_breaches known scope place (t.Range a lo hi) = range_breaches scope a lo hi

-- a condition is ghost in ghost functions and where both arms have ghost statements alone
abbrev pub condition : Spot → Bool → Mode
condition spot arms = if spot.is_ghost || arms then mode.Ghost else mode.Real

-- what a block that opens an invariant must have: in a real function one atomic action
abbrev pub block_breaches : Spot → Scope → Pos → Name → Braced → List Breach
block_breaches spot scope place name body =
    read_name scope (x.sorted sort.Iname) place name ++ opening_breaches spot place
    ++ unless (spot.is_ghost || has_action_block body) Opening place ++ second_actions_in body

-- the result's sort, for the last statement of a function
abbrev pub at_end : Stmts → Option Sort → Option Sort
at_end t.end last = last
at_end (t.more s rest) last = None

abbrev pub move_to : Inside → Spot → Spot
move_to inside spot = record { place = spot.place; is_ghost = spot.is_ghost; opens = spot.opens; measured = spot.measured; inside = inside }

-- in an arm or a loop
abbrev pub under : Spot → Spot
under spot = move_to (nested spot.inside) spot

-- ---- statements

-- an atom that is rewritten as another of its kind
abbrev pub rewrite_breaches : Known → Scope → Pos → Prop → Prop → List Breach
rewrite_breaches known scope place a b = unless (same_atom scope a b) IllTyped place ++ prop_breaches known scope a ++ prop_breaches known scope b

-- breaches of a statement of ghost code without a block and without a proposition
abbrev pub ghost_breaches : Known → Spot → Scope → Stmt → List Breach
ghost_breaches known spot scope (t.GLet place name e) = ghost scope x.value e
ghost_breaches known spot scope (t.GAlloc place name e) = ghost scope integer e
ghost_breaches known spot scope (t.NewInv place name i) =
    outside_breaches spot place ++ instance_breaches mode.Ghost known scope i
ghost_breaches known spot scope (t.Fold place i) = instance_breaches mode.Read known scope i
ghost_breaches known spot scope (t.Unfold place i) = instance_breaches mode.Read known scope i
ghost_breaches known spot scope (t.Share place key) = key_breaches known scope place key
ghost_breaches known spot scope (t.Gather place key) = key_breaches known scope place key
ghost_breaches known spot scope (t.Split place a lo hi m) =
    range_breaches scope a lo hi ++ read scope integer m
ghost_breaches known spot scope (t.Join place a lo m hi) =
    range_breaches scope a lo m ++ read scope integer hi
ghost_breaches known spot scope (t.Focus place base i) = read_name scope x.array place base ++ read scope integer i
ghost_breaches known spot scope (t.Unfocus place base i) = read_name scope x.array place base ++ read scope integer i
ghost_breaches known spot scope (t.Assert place label e hint) = read scope (x.sorted sort.Bool) e
ghost_breaches known spot scope _ = []

-- the same, where it isn't about cells
abbrev pub other_breaches : Known → Spot → Option Sort → Scope → Stmt → List Breach
other_breaches known spot last scope (t.NewLock place name i) = real_breaches spot place ++ instance_breaches mode.Ghost known scope i
other_breaches known spot last scope (t.Acquire place lock) = real_breaches spot place ++ real_name scope (x.sorted sort.Lock) place lock
other_breaches known spot last scope (t.Release place lock) = real_breaches spot place ++ real_name scope (x.sorted sort.Lock) place lock
other_breaches known spot last scope (t.FreeLock place lock) = real_breaches spot place ++ real_name scope (x.sorted sort.Lock) place lock
other_breaches known spot last scope (t.Read place name) = real_breaches spot place
other_breaches known spot last scope (t.Print place e) = real_breaches spot place ++ real scope integer e
other_breaches known spot last scope (t.Call place name f args) = call_breaches spot scope place (is_some name) (known.funs f) args
other_breaches known spot last scope (t.Par place f args g others) =
    real_breaches spot place ++ forked_breaches scope place (known.funs f) args ++ forked_breaches scope place (known.funs g) others
other_breaches known spot last scope (t.LetMut place name e) = real_breaches spot place ++ real scope x.scalar e
other_breaches known spot last scope (t.Return place e) = real_breaches spot place ++ return_breaches scope place last e
other_breaches known spot last scope s = ghost_breaches known spot scope s

-- breaches of a statement without a block and without a proposition
abbrev pub plain_breaches : Known → Spot → Option Sort → Scope → Stmt → List Breach
plain_breaches known spot last scope (t.Let place name e) = real_breaches spot place ++ real scope x.value e
plain_breaches known spot last scope (t.Load place name c is_ghost) = load_breaches known spot scope place c is_ghost
plain_breaches known spot last scope (t.Store place c e) = store_breaches known spot scope place c e (is_ghost_cell scope c)
plain_breaches known spot last scope (t.Alloc place name e) = real_breaches spot place ++ real scope x.scalar e
plain_breaches known spot last scope (t.AllocArray place name e n) = real_breaches spot place ++ real scope integer e ++ real scope integer n
plain_breaches known spot last scope (t.AllocAtomic place name e) = real_breaches spot place ++ real scope integer e
plain_breaches known spot last scope (t.New place name s inits) = real_breaches spot place ++ new_breaches scope place (known.structs s) inits
plain_breaches known spot last scope (t.Free place base) = real_breaches spot place ++ real_name scope x.block place base
plain_breaches known spot last scope (t.FreeArray place base) = real_breaches spot place ++ real_name scope x.array place base
plain_breaches known spot last scope (t.AtomicRead place name c) = action_breaches spot place ++ real_name scope (x.sorted sort.Atomic) place c
plain_breaches known spot last scope (t.AtomicWrite place c e) =
    action_breaches spot place ++ real_name scope (x.sorted sort.Atomic) place c ++ real scope integer e
plain_breaches known spot last scope (t.Cas place name c old new) =
    action_breaches spot place ++ real_name scope (x.sorted sort.Atomic) place c ++ real scope integer old ++ real scope integer new
plain_breaches known spot last scope s = other_breaches known spot last scope s

abbrev mutual
  -- breaches of a statement; the sort is that of the result, where a `return` may stand
  pub stmt_breaches : Known → Spot → Option Sort → Scope → Stmt → List Breach
  stmt_breaches known spot last scope (t.If place e first second after) =
      wanted (condition spot (is_ghost_block known first scope && is_ghost_else known second scope)) scope (x.sorted sort.Bool) e
      ++ braced_breaches known (under spot) scope first ++ else_breaches known (under spot) scope second ++ after_breaches known scope after
  stmt_breaches known spot last scope (t.While place loads e kept body) =
      real_breaches spot place ++ stmts_breaches known (under spot) None scope loads ++ real (behind_all known loads scope) (x.sorted sort.Bool) e
      ++ prop_breaches known scope kept ++ braced_breaches known (under spot) (behind_all known loads scope) body
  stmt_breaches known spot last scope (t.With place name body after) =
      block_breaches spot scope place name body ++ braced_breaches known (move_to Direct spot) scope body
      ++ after_breaches known (behind_block known body scope) after
  stmt_breaches known spot last scope (t.Rewrite place a b) = rewrite_breaches known scope place a b
  stmt_breaches known spot last scope (t.WithAssert place bs q) =
      binders_breaches known role.Bound nothing bs ++ prop_breaches known (bind_all role.Bound bs scope) q
  stmt_breaches known spot last scope (t.Drop place q) = prop_breaches known scope q
  stmt_breaches known spot last scope s = plain_breaches known spot last scope s

  -- statements in a row; the sort is that of the result, where they are the body of a function that has one
  pub stmts_breaches : Known → Spot → Option Sort → Scope → Stmts → List Breach
  stmts_breaches known spot last scope t.end = []
  stmts_breaches known spot last scope (t.more s rest) =
      stmt_breaches known spot (at_end rest last) scope s ++ stmts_breaches known spot last (behind known s scope) rest

  -- a block in which no `return` stands
  pub braced_breaches : Known → Spot → Scope → Braced → List Breach
  braced_breaches known spot scope (t.braces list close) = stmts_breaches known spot None scope list

  pub else_breaches : Known → Spot → Scope → Else → List Breach
  else_breaches known spot scope t.no_else = []
  else_breaches known spot scope (t.else second) = braced_breaches known spot scope second
