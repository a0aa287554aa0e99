-- Breaches in cells, instances, binders and propositions.
use Rattle.std.specs.Prelude.{ℕ, ◌==◌, ◌&&◌, not, Bool, true, false, Option, Some, None, List, [], ◌∷◌, ◌++◌, length, drop}
use Rattle.std.specs.List.{slice_get}
use Rattle.std.specs.Option.{is_some}
use Rattle.std.specs.Str.{bytes_eq}
use Rattle.pl_base.specs.declared.pos.Pos.{Pos}
use Rattle.pl_syntax.specs.declared.expr.Binder.{Binder}
use Rattle.pl_syntax.specs.declared.expr.Class.{Class}
use Rattle.pl_syntax.specs.declared.expr.Class.TheVariants as class
use Rattle.pl_syntax.specs.declared.expr.PermExpr.{PermExpr}
use Rattle.pl_syntax.specs.declared.expr.Sort.{Sort}
use Rattle.pl_syntax.specs.declared.expr.Sort.TheVariants as sort
use Rattle.pl_syntax.specs.Tree.{Name, Expr, CellExpr, Whole, At, Field, Instance, Prop, Emp, Pure, Star, Exists, Points, Slice, Block, Alive, Held, Inv, App, Body, Plain, Cond}
use Rattle.pl_syntax.specs.declared.rules.Breach.{Breach}
use Rattle.pl_syntax.specs.declared.rules.Rule.TheVariants.{Unknown, Twice, IllTyped}
use Rattle.pl_syntax.specs.declared.rules.Mode.{Mode}
use Rattle.pl_syntax.specs.declared.rules.Mode.TheVariants as mode
use Rattle.pl_syntax.specs.declared.rules.CellUse.{CellUse}
use Rattle.pl_syntax.specs.declared.rules.CellUse.TheVariants as cell
use Rattle.pl_syntax.specs.declared.rules.Role.{Role}
use Rattle.pl_syntax.specs.declared.rules.Role.TheVariants as role
use Rattle.pl_syntax.specs.Breaches.{at, unless}
use Rattle.pl_syntax.specs.Scopes.{Scope, look, bind, read_as}
use Rattle.pl_syntax.specs.Known.{Known, sort_in, Taken, nothing, put}
use Rattle.pl_syntax.specs.ExprRules as x
use Rattle.pl_syntax.specs.ExprRules.{Want, leaves, use_breaches, own_name, wanted, named}

-- ---- cells

-- what a cell holds: nothing that is known where its base was refused before, nothing where its base has no such cell, or a
-- value of that sort
pub data Content : Type 0 where
  unknown : Content
  wrong : Content
  of : (s : Sort) → Content

abbrev pub content : Option Sort → Content
content None = wrong
content (Some s) = of s

-- the sort of the cells to which a `ref` points
abbrev pub element : Sort → Option Sort
element sort.RefI64 = Some sort.Int
element sort.RefBool = Some sort.Bool
element _ = None

-- in propositions the one cell of a block may be atomic or a ghost cell too
abbrev pub asserted : Sort → Option Sort
asserted sort.Atomic = Some sort.Int
asserted sort.Gref = Some sort.Int
asserted s = element s

-- a lock is shared and gathered like a cell
abbrev pub shared : Sort → Option Sort
shared sort.Lock = Some sort.Int
shared s = asserted s

abbrev pub ghost : Sort → Option Sort
ghost sort.Gref = Some sort.Int
ghost _ = None

-- the sort of what the one cell of a block holds
abbrev pub whole_content : CellUse → Sort → Option Sort
whole_content cell.Plain s = element s
whole_content cell.Ghost s = ghost s
whole_content cell.Asserted s = asserted s
whole_content cell.Key s = shared s

-- the same of an array's element, and of a structure's field; a ghost cell is neither
abbrev pub real_content : CellUse → Option Sort → Option Sort
real_content cell.Ghost s = None
real_content _ s = s

-- the sort of a field of the structure to which a pointer points
abbrev pub field_of : Name → Option (List Binder) → Option Sort
field_of f None = None
field_of f (Some fields) = sort_in f fields

abbrev pub field_content : Known → Name → Sort → Option Sort
field_content known f (sort.RefStruct s) = field_of f (known.structs s)
field_content known f _ = None

-- what the cell holds whose base has that sort
abbrev pub content_at : Known → CellUse → CellExpr → Sort → Option Sort
content_at known purpose (Whole base) s = whole_content purpose s
content_at known purpose (At base i) s = real_content purpose (element s)
content_at known purpose (Field base f) s = real_content purpose (field_content known f s)

abbrev pub content_by : Known → CellUse → CellExpr → x.Own → Content
content_by known purpose c (x.of s) = content (content_at known purpose c s)
content_by known purpose c _ = unknown

abbrev pub base_of : CellExpr → Name
base_of (Whole base) = base
base_of (At base i) = base
base_of (Field base f) = base

abbrev pub content_of : Known → CellUse → Scope → CellExpr → Content
content_of known purpose scope c = content_by known purpose c (own_name (look (base_of c) scope))

abbrev pub is_right : Content → Bool
is_right wrong = false
is_right _ = true

-- what is wanted of a value for that cell
abbrev pub want_of : Content → Want
want_of (of s) = x.sorted s
want_of _ = x.any

-- what is wrong with an index, and a field that no structure has
abbrev pub inner_breaches : Mode → Known → Scope → Pos → CellExpr → List Breach
inner_breaches m known scope place (Whole base) = []
inner_breaches m known scope place (At base i) = wanted m scope (x.sorted sort.Int) i
inner_breaches m known scope place (Field base f) = unless (known.has_field f) Unknown place

-- a cell, at the place of the node round it
abbrev pub cell_breaches : Mode → CellUse → Known → Scope → Pos → CellExpr → List Breach
cell_breaches m purpose known scope place c =
    use_breaches m place (look (base_of c) scope) ++ unless (is_right (content_of known purpose scope c)) IllTyped place ++ inner_breaches m known scope place c

-- whether a name is a ghost reference
abbrev pub is_gref : x.Own → Bool
is_gref (x.of sort.Gref) = true
is_gref _ = false

-- whether a cell is a ghost cell
abbrev pub is_ghost_cell : Scope → CellExpr → Bool
is_ghost_cell scope (Whole base) = is_gref (own_name (look base scope))
is_ghost_cell scope _ = false

-- ---- permissions and instances

-- a variable in a permission
abbrev pub perm_name : Scope → Pos → Option Name → List Breach
perm_name scope place None = []
perm_name scope place (Some q) = named mode.Prop (x.sorted sort.Perm) place (look q scope)

abbrev pub perm_breaches : Scope → PermExpr → List Breach
perm_breaches scope q = perm_name scope q.pos q.var

-- how an argument is read: one for a real parameter as real code, one for a ghost parameter as ghost code, and one for
-- the parameter of a predicate as its instance stands
abbrev pub argument_mode : Mode → Class → Mode
argument_mode m class.Real = mode.Real
argument_mode m class.Ghost = mode.Ghost
argument_mode m class.Logical = m

-- an argument; past the parameters it is looked at for names alone
abbrev pub argument_breaches : Mode → Scope → Option Binder → Expr → List Breach
argument_breaches m scope None e = leaves mode.Prop scope e
argument_breaches m scope (Some b) e = wanted (argument_mode m b.class) scope (x.sorted (read_as b.sort)) e

abbrev pub arguments_breaches : Mode → Scope → List Binder → List Expr → List Breach
arguments_breaches m scope params [] = []
arguments_breaches m scope params (e ∷ es) =
    argument_breaches m scope (slice_get params 0) e ++ arguments_breaches m scope (drop 1 params) es

abbrev pub instance_by : Mode → Scope → Option (List Binder) → Instance → List Breach
instance_by m scope None i = at Unknown i.pos ∷ arguments_breaches m scope [] i.args
instance_by m scope (Some params) i = unless (length params == length i.args) IllTyped i.pos ++ arguments_breaches m scope params i.args

-- a predicate with its arguments
abbrev pub instance_breaches : Mode → Known → Scope → Instance → List Breach
instance_breaches m known scope i = instance_by m scope (known.preds i.pred) i

-- ---- binders

-- the class of a binder in a list: that of a parameter of a function is written; fields and results are real, and the
-- parameters of predicates and the names of `exists` and `with` are logical
abbrev pub class_in : Role → Class → Class
class_in role.Parameter c = c
class_in role.Field c = class.Real
class_in role.Bound c = class.Logical

-- the sorts of real code
abbrev pub is_real : Sort → Bool
is_real sort.Int = false
is_real sort.Perm = false
is_real sort.Gref = false
is_real sort.Iname = false
is_real _ = true

abbrev pub is_perm : Sort → Bool
is_perm sort.Perm = true
is_perm _ = false

-- whether a name of that class may have that sort
abbrev pub may_have : Class → Sort → Bool
may_have class.Real s = is_real s
may_have class.Ghost s = not (is_perm s)
may_have class.Logical s = true

-- a structure that a sort names is declared
abbrev pub is_declared : Known → Sort → Bool
is_declared known (sort.RefStruct s) = is_some (known.structs s)
is_declared known _ = true

abbrev pub binder_breaches : Known → Role → Binder → List Breach
binder_breaches known r b = unless (is_declared known b.sort) Unknown b.pos ++ unless (may_have (class_in r b.class) b.sort) IllTyped b.pos

-- binders in one list
abbrev pub binders_breaches : Known → Role → Taken → List Binder → List Breach
binders_breaches known r taken [] = []
binders_breaches known r taken (b ∷ bs) =
    binder_breaches known r b ++ unless (not (taken b.name)) Twice b.pos ++ binders_breaches known r (put b.name taken) bs

abbrev pub bind_all : Role → List Binder → Scope → Scope
bind_all r [] scope = scope
bind_all r (b ∷ bs) scope = bind_all r bs (bind b.name (class_in r b.class) (Some (read_as b.sort)) scope)

-- ---- propositions

abbrev pub points_breaches : Known → Scope → Pos → CellExpr → PermExpr → Expr → List Breach
points_breaches known scope place c q e =
    cell_breaches mode.Prop cell.Asserted known scope place c ++ perm_breaches scope q ++ wanted mode.Prop scope (want_of (content_of known cell.Asserted scope c)) e

abbrev pub slice_breaches : Scope → Expr → Expr → Expr → PermExpr → List Breach
slice_breaches scope a lo hi q =
    wanted mode.Prop scope x.array a ++ wanted mode.Prop scope (x.sorted sort.Int) lo ++ wanted mode.Prop scope (x.sorted sort.Int) hi ++ perm_breaches scope q

abbrev pub prop_breaches : Known → Scope → Prop → List Breach
prop_breaches known scope (Emp place) = []
prop_breaches known scope (Pure place label e) = wanted mode.Prop scope (x.sorted sort.Bool) e
prop_breaches known scope (Star p q) = prop_breaches known scope p ++ prop_breaches known scope q
prop_breaches known scope (Exists place bs p) =
    binders_breaches known role.Bound nothing bs ++ prop_breaches known (bind_all role.Bound bs scope) p
prop_breaches known scope (Points place c q e) = points_breaches known scope place c q e
prop_breaches known scope (Slice place a lo hi q) = slice_breaches scope a lo hi q
prop_breaches known scope (Block place a n) = wanted mode.Prop scope x.block a ++ wanted mode.Prop scope (x.sorted sort.Int) n
prop_breaches known scope (Alive place l q i) =
    wanted mode.Prop scope (x.sorted sort.Lock) l ++ perm_breaches scope q ++ instance_breaches mode.Prop known scope i
prop_breaches known scope (Held place l) = wanted mode.Prop scope (x.sorted sort.Lock) l
prop_breaches known scope (Inv place name i) = wanted mode.Prop scope (x.sorted sort.Iname) name ++ instance_breaches mode.Prop known scope i
prop_breaches known scope (App i) = instance_breaches mode.Prop known scope i

abbrev pub exists_breaches : Known → Scope → List Binder → Prop → List Breach
exists_breaches known scope bs p = binders_breaches known role.Bound nothing bs ++ prop_breaches known (bind_all role.Bound bs scope) p

-- a proposition, if there is one
abbrev pub after_breaches : Known → Scope → Option Prop → List Breach
after_breaches known scope None = []
after_breaches known scope (Some p) = prop_breaches known scope p

-- the body of a predicate
abbrev pub body_breaches : Known → Scope → Body → List Breach
body_breaches known scope (Plain p) = prop_breaches known scope p
body_breaches known scope (Cond e p q) =
    wanted mode.Read scope (x.sorted sort.Bool) e ++ prop_breaches known scope p ++ prop_breaches known scope q

-- ---- one atom that is rewritten as another

-- two options of names, both missing or the same
abbrev pub same_var : Option Name → Option Name → Bool
same_var None None = true
same_var (Some a) (Some b) = bytes_eq a b
same_var _ _ = false

-- both or neither
abbrev pub agree : Bool → Bool → Bool
agree true b = b
agree false b = not b

abbrev pub same_part : ℕ × ℕ → ℕ × ℕ → Bool
same_part a b = (a.0 == b.0) && (a.1 == b.1)

abbrev pub same_perm : PermExpr → PermExpr → Bool
same_perm q r = same_part q.part r.part && same_var q.var r.var

-- the same form of cell and the same field; ghost cells and real ones are of two kinds
abbrev pub same_cell : Scope → CellExpr → CellExpr → Bool
same_cell scope (Whole a) (Whole b) = agree (is_ghost_cell scope (Whole a)) (is_ghost_cell scope (Whole b))
same_cell scope (At a i) (At b j) = true
same_cell scope (Field a f) (Field b g) = bytes_eq f g
same_cell scope _ _ = false

-- two atoms of one kind with the same written permission and the same names of predicates
abbrev pub same_atom : Scope → Prop → Prop → Bool
same_atom scope (Points p c q e) (Points p' d r e') = same_cell scope c d && same_perm q r
same_atom scope (Slice p a lo hi q) (Slice p' a' lo' hi' r) = same_perm q r
same_atom scope (Block p a n) (Block p' a' n') = true
same_atom scope (Alive p l q i) (Alive p' l' r j) = same_perm q r && bytes_eq i.pred j.pred
same_atom scope (Held p l) (Held p' l') = true
same_atom scope (Inv p name i) (Inv p' name' j) = bytes_eq i.pred j.pred
same_atom scope (App i) (App j) = bytes_eq i.pred j.pred
same_atom scope _ _ = false
