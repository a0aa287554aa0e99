-- The text of propositions.
use Rattle.std.specs.Prelude.{ℕ, Bool, true, false, List, [], ◌∷◌, ◌++◌, codes, Option}
use Rattle.pl_syntax.specs.declared.expr.PermExpr.{PermExpr}
use Rattle.pl_print.specs.Lists.{joined, in_brackets}
use Rattle.pl_print.specs.ExprText.{value_text, sum_text, cell_text, instance_text, label_text, perm_text, arrow_text, last_perm_text, binders_text}
use Rattle.pl_syntax.specs.Tree as t
use Rattle.pl_syntax.specs.Tree.{Name, Expr, CellExpr, Instance, Prop, Body}

-- a label in brackets with its expression
abbrev pub pure_text : Option Name → Expr → List ℕ
pure_text label e = joined (codes "pure(" ∷ label_text label ∷ value_text e ∷ []) (codes ")")

-- a points-to
abbrev pub points_text : CellExpr → PermExpr → Expr → List ℕ
points_text cell perm e = joined (cell_text cell ∷ arrow_text perm ∷ []) (sum_text e)

-- a slice of an array
abbrev pub slice_text : Expr → Expr → Expr → PermExpr → List ℕ
slice_text a lo hi perm =
    joined (codes "slice(" ∷ value_text a ∷ codes ", " ∷ value_text lo ∷ codes ", " ∷ value_text hi ∷ last_perm_text perm ∷ []) (codes ")")

-- the right to free an array
abbrev pub array_text : Expr → Expr → List ℕ
array_text a n = joined (codes "block(" ∷ value_text a ∷ codes ", " ∷ value_text n ∷ []) (codes ")")

-- a part of a lock
abbrev pub alive_text : Expr → PermExpr → Instance → List ℕ
alive_text l perm i =
    joined (codes "lock_alive(" ∷ value_text l ∷ codes ", " ∷ perm_text perm ∷ codes ", " ∷ instance_text i ∷ []) (codes ")")

-- a lock that is held
abbrev pub held_text : Expr → List ℕ
held_text l = joined (codes "lock_held(" ∷ value_text l ∷ []) (codes ")")

-- an invariant
abbrev pub inv_text : Expr → Instance → List ℕ
inv_text name i = joined (codes "inv(" ∷ value_text name ∷ codes ", " ∷ instance_text i ∷ []) (codes ")")

-- a proposition; at the left of a `**` a star and an `exists` have brackets
abbrev pub prop_text : Bool → Prop → List ℕ
prop_text is_left (t.Emp at) = codes "emp"
prop_text is_left (t.Pure at label e) = pure_text label e
prop_text is_left (t.Star p q) = in_brackets is_left (prop_text true p ++ codes " ** " ++ prop_text false q)
prop_text is_left (t.Exists at binders p) =
    in_brackets is_left (codes "exists " ++ binders_text binders ++ codes " . " ++ prop_text false p)
prop_text is_left (t.Points at cell perm e) = points_text cell perm e
prop_text is_left (t.Slice at a lo hi perm) = slice_text a lo hi perm
prop_text is_left (t.Block at a n) = array_text a n
prop_text is_left (t.Alive at l perm i) = alive_text l perm i
prop_text is_left (t.Held at l) = held_text l
prop_text is_left (t.Inv at name i) = inv_text name i
prop_text is_left (t.App i) = instance_text i

-- a proposition that stands alone
abbrev pub whole_prop_text : Prop → List ℕ
whole_prop_text p = prop_text false p

-- a proposition by cases
abbrev pub arms_text : Expr → Prop → Prop → List ℕ
arms_text e p q =
    joined (codes "if (" ∷ value_text e ∷ codes ") { " ∷ whole_prop_text p ∷ codes " } else { " ∷ whole_prop_text q ∷ []) (codes " }")

-- the body of a predicate
abbrev pub body_text : Body → List ℕ
body_text (t.Plain p) = whole_prop_text p
body_text (t.Cond e p q) = arms_text e p q
