-- The text of declarations and programs.
use Rattle.std.specs.Prelude.{ℕ, ◌||◌, not, Bool, true, false, if◌then◌else◌, List, [], ◌∷◌, ◌++◌, map, flat_map, codes, Option, Some, None, is_some}
use Rattle.pl_syntax.specs.declared.expr.Class.{Class}
use Rattle.pl_syntax.specs.declared.expr.Class.TheVariants as class
use Rattle.pl_syntax.specs.declared.expr.Binder.{Binder}
use Rattle.pl_syntax.specs.declared.program.StructDecl.{StructDecl}
use Rattle.pl_print.specs.Lists.{joined, commas, where_wanted}
use Rattle.pl_print.specs.ExprText.{value_text, binder_text, binders_text}
use Rattle.pl_print.specs.PropText.{whole_prop_text, body_text}
use Rattle.pl_print.specs.StmtText.{block_text}
use Rattle.pl_syntax.specs.Tree as t
use Rattle.pl_syntax.specs.Tree.{Expr, Prop, PredDecl, FunDecl, Decl, Program}

-- a structure, on one line
abbrev pub struct_text : StructDecl → List ℕ
struct_text s = joined (codes "struct " ∷ s.name ∷ codes " { " ∷ binders_text s.fields ∷ []) (codes " }\n")

-- a predicate, on one line
abbrev pub pred_text : PredDecl → List ℕ
pred_text p = joined (codes "pred " ∷ p.name ∷ codes "(" ∷ binders_text p.params ∷ codes ") = " ∷ body_text p.body ∷ []) (codes ";\n")

-- what marks a parameter: one without a mark is real in a real function, and ghost in a ghost function
abbrev pub mark_text : Bool → Class → List ℕ
mark_text is_ghost class.Real = []
mark_text is_ghost class.Ghost = where_wanted (not is_ghost) (codes "ghost ")
mark_text is_ghost class.Logical = codes "#"

-- a parameter of a function
abbrev pub param_text : Bool → Binder → List ℕ
param_text is_ghost b = mark_text is_ghost b.class ++ binder_text b

-- the first line of a function
abbrev pub head_text : FunDecl → List ℕ
head_text f =
    joined (where_wanted f.is_ghost (codes "ghost ") ∷ codes "fn " ∷ f.name ∷ codes "(" ∷ commas (map (param_text f.is_ghost) f.params) ∷ codes ")" ∷ [])
    (where_wanted f.opens (codes " opens"))

-- whether a proposition is `emp` as a whole, which no clause of a function shows
abbrev pub is_emp : Prop → Bool
is_emp (t.Emp at) = true
is_emp _ = false

-- a clause with a proposition, on a line of its own
abbrev pub prop_clause : List ℕ → Prop → List ℕ
prop_clause word p = where_wanted (not (is_emp p)) (joined (codes "\n  " ∷ word ∷ []) (whole_prop_text p))

-- a clause with the result
abbrev pub result_clause : Option Binder → List ℕ
result_clause None = []
result_clause (Some b) = codes "\n  returns " ++ binder_text b

-- a clause with the measure
abbrev pub measure_clause : Option Expr → List ℕ
measure_clause None = []
measure_clause (Some e) = codes "\n  decreases " ++ value_text e

-- the clauses of a function
abbrev pub clauses_text : FunDecl → List ℕ
clauses_text f =
    joined (prop_clause (codes "requires ") f.before ∷ result_clause f.result ∷ prop_clause (codes "ensures ") f.after ∷ []) (measure_clause f.measure)

-- whether a function shows clauses
abbrev pub has_clauses : FunDecl → Bool
has_clauses f = not (is_emp f.before) || is_some f.result || not (is_emp f.after) || is_some f.measure

-- what stands before the opening brace: behind clauses it has a line of its own
abbrev pub gap_text : Bool → List ℕ
gap_text true = codes "\n"
gap_text false = codes " "

-- a function
abbrev pub fun_text : FunDecl → List ℕ
fun_text f = joined (head_text f ∷ clauses_text f ∷ gap_text (has_clauses f) ∷ block_text 0 f.body ∷ []) (codes "\n")

abbrev pub decl_text : Decl → List ℕ
decl_text (t.Struct s) = struct_text s
decl_text (t.Pred p) = pred_text p
decl_text (t.Fun f) = fun_text f

-- the declarations, without empty lines between them
unfoldable pub program_text : Program → List ℕ
program_text p = flat_map decl_text p.decls
