-- The linear form of an expression, and the duty that a condition is.
use Rattle.std.specs.Prelude.{◌≡◌, ℕ, pos, negsuc, ◌+◌, nat_eq, Bool, true, false, not, ◌&&◌, if◌then◌else◌, List, [], ◌∷◌, ◌++◌, map, length, Option, Some, None, Result, Ok, Err}
use Rattle.std.specs.Ordering.{int_eq}
use Rattle.pl_syntax.specs.declared.expr.BinOp.{BinOp}
use Rattle.pl_syntax.specs.declared.expr.BinOp.TheVariants.{Add, Sub, Mul, Div, Rem, Lt, Le, Gt, Ge, Eq, Ne, And, Or, Implies}
use Rattle.pl_syntax.specs.Tree.{Expr, Int, Truth, Null, Var, Neg, Not, Bin}
use Rattle.pl_forms.specs.declared.form.Part.{Part}
use Rattle.pl_forms.specs.declared.form.Form.{Form}
use Rattle.pl_forms.specs.declared.form.TermError.{TermError}
use Rattle.pl_forms.specs.declared.form.TermError.TheVariants.{TooLarge, Memory}
use Rattle.pl_forms.specs.declared.fact.Shape.{Shape}
use Rattle.pl_forms.specs.declared.fact.Shape.TheVariants.{Zero, Below, Differs}
use Rattle.pl_forms.specs.declared.fact.Fact.{Fact}
use Rattle.pl_forms.specs.declared.fact.Facts.{Facts}
use Rattle.pl_forms.specs.Forms.{atom_form, limited, sum, scaled}
pub use Rattle.pl_forms.specs.Steps.{plus, difference}
use Rattle.pl_forms.specs.declared.goal.Goal as own
use Rattle.pl_forms.specs.Goals as goal
use Rattle.pl_forms.specs.Goals.{Goal, Plain, Both, Either, When, goal_of}
use Rattle.pl_forms.specs.Assuming.{one_form, one_less, assumed}
use Rattle.pl_normal.specs.declared.scope.Operands.{Operands}
use Rattle.pl_normal.specs.declared.scope.Binding.{Binding}
use Rattle.pl_normal.specs.declared.scope.Atom as atom
use Rattle.pl_normal.specs.declared.scope.Scope as scope
use Rattle.pl_normal.specs.Scope.{Atom, Opaque, form_of, plain_atom}

-- the atoms that were made so far, and what is known
pub record Made : Type 0 where
  pub atoms : List Atom
  pub facts : List Fact

-- a form, or a duty, and what was made with it
pub record WithForm : Type 0 where
  pub form : Form
  pub made : Made

pub record WithGoal : Type 0 where
  pub goal : Goal
  pub made : Made

abbrev pub put : Made → Result Form TermError → Result WithForm TermError
put m (Err e) = Err e
put m (Ok f) = Ok (record { form = f; made = m })

abbrev pub then_form : Result WithForm TermError → (Form → Made → Result WithForm TermError) → Result WithForm TermError
then_form (Err e) next = Err e
then_form (Ok r) next = next r.form r.made

abbrev pub form_goal : Result WithForm TermError → (Form → Made → Result WithGoal TermError) → Result WithGoal TermError
form_goal (Err e) next = Err e
form_goal (Ok r) next = next r.form r.made

abbrev pub then_goal : Result WithGoal TermError → (Goal → Made → Result WithGoal TermError) → Result WithGoal TermError
then_goal (Err e) next = Err e
then_goal (Ok r) next = next r.goal r.made

-- ---- forms

abbrev pub zero_form : Form
zero_form = record { parts = []; constant = pos 0 }

abbrev pub truth_form : Bool → Form
truth_form true = one_form
truth_form false = zero_form

-- no expression that keeps the rules on names has a name without a form
abbrev pub or_zero : Option Form → Form
or_zero (Some f) = f
or_zero None = zero_form

-- ---- opaque atoms

abbrev pub same_parts : List Part → List Part → Bool
same_parts [] [] = true
same_parts [] (b ∷ bs) = false
same_parts (a ∷ as_) [] = false
same_parts (a ∷ as_) (b ∷ bs) = if int_eq a.coeff b.coeff && nat_eq a.atom b.atom then same_parts as_ bs else false

abbrev pub same_form : Form → Form → Bool
same_form f g = if int_eq f.constant g.constant then same_parts f.parts g.parts else false

-- the same one of products, quotients and remainders
abbrev pub same_op : BinOp → BinOp → Bool
same_op Mul Mul = true
same_op Div Div = true
same_op Rem Rem = true
same_op _ _ = false

abbrev pub same_operands : BinOp → Form → Form → Option Operands → Bool
same_operands op f g None = false
same_operands op f g (Some o) = if same_op op o.op then (if same_form f o.left then same_form g o.right else false) else false

-- the number of the first atom with these operands, from number i on
abbrev pub find : BinOp → Form → Form → ℕ → List Atom → Option ℕ
find op f g i [] = None
find op f g i (a ∷ atoms) = if same_operands op f g a.operands then Some i else find op f g (i + 1) atoms

abbrev pub found : Option ℕ → Expr → BinOp → Form → Form → Made → WithForm
found (Some k) e op f g m = record { form = atom_form k; made = m }
found None e op f g m = record {
  form = atom_form (length m.atoms);
  made = record m { atoms = m.atoms ++ record { origin = Opaque e; operands = Some (record { op = op; left = f; right = g }) } ∷ [] };
}

-- the atom of an operation on two forms; it is numbered when it first appears
abbrev pub opaque : Expr → BinOp → Form → Form → Made → WithForm
opaque e op f g m = found (find op f g 0 m.atoms) e op f g m

abbrev pub is_constant : Form → Bool
is_constant f = nat_eq (length f.parts) 0

-- a product is opaque unless one of its factors is a constant
abbrev pub product : Expr → Form → Form → Made → Result WithForm TermError
product e f g m =
    if is_constant f then put m (scaled f.constant g)
    else (if is_constant g then put m (scaled g.constant f) else Ok (opaque e Mul f g m))

-- ---- new booleans

abbrev pub with_facts : Form → List Atom → Result (List Fact) TermError → Result WithForm TermError
with_facts b atoms (Err e) = Err e
with_facts b atoms (Ok facts) = Ok (record { form = b; made = record { atoms = atoms; facts = facts } })

abbrev pub then_known : Result (List Fact) TermError → (List Fact → Result (List Fact) TermError) → Result (List Fact) TermError
then_known (Err e) next = Err e
then_known (Ok facts) next = next facts

-- what is known of a new boolean b: where it is 1 the condition is so, and where 1 - b is 1 its negation is
abbrev pub facts_of : Form → Result Form TermError → Goal → List Fact → Result (List Fact) TermError
facts_of b (Err e) c facts = Err e
facts_of b (Ok other) c facts = then_known (assumed facts None (Some b) c true) (λ more. assumed more None (Some other) c false)

abbrev pub boolean : Expr → Result WithGoal TermError → Result WithForm TermError
boolean e (Err error) = Err error
boolean e (Ok r) =
    with_facts (atom_form (length r.made.atoms)) (r.made.atoms ++ record { origin = Opaque e; operands = None } ∷ [])
    (facts_of (atom_form (length r.made.atoms)) (one_less (atom_form (length r.made.atoms))) r.goal r.made.facts)

-- a name, a literal, or a `not` of such: its `not` has a form of its own
abbrev pub is_plain : Expr → Bool
is_plain (Truth place b) = true
is_plain (Var place x) = true
is_plain (Not place e) = is_plain e
is_plain _ = false

-- ---- conditions

abbrev pub plain_goal : Made → Shape → Result Form TermError → Result WithGoal TermError
plain_goal m s (Err e) = Err e
plain_goal m s (Ok f) = Ok (record { goal = Plain s f; made = m })

abbrev pub truth_goal : Result WithForm TermError → Bool → Result WithGoal TermError
truth_goal (Err e) h = Err e
truth_goal (Ok r) h = Ok (record { goal = goal.Truth r.form h; made = r.made })

-- `f < g`, `f <= g`, `f == g` and `f != g`
abbrev pub less : Form → Form → Made → Result WithGoal TermError
less f g m = plain_goal m Below (difference f g (pos 1))

abbrev pub at_most : Form → Form → Made → Result WithGoal TermError
at_most f g m = plain_goal m Below (difference f g (pos 0))

abbrev pub equal : Bool → Form → Form → Made → Result WithGoal TermError
equal true f g m = plain_goal m Zero (difference f g (pos 0))
equal false f g m = plain_goal m Differs (difference f g (pos 0))

-- a comparison of two forms, or its negation, which is the opposite comparison; none of the other operations is one
abbrev pub compared : BinOp → Bool → Form → Form → Made → Result WithGoal TermError
compared Lt true f g m = less f g m
compared Lt false f g m = at_most g f m
compared Le true f g m = at_most f g m
compared Le false f g m = less g f m
compared Gt true f g m = less g f m
compared Gt false f g m = at_most f g m
compared Ge true f g m = at_most g f m
compared Ge false f g m = less f g m
compared Eq h f g m = equal h f g m
compared Ne h f g m = equal (not h) f g m
compared _ h f g m = Ok (record { goal = goal.Truth zero_form h; made = m })

abbrev pub both : Result WithGoal TermError → (Made → Result WithGoal TermError) → Result WithGoal TermError
both first second = then_goal first (λ a m. then_goal (second m) (λ b n. Ok (record { goal = Both a b; made = n })))

abbrev pub either : Result WithGoal TermError → (Made → Result WithGoal TermError) → Result WithGoal TermError
either first second = then_goal first (λ a m. then_goal (second m) (λ b n. Ok (record { goal = Either a b; made = n })))

-- under a guard; its negation is that the guard is so and the duty isn't, of which nothing is ever assumed
abbrev pub guarded : Bool → Form → Goal → Goal
guarded true g e = When g e
guarded false g e = Either (goal.Truth zero_form true) (Both (goal.Truth g true) e)

abbrev pub implied : Bool → Result WithForm TermError → (Made → Result WithGoal TermError) → Result WithGoal TermError
implied h guard duty = form_goal guard (λ g m. then_goal (duty m) (λ e n. Ok (record { goal = guarded h g e; made = n })))

-- an operation as a condition, or its negation, of its operands' forms and of their own conditions
abbrev pub connected : BinOp → Bool → (Made → Result WithForm TermError) → (Made → Result WithForm TermError) → (Bool → Made → Result WithGoal TermError) → (Bool → Made → Result WithGoal TermError) → Made → Result WithGoal TermError
connected And true form_a form_b a b m = both (a true m) (b true)
connected And false form_a form_b a b m = either (a false m) (b false)
connected Or true form_a form_b a b m = either (a true m) (b true)
connected Or false form_a form_b a b m = both (a false m) (b false)
connected Implies h form_a form_b a b m = implied h (form_a m) (b h)
connected op h form_a form_b a b m = form_goal (form_a m) (λ f n. form_goal (form_b n) (λ g k. compared op h f g k))

-- an operation as a value: of numbers it has a form of its own, and every other one is a new boolean
abbrev pub operated : Expr → BinOp → (Made → Result WithForm TermError) → (Made → Result WithForm TermError) → (Bool → Made → Result WithGoal TermError) → (Bool → Made → Result WithGoal TermError) → Made → Result WithForm TermError
operated e Add form_a form_b a b m = then_form (form_a m) (λ f n. then_form (form_b n) (λ g k. put k (sum f g)))
operated e Sub form_a form_b a b m = then_form (form_a m) (λ f n. then_form (form_b n) (λ g k. put k (plus f (negsuc 0) g)))
operated e Mul form_a form_b a b m = then_form (form_a m) (λ f n. then_form (form_b n) (λ g k. product e f g k))
operated e Div form_a form_b a b m = then_form (form_a m) (λ f n. then_form (form_b n) (λ g k. Ok (opaque e Div f g k)))
operated e Rem form_a form_b a b m = then_form (form_a m) (λ f n. then_form (form_b n) (λ g k. Ok (opaque e Rem f g k)))
operated e op form_a form_b a b m = boolean e (connected op true form_a form_b a b m)

abbrev mutual
  -- the form of an expression, where names stand for these forms
  pub normal : List Binding → Expr → Made → Result WithForm TermError
  normal names (Int place n) m = put m (limited [] n)
  normal names (Truth place b) m = put m (Ok (truth_form b))
  normal names (Null place) m = put m (Ok zero_form)
  normal names (Var place x) m = put m (Ok (or_zero (form_of names x)))
  normal names (Neg place e) m = then_form (normal names e m) (λ f n. put n (scaled (negsuc 0) f))
  normal names (Not place e) m =
      if is_plain e then then_form (normal names e m) (λ f n. put n (one_less f)) else boolean (Not place e) (condition names e false m)
  normal names (Bin place op a b) m =
      operated (Bin place op a b) op (λ n. normal names a n) (λ n. normal names b n) (λ h n. condition names a h n) (λ h n. condition names b h n) m

  -- the duty that an expression is, or its negation is where `h` is false
  pub condition : List Binding → Expr → Bool → Made → Result WithGoal TermError
  condition names (Int place n) h m = truth_goal (put m (limited [] n)) h
  condition names (Truth place b) h m = truth_goal (put m (Ok (truth_form b))) h
  condition names (Null place) h m = truth_goal (put m (Ok zero_form)) h
  condition names (Var place x) h m = truth_goal (put m (Ok (or_zero (form_of names x)))) h
  condition names (Neg place e) h m = truth_goal (then_form (normal names e m) (λ f n. put n (scaled (negsuc 0) f))) h
  condition names (Not place e) h m = condition names e (not h) m
  condition names (Bin place op a b) h m =
      connected op h (λ n. normal names a n) (λ n. normal names b n) (λ g n. condition names a g n) (λ g n. condition names b g n) m

-- exactly this form and what was made with it, or want of memory
abbrev pub Forms : Result Form TermError → Made → Result WithForm TermError → Type 0
Forms (Ok f) now wanted = wanted ≡ Ok (record { form = f; made = now })
Forms (Err (TooLarge n)) now wanted = wanted ≡ Err (TooLarge n)
Forms (Err Memory) now wanted = Unit {0}

-- exactly this duty and what was made with it, or want of memory
abbrev pub Conditions : Result own.Goal TermError → Made → Result WithGoal TermError → Type 0
Conditions (Ok g) now wanted = wanted ≡ Ok (record { goal = goal_of g; made = now })
Conditions (Err (TooLarge n)) now wanted = wanted ≡ Err (TooLarge n)
Conditions (Err Memory) now wanted = Unit {0}

-- what was made, of the program's own scope and facts
abbrev pub made_of : List atom.Atom → List Fact → Made
made_of atoms facts = record { atoms = map plain_atom atoms; facts = facts }

abbrev pub made_by : scope.Scope → Facts → Made
made_by s facts = made_of s.atoms.items facts.list
