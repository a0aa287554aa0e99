-- What the forms and duties of expressions promise.
use Rattle.std.specs.Prelude.{◌≡◌, ℕ, ◌+◌, ℤ, Bool, List, length, Some}
use Rattle.std.specs.List.{All}
use Rattle.pl_syntax.specs.Tree.{Expr}
use Rattle.pl_syntax.specs.Values.{Value, Vars}
use Rattle.pl_syntax.specs.Values as v
use Rattle.pl_forms.specs.declared.form.Form.{Form}
use Rattle.pl_forms.specs.declared.fact.Facts.{Facts}
use Rattle.pl_forms.specs.Places.{Within}
use Rattle.pl_normal.specs.declared.scope.Binding.{Binding}
use Rattle.pl_normal.specs.declared.scope.Scope as scope
use Rattle.pl_normal.specs.Scope.{scope_of}
use Rattle.pl_normal.specs.Evaluation.{value_of}
use Rattle.pl_normal.specs.Normal.{Made, WithForm, WithGoal, made_by}
use Rattle.pl_normal.specs.Meaning.{InOrder, FormInOrder, Agrees, HasNumber, HasTruth, agreeing}

-- numbers that agree before can be had for the new atoms too, so that the form has the number of the expression's value
abbrev pub KeepsValue : List Binding → Expr → Made → WithForm → Type 0
KeepsValue names e before r = (u : ℕ → ℤ) (vars : Vars) (w : Value) → Agrees u vars names before → value_of vars e ≡ Some w → HasNumber u vars names before r w

-- .. so that the duty, or its negation, is so exactly where the expression, or its negation, is true
abbrev pub KeepsTruth : List Binding → Expr → Bool → Made → WithGoal → Type 0
KeepsTruth names e h before r = (u : ℕ → ℤ) (vars : Vars) (b : Bool) → Agrees u vars names before → value_of vars e ≡ Some (v.Truth b) → HasTruth u vars names before r (agreeing h b)

-- where the solved forms and the form are of atoms that were made, atoms were only added and all is in order, whatever is known
abbrev pub KeepsOrder : List Form → Form → scope.Scope → Form → scope.Scope → Type 0
KeepsOrder solved form before result after =
    (facts : Facts) → InOrder (scope_of before).bound (made_by before facts) → All (Within (length (scope_of before).atoms + 1)) solved → Within (length (scope_of before).atoms + 1) form →
    FormInOrder (scope_of before).bound (made_by before facts) (record { form = result; made = made_by after facts })
