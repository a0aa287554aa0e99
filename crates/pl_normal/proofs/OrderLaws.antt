-- What the laws say of order, of the answers of the program.
use Rattle.std.proofs.Common.{Bool, List, Result, Ok, Err, IfOk}
use Rattle.pl_syntax.specs.declared.expr.BinOp.{BinOp}
use Rattle.pl_syntax.specs.Tree.{Expr, Bin}
use Rattle.pl_forms.specs.declared.form.Form.{Form}
use Rattle.pl_forms.specs.declared.form.TermError.{TermError}
use Rattle.pl_forms.specs.declared.goal.Goal as own
use Rattle.pl_forms.specs.Forms.{IsForm}
use Rattle.pl_forms.specs.Goals.{goal_of, IsGoal}
use Rattle.pl_normal.specs.declared.scope.Binding.{Binding}
use Rattle.pl_normal.specs.Normal.{Made, normal, condition, connected, Forms, Conditions}
use Rattle.pl_normal.specs.Meaning.{InOrder, FormInOrder, GoalInOrder}
use Rattle.pl_normal.specs.Promises.{KeepsValue, KeepsTruth}
use Rattle.pl_normal.proofs.Expressions.{normal_law, condition_law}

pub form_order : (names : List Binding) (e : Expr) (before now : Made) (r : Result Form TermError) → InOrder names before → Forms r now (normal names e before) → IfOk r (λ f. InOrder names now)
form_order names e before now (Ok f) o h = (normal_law names e before (record { form = f; made = now }) o h).0.0.in_order
form_order names e before now (Err x) o h = tt

pub form_is : (names : List Binding) (e : Expr) (before now : Made) (r : Result Form TermError) → InOrder names before → Forms r now (normal names e before) → IfOk r (λ f. IsForm f)
form_is names e before now (Ok f) o h = (normal_law names e before (record { form = f; made = now }) o h).0.1
form_is names e before now (Err x) o h = tt

pub goal_order : (names : List Binding) (e : Expr) (t : Bool) (before now : Made) (r : Result own.Goal TermError) → InOrder names before → Conditions r now (condition names e t before) → IfOk r (λ g. InOrder names now)
goal_order names e t before now (Ok g) o h = (condition_law names e t before (record { goal = goal_of g; made = now }) o h).0.0.in_order
goal_order names e t before now (Err x) o h = tt

pub goal_is : (names : List Binding) (e : Expr) (t : Bool) (before now : Made) (r : Result own.Goal TermError) → InOrder names before → Conditions r now (condition names e t before) → IfOk r (λ g. IsGoal (goal_of g))
goal_is names e t before now (Ok g) o h = (condition_law names e t before (record { goal = goal_of g; made = now }) o h).0.1
goal_is names e t before now (Err x) o h = tt

-- an operation, wherever it stands
abbrev anywhere : BinOp → Expr → Expr → Expr
anywhere op a b = Bin (record { line = 0; col = 0; byte = 0 }) op a b

pub connected_order : (names : List Binding) (op : BinOp) (t : Bool) (a b : Expr) (before now : Made) (r : Result own.Goal TermError) → InOrder names before → Conditions r now (connected op t (λ n. normal names a n) (λ n. normal names b n) (λ h n. condition names a h n) (λ h n. condition names b h n) before) → IfOk r (λ g. InOrder names now)
connected_order names op t a b before now r o h = goal_order names (anywhere op a b) t before now r o h

pub connected_is : (names : List Binding) (op : BinOp) (t : Bool) (a b : Expr) (before now : Made) (r : Result own.Goal TermError) → InOrder names before → Conditions r now (connected op t (λ n. normal names a n) (λ n. normal names b n) (λ h n. condition names a h n) (λ h n. condition names b h n) before) → IfOk r (λ g. IsGoal (goal_of g))
connected_is names op t a b before now r o h = goal_is names (anywhere op a b) t before now r o h

-- ---- of the public functions

pub form_in_order : (names : List Binding) (e : Expr) (before now : Made) (r : Result Form TermError) → InOrder names before → Forms r now (normal names e before) → IfOk r (λ f. FormInOrder names before (record { form = f; made = now }))
form_in_order names e before now (Ok f) o h = (normal_law names e before (record { form = f; made = now }) o h).0
form_in_order names e before now (Err x) o h = tt

pub value_kept : (names : List Binding) (e : Expr) (before now : Made) (r : Result Form TermError) → InOrder names before → Forms r now (normal names e before) → IfOk r (λ f. KeepsValue names e before (record { form = f; made = now }))
value_kept names e before now (Ok f) o h = (normal_law names e before (record { form = f; made = now }) o h).1
value_kept names e before now (Err x) o h = tt

pub goal_in_order : (names : List Binding) (e : Expr) (t : Bool) (before now : Made) (r : Result own.Goal TermError) → InOrder names before → Conditions r now (condition names e t before) → IfOk r (λ g. GoalInOrder names before (record { goal = goal_of g; made = now }))
goal_in_order names e t before now (Ok g) o h = (condition_law names e t before (record { goal = goal_of g; made = now }) o h).0
goal_in_order names e t before now (Err x) o h = tt

pub truth_kept : (names : List Binding) (e : Expr) (t : Bool) (before now : Made) (r : Result own.Goal TermError) → InOrder names before → Conditions r now (condition names e t before) → IfOk r (λ g. KeepsTruth names e t before (record { goal = goal_of g; made = now }))
truth_kept names e t before now (Ok g) o h = (condition_law names e t before (record { goal = goal_of g; made = now }) o h).1
truth_kept names e t before now (Err x) o h = tt
