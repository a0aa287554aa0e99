-- Duties: what is to be shown.
use Rattle.std.specs.Prelude.{◌≡◌, ◌≢◌, ◌⊎◌, ℕ, ℤ, pos, ◌≤ℤ◌, Bool, true, false}
use Rattle.pl_forms.specs.declared.form.Form.{Form}
use Rattle.pl_forms.specs.declared.fact.Shape.{Shape}
use Rattle.pl_forms.specs.declared.fact.Shape.TheVariants.{Zero, Below, Differs}
use Rattle.pl_forms.specs.declared.goal.Goal as goal
use Rattle.pl_forms.specs.declared.goal.Goal.TheVariants as g
use Rattle.pl_forms.specs.Forms.{value, IsForm}
use Rattle.pl_forms.specs.Facts.{MeetsShape}
use Rattle.pl_forms.specs.Places.{Within}

-- a duty as plain data
pub data Goal : Type 0 where
  Truth : (b : Form) (truth : Bool) → Goal
  Plain : (shape : Shape) (f : Form) → Goal
  Both : (a b : Goal) → Goal
  Either : (a b : Goal) → Goal
  When : (guard : Form) (e : Goal) → Goal

-- .. of the program's own
abbrev pub goal_of : goal.Goal → Goal
goal_of (g.Truth b t) = Truth b t
goal_of (g.Plain s f) = Plain s f
goal_of (g.Both' p a q b) = Both (goal_of a) (goal_of b)
goal_of (g.Either' p a q b) = Either (goal_of a) (goal_of b)
goal_of (g.When' k p e) = When k (goal_of e)

-- a fact about each form of a duty
abbrev pub EachForm : (Form → Type 0) → Goal → Type 0
EachForm P (Truth b t) = P b
EachForm P (Plain s f) = P f
EachForm P (Both a b) = EachForm P a × EachForm P b
EachForm P (Either a b) = EachForm P a × EachForm P b
EachForm P (When k e) = P k × EachForm P e

-- the forms of a duty are forms
abbrev pub IsGoal : Goal → Type 0
IsGoal goal = EachForm IsForm goal

-- each atom of a duty has its place in a row of n numbers, behind the constant
abbrev pub GoalWithin : ℕ → Goal → Type 0
GoalWithin n goal = EachForm (Within n) goal

-- the opposite of a comparison is so
abbrev pub MissesShape : (ℕ → ℤ) → Shape → Form → Type 0
MissesShape v Zero f = value v f ≢ pos 0
MissesShape v Below f = pos 1 ≤ℤ value v f
MissesShape v Differs f = value v f ≡ pos 0

-- a boolean is 1, or 0
abbrev pub IsTruth : (ℕ → ℤ) → Form → Bool → Type 0
IsTruth v b true = value v b ≡ pos 1
IsTruth v b false = value v b ≡ pos 0

-- at whole numbers for the atoms a duty is so, or its negation is
abbrev pub Says : (ℕ → ℤ) → Goal → Bool → Type 0
Says v (Truth b true) h = IsTruth v b h
Says v (Truth b false) true = IsTruth v b false
Says v (Truth b false) false = IsTruth v b true
Says v (Plain s f) true = MeetsShape v s f
Says v (Plain s f) false = MissesShape v s f
Says v (Both a b) true = Says v a true × Says v b true
Says v (Both a b) false = Says v a false ⊎ Says v b false
Says v (Either a b) true = Says v a false → Says v b true
Says v (Either a b) false = Says v a false × Says v b false
Says v (When k e) true = value v k ≡ pos 1 → Says v e true
Says v (When k e) false = (value v k ≡ pos 1) × Says v e false
