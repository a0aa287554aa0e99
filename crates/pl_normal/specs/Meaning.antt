-- What forms and duties of expressions mean: numbers for the atoms that agree with the values of the names.
use Rattle.std.specs.Prelude.{◌≡◌, ℕ, ◌<◌, ◌+◌, ◌≤◌, ℤ, pos, ◌*ℤ◌, Bool, true, false, not, List, [], ◌∷◌, ◌++◌, length, Option, Some, None, Ok}
use Rattle.std.specs.List.{All}
use Rattle.pl_syntax.specs.declared.expr.BinOp.{BinOp}
use Rattle.pl_syntax.specs.declared.expr.BinOp.TheVariants.{Mul, Div, Rem}
use Rattle.pl_syntax.specs.Tree.{Name, Expr}
use Rattle.pl_syntax.specs.Values.{Value, Vars}
use Rattle.pl_syntax.specs.Values as v
use Rattle.pl_forms.specs.declared.form.Form.{Form}
use Rattle.pl_forms.specs.Forms.{value, IsForm}
use Rattle.pl_forms.specs.Facts.{IsFact, MeetsAll}
use Rattle.pl_forms.specs.Goals.{IsGoal, GoalWithin, Says}
use Rattle.pl_forms.specs.Places.{Within}
use Rattle.pl_forms.specs.declared.fact.Fact.{Fact}
use Rattle.pl_normal.specs.declared.scope.Operands.{Operands}
use Rattle.pl_normal.specs.declared.scope.Binding.{Binding}
use Rattle.pl_normal.specs.Scope.{Atom, form_of}
use Rattle.pl_normal.specs.Evaluation.{quotient, remainder, value_of, number_of}
use Rattle.pl_normal.specs.Normal.{Made, WithForm, WithGoal, normal, condition}

-- ---- what was made so far is in order

-- the operands of an atom are forms of atoms that were numbered before it
abbrev pub AreOlder : ℕ → Option Operands → Type 0
AreOlder i None = Unit {0}
AreOlder i (Some o) = IsForm o.left × IsForm o.right × Within (i + 1) o.left × Within (i + 1) o.right

abbrev pub EachOlder : ℕ → List Atom → Type 0
EachOlder i [] = Unit {0}
EachOlder i (a ∷ atoms) = AreOlder i a.operands × EachOlder (i + 1) atoms

abbrev pub GuardWithin : ℕ → Option Form → Type 0
GuardWithin n None = Unit {0}
GuardWithin n (Some g) = Within n g

-- each atom of a fact, and of its guard, has its place in a row of n numbers, behind the constant
abbrev pub FactWithin : ℕ → Fact → Type 0
FactWithin n f = GuardWithin n f.guard × Within n f.form

-- every form is one, and is of atoms that were made
pub record InOrder (names : List Binding) (m : Made) : Type 0 where
  pub names_are : All (λ b. IsForm b.form) names
  pub names_within : All (λ b. Within (length m.atoms + 1) b.form) names
  pub operands : EachOlder 0 m.atoms
  pub facts_are : All IsFact m.facts
  pub facts_within : All (FactWithin (length m.atoms + 1)) m.facts
  pub few : length m.facts ≤ 1024

-- ---- numbers for the atoms

abbrev pub calculated : BinOp → ℤ → ℤ → ℤ
calculated Mul a b = a *ℤ b
calculated Div a b = quotient a b
calculated Rem a b = remainder a b
calculated _ a b = pos 0

-- a product, a quotient or a remainder is that of its operands
abbrev pub Means : (ℕ → ℤ) → ℤ → Option Operands → Type 0
Means u n None = Unit {0}
Means u n (Some o) = n ≡ calculated o.op (value u o.left) (value u o.right)

abbrev pub EachMeans : (ℕ → ℤ) → ℕ → List Atom → Type 0
EachMeans u i [] = Unit {0}
EachMeans u i (a ∷ atoms) = Means u (u i) a.operands × EachMeans u (i + 1) atoms

-- the form of a name has the number of the name's value
abbrev pub NameAgrees : (ℕ → ℤ) → Option Form → Option Value → Type 0
NameAgrees u (Some f) (Some w) = value u f ≡ number_of w
NameAgrees u f None = Unit {0}
NameAgrees u None (Some w) = ⊥

-- numbers for the atoms agree with the values of the names, and meet what is known
pub record Agrees (u : ℕ → ℤ) (vars : Vars) (names : List Binding) (m : Made) : Type 0 where
  pub bound : (x : Name) → NameAgrees u (form_of names x) (vars x)
  pub opaque : EachMeans u 0 m.atoms
  pub facts : MeetsAll u m.facts

-- the numbers of the first n atoms are the same
pub record SameBelow (n : ℕ) (u w : ℕ → ℤ) : Type 0 where
  pub same : (k : ℕ) → k < n → w k ≡ u k

-- ---- the laws

-- there are numbers for the atoms that were made, so that all agrees and the form has the value's number
pub record HasNumber (u : ℕ → ℤ) (vars : Vars) (names : List Binding) (before : Made) (after : WithForm) (w : Value) : Type 0 where
  pub numbers : ℕ → ℤ
  pub same : SameBelow (length before.atoms) u numbers
  pub agrees : Agrees numbers vars names after.made
  pub value_is : value numbers after.form ≡ number_of w

-- .. and the duty, or its negation, is so
pub record HasTruth (u : ℕ → ℤ) (vars : Vars) (names : List Binding) (before : Made) (after : WithGoal) (holds : Bool) : Type 0 where
  pub numbers : ℕ → ℤ
  pub same : SameBelow (length before.atoms) u numbers
  pub agrees : Agrees numbers vars names after.made
  pub says : Says numbers after.goal holds

-- atoms were only added, and all is in order
pub record Grows (names : List Binding) (before after : Made) : Type 0 where
  pub more : List Atom
  pub atoms : after.atoms ≡ before.atoms ++ more
  pub in_order : InOrder names after

abbrev pub FormInOrder : List Binding → Made → WithForm → Type 0
FormInOrder names before r = Grows names before r.made × IsForm r.form × Within (length r.made.atoms + 1) r.form

abbrev pub GoalInOrder : List Binding → Made → WithGoal → Type 0
GoalInOrder names before r = Grows names before r.made × IsGoal r.goal × GoalWithin (length r.made.atoms + 1) r.goal

-- a truth, or its opposite
abbrev pub agreeing : Bool → Bool → Bool
agreeing true b = b
agreeing false b = not b

-- The law of forms: where all is in order before, it is after; and numbers that agree before can be had for the new atoms too,
-- so that the form has the number of the expression's value.
abbrev pub NormalLaw : Type 0
NormalLaw =
    (names : List Binding) (e : Expr) (m : Made) (r : WithForm) → InOrder names m → normal names e m ≡ Ok r →
    FormInOrder names m r × ((u : ℕ → ℤ) (vars : Vars) (w : Value) → Agrees u vars names m → value_of vars e ≡ Some w → HasNumber u vars names m r w)

-- The law of conditions: .. so that the duty, or its negation, is so exactly where the expression, or its negation, is true.
abbrev pub ConditionLaw : Type 0
ConditionLaw =
    (names : List Binding) (e : Expr) (h : Bool) (m : Made) (r : WithGoal) → InOrder names m → condition names e h m ≡ Ok r →
    GoalInOrder names m r × ((u : ℕ → ℤ) (vars : Vars) (b : Bool) → Agrees u vars names m → value_of vars e ≡ Some (v.Truth b) → HasTruth u vars names m r (agreeing h b))
