-- Facts about forms.
use Rattle.std.specs.Prelude.{◌≡◌, ◌≢◌, ℕ, ℤ, pos, ◌≤ℤ◌, List, Option, Some, None}
use Rattle.std.specs.List.{All}
use Rattle.pl_forms.specs.declared.form.Form.{Form}
use Rattle.pl_forms.specs.declared.fact.Shape.{Shape}
use Rattle.pl_forms.specs.declared.fact.Shape.TheVariants.{Zero, Below, Differs}
use Rattle.pl_forms.specs.declared.fact.Fact.{Fact}
use Rattle.pl_forms.specs.Forms.{value, IsForm}

-- what is said of a form is so at these whole numbers for the atoms
abbrev pub MeetsShape : (ℕ → ℤ) → Shape → Form → Type 0
MeetsShape v Zero f = value v f ≡ pos 0
MeetsShape v Below f = value v f ≤ℤ pos 0
MeetsShape v Differs f = value v f ≢ pos 0

-- a guard is 1
abbrev pub MeetsGuard : (ℕ → ℤ) → Option Form → Type 0
MeetsGuard v None = Unit {0}
MeetsGuard v (Some g) = value v g ≡ pos 1

-- whole numbers for the atoms meet a fact: where its guard is 1, what it says is so
pub record Meets (v : ℕ → ℤ) (f : Fact) : Type 0 where
  pub said : MeetsGuard v f.guard → MeetsShape v f.shape f.form

-- .. and all facts
abbrev pub MeetsAll : (ℕ → ℤ) → List Fact → Type 0
MeetsAll v facts = All (Meets v) facts

abbrev pub IsGuard : Option Form → Type 0
IsGuard None = Unit {0}
IsGuard (Some g) = IsForm g

-- the forms of a fact are forms
pub record IsFact (f : Fact) : Type 0 where
  pub guard : IsGuard f.guard
  pub form : IsForm f.form
