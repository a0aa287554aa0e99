-- Places of atoms in rows of numbers.
use Rattle.std.specs.Prelude.{ℕ, ◌<◌, ◌+◌, List}
use Rattle.std.specs.List.{All}
use Rattle.pl_forms.specs.declared.form.Form.{Form}
use Rattle.pl_forms.specs.declared.fact.Fact.{Fact}
use Rattle.pl_forms.specs.declared.equation.Solution.{Solution}

-- each atom of a form has its place in a row of n numbers, behind the constant
abbrev pub Within : ℕ → Form → Type 0
Within n f = All (λ p. p.atom + 1 < n) f.parts

-- .. of what facts say
abbrev pub AllWithin : ℕ → List Fact → Type 0
AllWithin n facts = All (λ f. Within n f.form) facts

-- .. of solved equations
abbrev pub AllSolvedWithin : ℕ → List Solution → Type 0
AllSolvedWithin n eqs = All (λ s. Within n s.form) eqs
