-- When a duty `t <= 0` is done: no whole numbers for the nodes meet all inequalities that count and the negated goal.
use Rattle.std.specs.Prelude.{◌≡◌, ◌≤ℤ◌, ◌+ℤ◌, ◌-ℤ◌, ℤ, pos, negsuc, neg_ℤ, map, Bool, true, false, List, [], ◌∷◌, ◌++◌, Result, Ok, Err}
use Rattle.std.specs.List.{All}
use Rattle.pl_forms.specs.declared.form.Part.{Part}
use Rattle.pl_forms.specs.declared.form.Form.{Form}
use Rattle.pl_forms.specs.declared.form.TermError.{TermError}
use Rattle.pl_forms.specs.declared.fact.Shape.{Shape}
use Rattle.pl_forms.specs.declared.fact.Shape.TheVariants.{Zero, Below, Differs}
use Rattle.pl_forms.specs.declared.fact.Fact.{Fact}
use Rattle.pl_forms.specs.declared.equation.Solution.{Solution}
use Rattle.pl_forms.specs.Steps.{plus}
use Rattle.pl_forms.specs.Equations.{then_form, reduced, counted}
use Rattle.pl_forms.specs.Tightening.{tight_form}
use Rattle.pl_linear.specs.Ends.{minus, split}

-- the forms 0 and 1, and the opposite of a form
abbrev pub zero_form : Form
zero_form = record { parts = []; constant = pos 0 }

abbrev pub one_form : Form
one_form = record { parts = []; constant = pos 1 }

abbrev pub opposite_form : Form → Form
opposite_form f = record { parts = map minus f.parts; constant = neg_ℤ f.constant }

-- the tightened inequalities `g <= 0` of what is said of a reduced form: an equation is two, a disequality none
abbrev pub inequalities : Shape → Form → List Form
inequalities Zero g = tight_form g ∷ tight_form (opposite_form g) ∷ []
inequalities Below g = tight_form g ∷ []
inequalities Differs g = []

abbrev pub with_inequalities : List Form → Shape → Result Form TermError → Result (List Form) TermError
with_inequalities made s (Err e) = Err e
with_inequalities made s (Ok g) = Ok (made ++ inequalities s g)

abbrev pub when_counted : List Solution → List Form → Shape → Form → Result Bool TermError → Result (List Form) TermError
when_counted eqs made s f (Err e) = Err e
when_counted eqs made s f (Ok false) = Ok made
when_counted eqs made s f (Ok true) = with_inequalities made s (reduced eqs f)

-- the inequalities of a fact that counts are put behind those made before
abbrev pub look : List Solution → List Form → Shape → Fact → Result (List Form) TermError
look eqs made Zero f = when_counted eqs made Zero f.form (counted eqs f.guard)
look eqs made Below f = when_counted eqs made Below f.form (counted eqs f.guard)
look eqs made Differs f = Ok made

abbrev pub then_forms : Result (List Form) TermError → (List Form → Result (List Form) TermError) → Result (List Form) TermError
then_forms (Err e) f = Err e
then_forms (Ok made) f = f made

-- .. those of all facts, in their order
abbrev pub look_all : List Solution → List Form → List Fact → Result (List Form) TermError
look_all eqs made [] = Ok made
look_all eqs made (f ∷ fs) = then_forms (look eqs made f.shape f) (λ now. look_all eqs now fs)

abbrev pub tightly : Result Form TermError → Result Form TermError
tightly (Err e) = Err e
tightly (Ok g) = Ok (tight_form g)

-- the negated goal `1 - t <= 0`, reduced and tightened
abbrev pub negation : List Solution → Form → Result Form TermError
negation eqs t = tightly (then_form (plus one_form (negsuc 0) t) (λ f. reduced eqs f))

abbrev pub with_negation : List Form → Result Form TermError → Result (List Form) TermError
with_negation made (Err e) = Err e
with_negation made (Ok g) = Ok (made ++ g ∷ [])

-- all inequalities that count, and the negation
abbrev pub asked : List Solution → List Fact → Form → Result (List Form) TermError
asked eqs facts t = then_forms (look_all eqs [] facts) (λ made. with_negation made (negation eqs t))

-- .. by the facts' own equations
abbrev pub asked_by : Result (List Solution) TermError → List Fact → Form → Result (List Form) TermError
asked_by (Err e) facts t = Err e
asked_by (Ok eqs) facts t = asked eqs facts t

-- numbers for the nodes meet an inequality, which bounds the difference of two nodes
abbrev pub MeetsForm : (List Part → ℤ) → Form → Type 0
MeetsForm u f = ((u (split f.parts).to -ℤ u (split f.parts).from) +ℤ f.constant) ≤ℤ pos 0

-- no numbers for the nodes, of which zero has 0, meet all
abbrev pub Done : List Form → Type 0
Done fs = (u : List Part → ℤ) → u [] ≡ pos 0 → ¬ All (MeetsForm u) fs
