-- Inequalities, each with the item of a certificate that gives it.
use Rattle.std.specs.Prelude.{◌≡◌, ℕ, ◌+◌, ◌≤◌, pos, neg_ℤ, true, false, List, [], ◌∷◌, map, length, slice_get, slice_index_or, Some, None, Result, Ok, Err}
use Rattle.std.specs.List.{All}
use Rattle.std.specs.declared.vec.Vec.{Vec}
use Rattle.std.specs.declared.alloc.Global.{Global}
use Rattle.pl_forms.specs.declared.form.Form.{Form}
use Rattle.pl_forms.specs.declared.form.TermError.{TermError}
use Rattle.pl_forms.specs.declared.form.TermError.TheVariants.{TooLarge, Memory}
use Rattle.pl_forms.specs.declared.fact.Shape.{Shape}
use Rattle.pl_forms.specs.declared.fact.Shape.TheVariants.{Zero, Below, Differs}
use Rattle.pl_forms.specs.declared.fact.Fact.{Fact}
use Rattle.pl_forms.specs.declared.fact.EqTerm.{EqTerm}
use Rattle.pl_forms.specs.declared.fact.CertItem.{CertItem}
use Rattle.pl_forms.specs.declared.equation.Solution.{Solution}
use Rattle.pl_forms.specs.Forms.{IsForm}
use Rattle.pl_forms.specs.Places.{Within, AllWithin, AllSolvedWithin}
use Rattle.pl_forms.specs.Tightening.{tight_form}
use Rattle.pl_linear.specs.declared.bounds.Bound.{Bound}
use Rattle.pl_linear.specs.Certificates.{item_row, start_row}
use Rattle.pl_linear.specs.Duty.{zero_form, opposite_form}
use Rattle.pl_diffs.specs.Differences.{IsNegativeCycle}
use Rattle.pl_linear.specs.Nodes.{edges_of}
use Rattle.pl_linear.specs.Witnesses.{is_strict}
use Rattle.pl_linear.specs.FormRow.{row_of}

abbrev pub minus_term : EqTerm → EqTerm
minus_term t = record { times = neg_ℤ t.times; fact = t.fact }

-- a fact, once, with multiples of solved equations
abbrev pub fact_once : ℕ → List EqTerm → CertItem
fact_once i ts = record { times = pos 1; fact = Some i; back = false; eqs = ts }

-- .. and its reverse
abbrev pub back_once : ℕ → List EqTerm → CertItem
back_once i ts = record { times = pos 1; fact = Some i; back = true; eqs = map minus_term ts }

-- .. and the negated goal
abbrev pub goal_once : List EqTerm → CertItem
goal_once ts = record { times = pos 1; fact = None; back = false; eqs = ts }

-- the inequalities of the fact at place i, of which g is the reduced form
abbrev pub bounds_of : Shape → ℕ → Form → List EqTerm → List Bound
bounds_of Zero i g ts = record { form = tight_form g; item = fact_once i ts } ∷ record { form = tight_form (opposite_form g); item = back_once i ts } ∷ []
bounds_of Below i g ts = record { form = tight_form g; item = fact_once i ts } ∷ []
bounds_of Differs i g ts = []

abbrev pub forms_of : List Bound → List Form
forms_of bs = map (λ b. b.form) bs

-- the inequality at a place
abbrev pub no_bound : Bound
no_bound = record { form = zero_form; item = record { times = pos 1; fact = None; back = false; eqs = [] } }

abbrev pub bound_at : List Bound → ℕ → Bound
bound_at bs i = slice_index_or bs i no_bound

-- the items of the inequalities at places that form a negative cycle
pub record IsCycleOf (bs : List Bound) (items : List CertItem) : Type 0 where
  pub places : List ℕ
  pub cycle : IsNegativeCycle (edges_of (forms_of bs)) places
  pub short : length places ≤ 4096
  pub are : items ≡ map (λ i. (bound_at bs i).item) places

-- the item gives the inequality: the row of the item is that of the form
pub record IsGiven (eqs : List Solution) (facts : List Fact) (goal : Form) (b : Bound) : Type 0 where
  pub once : b.item.times ≡ pos 1
  pub strict : is_strict eqs b.item.eqs ≡ true
  pub form : IsForm b.form
  pub within : (n : ℕ) → AllSolvedWithin n eqs → AllWithin n facts → Within n goal → Within n b.form
  pub row : (n : ℕ) → AllSolvedWithin (n + 1) eqs → AllWithin (n + 1) facts → Within (n + 1) goal → item_row eqs facts goal b.item (start_row b.item.fact (n + 1)) ≡ Some (row_of n b.form)

-- .. whatever the goal is
abbrev pub GivenBy : List Solution → List Fact → List Bound → Type 0
GivenBy eqs facts bs = All (λ b. (goal : Form) → IsGiven eqs facts goal b) bs

-- a fact at place i adds only inequalities that are given
pub record KeepsGiven (eqs : List Solution) (i : ℕ) (f : Fact) (before now : List Bound) : Type 0 where
  pub keeps : (facts : List Fact) → slice_get facts i ≡ Some f → GivenBy eqs facts before → GivenBy eqs facts now

abbrev pub AreGiven : List Solution → List Fact → Form → List Bound → Type 0
AreGiven eqs facts goal bs = All (IsGiven eqs facts goal) bs

-- exactly these inequalities, or want of memory
abbrev pub Bounded : Result (Vec Bound Global) TermError → Result (List Form) TermError → Type 0
Bounded (Ok v) wanted = wanted ≡ Ok (forms_of v.items)
Bounded (Err (TooLarge n)) wanted = wanted ≡ Err (TooLarge n)
Bounded (Err Memory) wanted = Unit {0}

-- .. of which some were there before
abbrev pub Extended : Result (Unit {0}) TermError → List Bound → Result (List Form) TermError → Type 0
Extended (Ok u) now wanted = wanted ≡ Ok (forms_of now)
Extended (Err (TooLarge n)) now wanted = wanted ≡ Err (TooLarge n)
Extended (Err Memory) now wanted = Unit {0}

-- exactly this one
abbrev pub BoundIs : Result Bound TermError → Result Form TermError → Type 0
BoundIs (Ok b) wanted = wanted ≡ Ok b.form
BoundIs (Err (TooLarge n)) wanted = wanted ≡ Err (TooLarge n)
BoundIs (Err Memory) wanted = Unit {0}
