-- The rule of hints: a duty `t <= 0` is done where the written multiples of facts and of the negated goal add to a positive constant.
use Rattle.std.specs.Prelude.{ℕ, ◌+◌, pos, negsuc, Bool, true, false, List, replicate, Option, Some, None, Result, Ok, Err}
use Rattle.pl_forms.specs.declared.form.Form.{Form}
use Rattle.pl_forms.specs.declared.form.TermError.{TermError}
use Rattle.pl_forms.specs.declared.fact.Shape.{Shape}
use Rattle.pl_forms.specs.declared.fact.Shape.TheVariants.{Zero, Below, Differs}
use Rattle.pl_forms.specs.declared.fact.Fact.{Fact}
use Rattle.pl_forms.specs.declared.fact.EqTerm.{EqTerm}
use Rattle.pl_forms.specs.declared.equation.Solution.{Solution}
use Rattle.pl_forms.specs.Steps.{plus}
use Rattle.pl_forms.specs.Equations.{reduced}
use Rattle.pl_forms.specs.Terms.{terms}
use Rattle.pl_forms.specs.Tightening.{common}
use Rattle.pl_forms.specs.Solving.{solved}
use Rattle.pl_forms.specs.Goals.{Goal, Plain}
use Rattle.pl_linear.specs.declared.hint.HintTerm.{HintTerm}
use Rattle.pl_linear.specs.declared.hint.Written.{Written}
use Rattle.pl_linear.specs.declared.hint.Hinted.{Hinted}
use Rattle.pl_linear.specs.declared.hint.Hinted.TheVariants.{Undone}
use Rattle.pl_linear.specs.Duty.{one_form}
use Rattle.pl_linear.specs.Certificates.{closing}
use Rattle.pl_linear.specs.Hints.{past, are_known, all_written, add_all_own, items_of, told, unless_past}

-- the written multiples add to a positive constant
abbrev pub adds_up : List Solution → List Fact → ℕ → Form → List Written → Bool
adds_up eqs facts atoms t ws = closing (add_all_own eqs facts t ws (replicate (atoms + 1) (pos 0)))

abbrev pub of_written : List Solution → List Fact → ℕ → Form → Result (Option (List Written)) TermError → Result Hinted TermError
of_written eqs facts atoms t (Err e) = Err e
of_written eqs facts atoms t (Ok None) = Ok Undone
of_written eqs facts atoms t (Ok (Some ws)) = Ok (told (adds_up eqs facts atoms t ws) (items_of ws))

abbrev pub of_reduced : List Solution → List Fact → ℕ → Form → List HintTerm → List EqTerm → Result Form TermError → Result Hinted TermError
of_reduced eqs facts atoms t hint ts (Err e) = Err e
of_reduced eqs facts atoms t hint ts (Ok g) = of_written eqs facts atoms t (all_written eqs facts (common 0 g.parts) ts hint)

abbrev pub of_negated : List Solution → List Fact → ℕ → Form → List HintTerm → Result Form TermError → Result Hinted TermError
of_negated eqs facts atoms t hint (Err e) = Err e
of_negated eqs facts atoms t hint (Ok h) = of_reduced eqs facts atoms t hint (terms eqs h) (reduced eqs h)

abbrev pub of_solved : Result (List Solution) TermError → List Fact → ℕ → Form → List HintTerm → Result Hinted TermError
of_solved (Err e) facts atoms t hint = Err e
of_solved (Ok eqs) facts atoms t hint = of_negated eqs facts atoms t hint (plus one_form (negsuc 0) t)

abbrev pub of_labels : Bool → List Fact → ℕ → Form → List HintTerm → Result Hinted TermError
of_labels false facts atoms t hint = Ok Undone
of_labels true facts atoms t hint = of_solved (solved facts) facts atoms t hint

abbrev pub of_shape : Shape → List Fact → ℕ → Form → List HintTerm → Result Hinted TermError
of_shape Zero facts atoms t hint = Ok Undone
of_shape Below facts atoms t hint = of_labels (are_known facts hint) facts atoms t hint
of_shape Differs facts atoms t hint = Ok Undone

abbrev pub of_goal : List Fact → ℕ → Goal → List HintTerm → Result Hinted TermError
of_goal facts atoms (Plain s t) hint = of_shape s facts atoms t hint
of_goal facts atoms _ hint = Ok Undone

-- what becomes of a duty by the rule of hints; the limits come first
abbrev pub by_rule : List Fact → ℕ → Goal → List HintTerm → Result Hinted TermError
by_rule facts atoms goal hint = unless_past (past hint 0) (of_goal facts atoms goal hint)
