-- The multiples that reduce a form.
use Rattle.std.proofs.Common.{◌≡◌, ℕ, ◌≤◌, ◌^◌, pos, unsigned_abs, int_eq, true, false, cond, suc, refl, arith, List, [], ◌∷◌, Result, Ok, Err, IfOk, All}
use Rattle.std.proofs.lemmas.List.Elements.{All-cons, All-nil, All-append}
use Rattle.pl_forms.specs.declared.form.Form.{Form}
use Rattle.pl_forms.specs.declared.form.TermError.{TermError}
use Rattle.pl_forms.specs.declared.fact.EqTerm.{EqTerm}
use Rattle.pl_forms.specs.declared.equation.Solution.{Solution}
use Rattle.pl_forms.specs.declared.equation.Reduced.{Reduced}
use Rattle.pl_forms.specs.Equations.{AreSolutions, reduced, remove, coeff_of, opposite}
use Rattle.pl_forms.specs.Terms.{then_terms, removal, terms, Reduces}
use Rattle.pl_forms.specs.Places.{Within, AllSolvedWithin}
use Rattle.pl_forms.specs.Forms.{IsForm}
use Rattle.pl_forms.proofs.Reducing.{coeff_small, opposite_small, removed_form}
use Rattle.pl_forms.proofs.PlaceLaws.{reduced_within}

pub reduces_within : (ss : List Solution) (f : Form) (r : Result Reduced TermError) → Reduces r (reduced ss f) (terms ss f) → IfOk r (λ g. (n : ℕ) → AllSolvedWithin n ss → Within n f → Within n g.form)
reduces_within ss f (Err e) h = tt
reduces_within ss f (Ok g) h = λ n a p. reduced_within n ss f g.form a p h.0

abbrev pub AreSmall : List EqTerm → Type 0
AreSmall ts = All (λ t. unsigned_abs t.times ≤ 2 ^ 40) ts

removal_small : (s : Solution) (f : Form) → IsForm f → All (λ t. unsigned_abs t.times ≤ 2 ^ 40) (removal s f)
removal_small s f p =
    elim (int_eq (coeff_of s.atom f.parts) (pos 0)) as (λ b. AreSmall (cond b [] (record { times = opposite s.minus (coeff_of s.atom f.parts); fact = s.fact } ∷ []))) [
      | true ↦ All-nil (λ t. unsigned_abs t.times ≤ 2 ^ 40)
      | false ↦ All-cons (λ t. unsigned_abs t.times ≤ 2 ^ 40) (record { times = opposite s.minus (coeff_of s.atom f.parts); fact = s.fact }) [] (opposite_small s.minus (coeff_of s.atom f.parts) (2 ^ 40) (coeff_small s.atom f.parts p.small)) (All-nil (λ t. unsigned_abs t.times ≤ 2 ^ 40))
    ]

then_small : (r : Result Form TermError) (f : Form → List EqTerm) → ((g : Form) → r ≡ Ok g → AreSmall (f g)) → AreSmall (then_terms r f)
then_small (Err e) f h = All-nil (λ t. unsigned_abs t.times ≤ 2 ^ 40)
then_small (Ok g) f h = h g refl

terms_small : (ss : List Solution) (f : Form) → AreSolutions ss → IsForm f → AreSmall (terms ss f)
terms_small [] f a p = All-nil (λ t. unsigned_abs t.times ≤ 2 ^ 40)
terms_small (s ∷ ss) f a p =
    All-append (λ t. unsigned_abs t.times ≤ 2 ^ 40) (removal s f) (then_terms (remove s f) (λ g. terms ss g)) (removal_small s f p)
    (then_small (remove s f) (λ g. terms ss g) (λ g e. terms_small ss g (λ k z lt. a (suc k) z (omega arith)) (removed_form s f g (a 0 s (omega arith)) p e)))

pub reduces_small : (ss : List Solution) (f : Form) (r : Result Reduced TermError) → AreSolutions ss → IsForm f → Reduces r (reduced ss f) (terms ss f) → IfOk r (λ g. AreSmall g.terms)
reduces_small ss f (Err e) a p h = tt
reduces_small ss f (Ok g) a p h = rw (← h.1) (terms_small ss f a p)
