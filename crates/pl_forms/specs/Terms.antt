-- The multiples of solved equations that are added to a form as it is reduced.
use Rattle.std.specs.Prelude.{◌≡◌, ◌⊎◌, ◌+ℤ◌, ◌-ℤ◌, ℕ, ℤ, pos, Bool, true, false, if◌then◌else◌, List, [], ◌∷◌, ◌++◌, Result, Ok, Err}
use Rattle.std.specs.Ordering.{int_eq}
use Rattle.pl_forms.specs.declared.form.Form.{Form}
use Rattle.pl_forms.specs.declared.form.TermError.{TermError}
use Rattle.pl_forms.specs.declared.form.TermError.TheVariants.{TooLarge, Memory}
use Rattle.pl_forms.specs.declared.fact.EqTerm.{EqTerm}
use Rattle.pl_forms.specs.declared.equation.Solution.{Solution}
use Rattle.pl_forms.specs.declared.equation.Reduced.{Reduced}
use Rattle.pl_base.specs.declared.items.Items.{Items}
use Rattle.pl_forms.specs.Equations.{coeff_of, opposite, remove}

abbrev pub then_terms : Result Form TermError → (Form → List EqTerm) → List EqTerm
then_terms (Err e) f = []
then_terms (Ok g) f = f g

-- the multiple of a solved form that removes its atom; none where the atom isn't there
abbrev pub removal : Solution → Form → List EqTerm
removal s f =
    if int_eq (coeff_of s.atom f.parts) (pos 0) then []
    else (record { times = opposite s.minus (coeff_of s.atom f.parts); fact = s.fact } ∷ [])

-- .. those of all, in the order of solving
abbrev pub terms : List Solution → Form → List EqTerm
terms [] f = []
terms (s ∷ ss) f = removal s f ++ then_terms (remove s f) (λ g. terms ss g)

-- exactly this form and these multiples, or want of memory
abbrev pub Reduces : Result Reduced TermError → Result Form TermError → List EqTerm → Type 0
Reduces (Ok r) wanted ts = (wanted ≡ Ok r.form) × (ts ≡ r.terms)
Reduces (Err (TooLarge n)) wanted ts = wanted ≡ Err (TooLarge n)
Reduces (Err Memory) wanted ts = Unit {0}

-- a multiple less another, or the sum of both
abbrev pub difference : Bool → ℤ → ℤ → ℤ
difference true c d = c -ℤ d
difference false c d = c +ℤ d

-- so often a solved form, unless that is never
abbrev pub some_term : ℤ → ℕ → List EqTerm
some_term k i = if int_eq k (pos 0) then [] else (record { times = k; fact = i } ∷ [])

-- what removes an atom from one form less what removes it from another, or the sum of both
abbrev pub step_between : Solution → Bool → Form → Form → List EqTerm
step_between s same f g = some_term (difference same (opposite s.minus (coeff_of s.atom f.parts)) (opposite s.minus (coeff_of s.atom g.parts))) s.fact

-- .. for all solved equations: these lead one form to the other, or to its opposite
abbrev pub between : List Solution → Bool → Form → Form → List EqTerm
between [] same f g = []
between (s ∷ ss) same f g = step_between s same f g ++ then_terms (remove s f) (λ h. then_terms (remove s g) (λ k. between ss same h k))

-- the first refusal of either form
abbrev pub IsRefusedBy : Result Form TermError → TermError → Type 0
IsRefusedBy (Ok f) e = ⊥
IsRefusedBy (Err d) e = d ≡ e

-- exactly these multiples where both forms reduce, else a refusal of one of them; or want of memory
abbrev pub Leads : Result (Items EqTerm) TermError → Result Form TermError → Result Form TermError → List EqTerm → Type 0
Leads (Ok us) r q ts = us ≡ ts
Leads (Err (TooLarge n)) r q ts = IsRefusedBy r (TooLarge n) ⊎ IsRefusedBy q (TooLarge n)
Leads (Err Memory) r q ts = Unit {0}
