-- Equations that are solved, and forms reduced by them.
use Rattle.std.specs.Prelude.{◌≡◌, ℕ, ℤ, pos, neg_ℤ, Bool, true, ◌&&◌, nat_eq, if◌then◌else◌, List, [], ◌∷◌, length, Option, Some, None, Result, Ok, Err}
use Rattle.std.specs.List.{All}
use Rattle.std.specs.Ordering.{int_eq}
use Rattle.pl_forms.specs.declared.form.Part.{Part}
use Rattle.pl_forms.specs.declared.form.Form.{Form}
use Rattle.pl_forms.specs.declared.form.TermError.{TermError}
use Rattle.pl_forms.specs.declared.form.TermError.TheVariants.{TooLarge, Memory}
use Rattle.pl_forms.specs.declared.equation.Solution.{Solution}
use Rattle.pl_forms.specs.declared.fact.Fact.{Fact}
use Rattle.pl_forms.specs.Facts.{MeetsAll}
use Rattle.pl_forms.specs.Forms.{value, IsForm}
use Rattle.pl_forms.specs.Steps.{plus}

-- the forms of solved equations are forms
abbrev pub AreSolutions : List Solution → Type 0
AreSolutions ss = All (λ s. IsForm s.form) ss

-- whole numbers for the atoms meet the solved equations
abbrev pub MeetsSolved : (ℕ → ℤ) → List Solution → Type 0
MeetsSolved v ss = All (λ s. value v s.form ≡ pos 0) ss

-- the solved equations are met wherever the facts are
abbrev pub Follow : List Solution → List Fact → Type 0
Follow ss facts = (v : ℕ → ℤ) → MeetsAll v facts → MeetsSolved v ss

-- the solved equation of a fact
abbrev pub named : ℕ → List Solution → Option Solution
named i [] = None
named i (s ∷ ss) = if nat_eq s.fact i then Some s else named i ss

-- each is the one of its fact: no equation is solved twice
abbrev pub AreNamed : List Solution → Type 0
AreNamed ss = All (λ s. named s.fact ss ≡ Some s) ss

-- the multiple of an atom; 0 where no part has it
abbrev pub coeff_of : ℕ → List Part → ℤ
coeff_of a [] = pos 0
coeff_of a (p ∷ ps) = if nat_eq p.atom a then p.coeff else coeff_of a ps

-- how often a solved form is added to remove its atom, whose multiple there is 1 or -1
abbrev pub opposite : Bool → ℤ → ℤ
opposite minus c = if minus then c else neg_ℤ c

abbrev pub then_form : Result Form TermError → (Form → Result Form TermError) → Result Form TermError
then_form (Err e) f = Err e
then_form (Ok g) f = f g

-- a form from which the atom of a solved equation is removed
abbrev pub remove : Solution → Form → Result Form TermError
remove s f =
    if int_eq (coeff_of s.atom f.parts) (pos 0) then Ok f
    else plus f (opposite s.minus (coeff_of s.atom f.parts)) s.form

-- .. and those of all, in the order of solving
abbrev pub reduced : List Solution → Form → Result Form TermError
reduced [] f = Ok f
reduced (s ∷ ss) f = then_form (remove s f) (λ g. reduced ss g)

-- the form 1
abbrev pub is_one : Form → Bool
is_one f = nat_eq (length f.parts) 0 && int_eq f.constant (pos 1)

abbrev pub one_of : Result Form TermError → Result Bool TermError
one_of (Err e) = Err e
one_of (Ok f) = Ok (is_one f)

-- whether a fact with this guard counts
abbrev pub counted : List Solution → Option Form → Result Bool TermError
counted ss None = Ok true
counted ss (Some g) = one_of (reduced ss g)

-- exactly this answer, or want of memory
abbrev pub Tells : Result Bool TermError → Result Bool TermError → Type 0
Tells (Ok b) wanted = wanted ≡ Ok b
Tells (Err (TooLarge n)) wanted = wanted ≡ Err (TooLarge n)
Tells (Err Memory) wanted = Unit {0}
