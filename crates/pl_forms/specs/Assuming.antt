-- The facts that a duty, or its negation, adds to those that are known.
use Rattle.std.specs.Prelude.{◌≡◌, ℕ, ℤ, pos, negsuc, Bool, true, false, nat_lt, not, if◌then◌else◌, List, [], ◌∷◌, ◌++◌, length, Option, Some, None, Result, Ok, Err}
use Rattle.pl_forms.specs.declared.form.Form.{Form}
use Rattle.pl_forms.specs.declared.form.TermError.{TermError}
use Rattle.pl_forms.specs.declared.form.TermError.TheVariants.{TooLarge, Memory}
use Rattle.pl_forms.specs.declared.fact.Shape.{Shape}
use Rattle.pl_forms.specs.declared.fact.Shape.TheVariants.{Zero, Below, Differs}
use Rattle.pl_forms.specs.declared.fact.Fact.{Fact}
use Rattle.pl_forms.specs.Steps.{plus}
use Rattle.pl_forms.specs.Facts.{MeetsAll}
use Rattle.pl_forms.specs.Goals.{Goal, Truth, Plain, Both, Either, When, Says, GoalWithin}
use Rattle.pl_forms.specs.Places.{AllWithin}

-- the form 1
abbrev pub one_form : Form
one_form = record { parts = []; constant = pos 1 }

-- a form less 1, and 1 less a form
abbrev pub less_one : Form → Result Form TermError
less_one f = plus f (negsuc 0) one_form

abbrev pub one_less : Form → Result Form TermError
one_less f = plus one_form (negsuc 0) f

-- one more fact, of which there are at most 1,024
abbrev pub with_fact : List Fact → Fact → List Fact
with_fact facts f = if nat_lt (length facts) 1024 then facts ++ f ∷ [] else facts

abbrev pub with_form : List Fact → Option (List ℕ) → Option Form → Shape → Result Form TermError → Result (List Fact) TermError
with_form facts label guard s (Err e) = Err e
with_form facts label guard s (Ok f) = Ok (with_fact facts (record { label = label; guard = guard; shape = s; form = f }))

-- a boolean is 1, or 0
abbrev pub with_truth : List Fact → Option (List ℕ) → Option Form → Form → Bool → Result (List Fact) TermError
with_truth facts label guard b true = with_form facts label guard Zero (less_one b)
with_truth facts label guard b false = with_form facts label guard Zero (Ok b)

-- the opposite of a comparison
abbrev pub with_opposite : List Fact → Option (List ℕ) → Option Form → Shape → Form → Result (List Fact) TermError
with_opposite facts label guard Zero f = with_form facts label guard Differs (Ok f)
with_opposite facts label guard Below f = with_form facts label guard Below (one_less f)
with_opposite facts label guard Differs f = with_form facts label guard Zero (Ok f)

-- a truth, or its opposite
abbrev pub turned : Bool → Bool → Bool
turned true t = t
turned false t = not t

abbrev pub then_facts : Result (List Fact) TermError → (List Fact → Result (List Fact) TermError) → Result (List Fact) TermError
then_facts (Err e) f = Err e
then_facts (Ok facts) f = f facts

-- what is known where a duty, or its negation, is assumed too: each new fact has this label and this guard
abbrev pub assumed : List Fact → Option (List ℕ) → Option Form → Goal → Bool → Result (List Fact) TermError
assumed facts l g (Truth b t) h = with_truth facts l g b (turned h t)
assumed facts l g (Plain s f) true = with_form facts l g s (Ok f)
assumed facts l g (Plain s f) false = with_opposite facts l g s f
assumed facts l g (Both a b) true = then_facts (assumed facts l g a true) (λ now. assumed now l g b true)
assumed facts l g (Both a b) false = Ok facts
assumed facts l g (Either a b) true = Ok facts
assumed facts l g (Either a b) false = then_facts (assumed facts l g a false) (λ now. assumed now l g b false)
assumed facts l None (When k e) true = assumed facts l (Some k) e true
assumed facts l (Some g) (When k e) true = Ok facts
assumed facts l g (When k e) false = Ok facts

-- exactly these facts, or want of memory
abbrev pub Assumes : Result (Unit {0}) TermError → List Fact → Result (List Fact) TermError → Type 0
Assumes (Ok u) now wanted = wanted ≡ Ok now
Assumes (Err (TooLarge n)) now wanted = wanted ≡ Err (TooLarge n)
Assumes (Err Memory) now wanted = Unit {0}

-- where the known facts are met and the duty, or its negation, is so, the facts are met that are known then
pub record KeepsMet (before now : List Fact) (goal : Goal) (h : Bool) : Type 0 where
  pub kept : (v : ℕ → ℤ) → MeetsAll v before → Says v goal h → MeetsAll v now

-- .. and atoms that have their places keep them
pub record KeepsWithin (before now : List Fact) (goal : Goal) : Type 0 where
  pub kept : (n : ℕ) → AllWithin n before → GoalWithin n goal → AllWithin n now
