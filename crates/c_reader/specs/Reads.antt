-- What the reader's answers say.
use Rattle.std.specs.Prelude.{◌≡◌, ℕ, Some, List, Result, Ok, Err, ◌⊎◌}
use Rattle.c_forms.specs.declared.error.FormsError.{FormsError}
use Rattle.c_forms.specs.declared.error.FormsError.TheVariants as forms
use Rattle.c_forms.specs.Answers.{IsRefusedAt}
use Rattle.c_forms.specs.Forms.{IsFormText}
use Rattle.c_forms.specs.Tree.{Source}
use Rattle.c_rules.specs.Groups.{breaches}
use Rattle.c_rules.specs.Least.{least}
use Rattle.c_syntax.specs.declared.program.CProgram.{CProgram}
use Rattle.c_syntax.specs.Plain.{plain_program}
use Rattle.c_syntax.specs.Tree.{Program}
use Rattle.c_reader.specs.declared.error.ReadCError.{ReadCError}
use Rattle.c_reader.specs.declared.error.ReadCError.TheVariants as error

-- where the forms are left, the fragment is
abbrev pub of_forms : FormsError → ReadCError
of_forms (forms.NotForms n) = error.NotFragment n
of_forms forms.Memory = error.Memory

-- what the error says of a place
abbrev pub IfNotFragment : ReadCError → (ℕ → Type 0) → Type 0
IfNotFragment (error.NotFragment n) P = P n
IfNotFragment error.Memory P = Unit {0}

-- The place at which bytes are no text of the fragment: the end of their longest front that begins some text of the forms;
-- or, in a text of the forms, the first byte of all that break a rule.
abbrev pub IsFirstWrong : List ℕ → ℕ → Type 0
IsFirstWrong bytes n = IsRefusedAt bytes n ⊎ ((s : Source) × IsFormText s bytes × (least (breaches s) ≡ Some n))

-- the answer is what p is, but for want of memory
abbrev pub IsReadAs : Result CProgram ReadCError → Program → Type 0
IsReadAs (Ok c) p = plain_program c ≡ p
IsReadAs (Err (error.NotFragment n)) p = ⊥
IsReadAs (Err error.Memory) p = Unit {0}
