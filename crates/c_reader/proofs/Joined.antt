-- What the reader promises, from what is known of the program for which a text stands, and of what is written of a program.
use Rattle.std.proofs.Common.{◌≡◌, ◌∙◌, sym, ap, subst, refl, ℕ, ◌<◌, ◌^◌, Option, Some, None, List, [], ◌∷◌, length, Err, inl, inr}
use Rattle.c_syntax.specs.Fragment.{IsText}
use Rattle.c_syntax.specs.Tree.{Program}
use Rattle.pl_lexer.specs.Proper.{IsName}
use Rattle.c_forms.specs.declared.error.FormsError.{FormsError}
use Rattle.c_forms.specs.declared.error.FormsError.TheVariants.{NotForms, Memory}
use Rattle.c_forms.specs.Answers as forms
use Rattle.c_forms.specs.Answers.{IfNotForms, IsRefusedAt}
use Rattle.c_forms.specs.Forms.{IsFormText}
use Rattle.c_forms.specs.Text.{source_text}
use Rattle.c_forms.specs.Tree.{Source}
use Rattle.c_rules.specs.Groups.{breaches}
use Rattle.c_rules.specs.Least.{earlier, least}
use Rattle.c_reader.specs.Reads.{IfNotFragment, IsFirstWrong, IsReadAs, of_forms}
use Rattle.c_reader.specs.Standing.{program_of}
use Rattle.c_reader.proofs.Kept.{keeps_rules}
use Rattle.c_reader.proofs.NoBreach.{no_breach}
use Rattle.c_reader.proofs.NumbersForms.{written_forms}
use Rattle.c_reader.proofs.ReadBack.{read_back}
use Rattle.c_reader.proofs.TextForms.{is_text, is_form_text}
use Rattle.c_reader.proofs.Written.{source}
use Rattle.c_reader.proofs.WrittenAgain.{rewritten}

-- ---- what is read

earlier_is : (n : ℕ) (o : Option ℕ) → earlier (Some n) o ≡ None → ⊥
earlier_is n None e = cc
earlier_is n (Some k) e = cc

-- without a first breach there is none
none_found : (places : List ℕ) → least places ≡ None → places ≡ []
none_found [] e = refl
none_found (n ∷ ns) e = absurd (earlier_is n (least ns) e)

-- a text of the forms without a breach is the text of the program for which it stands
pub found_read : (bytes : List ℕ) (s : Source) (p : Program) → IsFormText s bytes → None ≡ least (breaches s) → p ≡ program_of s → IsText IsName bytes p
found_read bytes s p text none made =
    let clean = none_found (breaches s) (sym none) in
    let rules = keeps_rules s text.forms clean in
    let again = rewritten s text.forms clean in
    subst (λ q. IsText IsName bytes q) (sym made) (is_text s bytes text rules again)

-- the rules are asked of a text that is as short as the bytes
pub short_text : (bytes : List ℕ) (s : Source) → IsFormText s bytes → length bytes < 2 ^ 32 → length (source_text s) < 2 ^ 32
short_text bytes s text short = subst (λ (b : List ℕ). length b < 2 ^ 32) text.text short

-- ---- each text of a program is read

-- it is of the forms
pub written_text : (bytes : List ℕ) (p : Program) → IsText IsName bytes p → length bytes < 2 ^ 32 → IsFormText (source p) bytes
written_text bytes p text short = is_form_text p bytes text (written_forms bytes p text short)

-- so the forms aren't left
pub only_forms : (e : FormsError) (s : Source) (p : Program) → forms.IsReadAs (Err e) s → IsReadAs (Err (of_forms e)) p
only_forms (NotForms n) s p read = absurd read
only_forms Memory s p read = tt

-- there is no breach
pub only_breach : (bytes : List ℕ) (p : Program) → IsText IsName bytes p → (s : Source) (n : ℕ) → s ≡ source p → Some n ≡ least (breaches s) → ⊥
only_breach bytes p text s n read found =
    let none = no_breach p text.fragment.forms text.fragment.rules in
    let e : Some n ≡ None = found ∙ ap (λ (q : Source). least (breaches q)) read ∙ ap least none in
    cc

-- and it stands for the program
pub only_read : (bytes : List ℕ) (p : Program) → IsText IsName bytes p → (s : Source) (made : Program) → s ≡ source p → made ≡ program_of s → made ≡ p
only_read bytes p text s made read built = built ∙ ap program_of read ∙ read_back p text.fragment.forms text.fragment.rules

-- ---- what is refused

-- a place at which the forms are left
pub refused_forms : (bytes : List ℕ) (e : FormsError) → IfNotForms e (IsRefusedAt bytes) → IfNotFragment (of_forms e) (IsFirstWrong bytes)
refused_forms bytes (NotForms n) refused = inl refused
refused_forms bytes Memory refused = tt

-- the first breach
pub refused_breach : (bytes : List ℕ) (s : Source) (n : ℕ) → IsFormText s bytes → Some n ≡ least (breaches s) → IsFirstWrong bytes n
refused_breach bytes s n text found = inr (s, text, sym found)
