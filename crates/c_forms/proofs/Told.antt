-- What the reader of whole texts says, in the words of the forms.
use Rattle.std.proofs.Common.{◌≡◌, ℕ, ◌-◌, List, length, Result, Ok, Err, sym, subst, ◌∙◌}
use Rattle.std.specs.Prelude.{IfOk, IfErr}
use Rattle.pl_readers.specs.declared.error.Stop.{Stop}
use Rattle.pl_readers.specs.Reader.{whole}
use Rattle.pl_readers.specs.Reads.{never}
use Rattle.pl_readers.proofs.Correct.{whole-found, whole-only, whole-refused}
use Rattle.pl_readers.proofs.Levels.{refused_at}
use Rattle.c_forms.specs.declared.source.Source as written
use Rattle.c_forms.specs.declared.error.FormsError.{FormsError}
use Rattle.c_forms.specs.declared.error.FormsError.TheVariants as error
use Rattle.c_forms.specs.Plain.{plain_source}
use Rattle.c_forms.specs.Tree.{Source}
use Rattle.c_forms.specs.Text.{source_text}
use Rattle.c_forms.specs.Forms.{IsForm, IsFormText}
use Rattle.c_forms.specs.Answers.{IsRefusedAt, IfNotForms, IsReadAs, Tells}
use Rattle.c_forms.specs.SourceReaders.{source}
use Rattle.c_forms.proofs.Spelling.{Spells}
use Rattle.c_forms.proofs.WholeReads.{good_source}

form_of : (s : Source) (bytes : List ℕ) → Spells IsForm source_text s bytes → IsFormText s bytes
form_of s bytes u = record { forms = u.0; text = u.1 }

of_form : (s : Source) (bytes : List ℕ) → IsFormText s bytes → Spells IsForm source_text s bytes
of_form s bytes w = (w.forms, w.text)

found : (bytes : List ℕ) (s : Source) → whole source bytes ≡ Ok s → IsFormText s bytes
found bytes s e = form_of s bytes (whole-found (Spells IsForm source_text) (Spells IsForm source_text) never source good_source.reads bytes s e)

only : (bytes : List ℕ) (s : Source) → IsFormText s bytes → whole source bytes ≡ Ok s
only bytes s w = whole-only (Spells IsForm source_text) (Spells IsForm source_text) never source good_source.reads bytes s (of_form s bytes w)

refused : (bytes : List ℕ) (s : Stop) → whole source bytes ≡ Err s → IsRefusedAt bytes (length bytes - s.left)
refused bytes s e =
    let r = refused_at (Spells IsForm source_text) (Spells IsForm source_text) bytes s (whole-refused (Spells IsForm source_text) (Spells IsForm source_text) never source good_source.reads bytes s e) in
    record {
      inside = r.inside;
      right = (r.viable.1, r.viable.0, form_of r.viable.1 _ r.viable.2);
      wrong = λ h v. r.none h (v.1, v.0, of_form v.0 _ v.2);
      short = λ h a w. r.short h a (of_form a bytes w);
    }

pub told_found : (r : Result written.Source FormsError) (bytes : List ℕ) → Tells r (whole source bytes) (length bytes) → IfOk r (λ s. IsFormText (plain_source s) bytes)
told_found (Ok s) bytes e = found bytes (plain_source s) e
told_found (Err f) bytes e = tt

both_read : (s : Source) (r : Result Source Stop) (x : Source) → r ≡ Ok s → r ≡ Ok x → s ≡ x
both_read s (Ok y) x e h = let k : s ≡ y = sym (same_read y s e) in k ∙ same_read y x h
  where
    the_read : Source → Result Source Stop
    the_read z = Ok z

    same_read : (y z : Source) → the_read y ≡ the_read z → y ≡ z
    same_read y z e = cc
both_read s (Err y) x e h = absurd cc

not_read : (s : Source) (r : Result Source Stop) (x : Stop) → r ≡ Ok s → r ≡ Err x → ⊥
not_read s (Ok y) x e h = absurd cc
not_read s (Err y) x e h = absurd cc

pub told_only : (r : Result written.Source FormsError) (bytes : List ℕ) → Tells r (whole source bytes) (length bytes) → (s : Source) → IsFormText s bytes → IsReadAs r s
told_only (Ok a) bytes e s w = both_read (plain_source a) (whole source bytes) s e (only bytes s w)
told_only (Err (error.NotForms n)) bytes e s w = not_read s (whole source bytes) e.0 (only bytes s w) e.1
told_only (Err error.Memory) bytes e s w = tt

pub told_refused : (r : Result written.Source FormsError) (bytes : List ℕ) → Tells r (whole source bytes) (length bytes) → IfErr r (λ e. IfNotForms e (IsRefusedAt bytes))
told_refused (Ok a) bytes e = tt
told_refused (Err (error.NotForms n)) bytes e = subst (IsRefusedAt bytes) (sym e.2) (refused bytes e.0 e.1)
told_refused (Err error.Memory) bytes e = tt
