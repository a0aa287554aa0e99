-- Between the text of a program and the text of what is written.
use Rattle.std.proofs.Common.{◌≡◌, ◌∙◌, sym, ap, ℕ, List}
use Rattle.pl_lexer.specs.Proper.{IsName}
use Rattle.c_syntax.specs.Fragment.{IsText}
use Rattle.c_syntax.specs.Rules.{KeepsRules}
use Rattle.c_syntax.specs.Tree as t
use Rattle.c_forms.specs.Forms.{IsForm, IsFormText}
use Rattle.c_forms.specs.Text.{source_text}
use Rattle.c_forms.specs.Tree as w
use Rattle.c_reader.specs.Standing.{program_of}
use Rattle.c_reader.proofs.FormsKept.{forms_kept, names_kept}
use Rattle.c_reader.proofs.TextSame.{text_same}
use Rattle.c_reader.proofs.Written as written

-- a text of the forms is the text of the program for which it stands, where that program keeps the rules and is written again as it was
pub is_text : (s : w.Source) (bytes : List ℕ) → IsFormText s bytes → KeepsRules (program_of s) → written.source (program_of s) ≡ s → IsText IsName bytes (program_of s)
is_text s bytes h rules again =
    let form = forms_kept s h.forms rules again in
    record {
      fragment = record { forms = form; rules = rules };
      names = names_kept s h.forms rules again;
      text = h.text ∙ ap source_text (sym again) ∙ text_same (program_of s) form;
    }

-- a program's text is the text of what is written in it
pub is_form_text : (p : t.Program) (bytes : List ℕ) → IsText IsName bytes p → IsForm (written.source p) → IsFormText (written.source p) bytes
is_form_text p bytes h form = record { forms = form; text = h.text ∙ sym (text_same p h.fragment.forms) }
