-- What is written by the forms stands for a program of the forms, with names for its names, where that program keeps the rules and is written again as it was.
use Rattle.std.proofs.Common.{◌≡◌, sym, subst}
use Rattle.pl_lexer.specs.Proper.{IsName}
use Rattle.c_syntax.specs.Forms.{IsProgramForm}
use Rattle.c_syntax.specs.Names.{ProgramNames}
use Rattle.c_syntax.specs.Rules.{KeepsRules}
use Rattle.c_forms.specs.Forms.{IsForm}
use Rattle.c_forms.specs.Tree as w
use Rattle.c_reader.specs.Standing.{program_of}
use Rattle.c_reader.proofs.FormsBack.{ProgramBack, forms_back}
use Rattle.c_reader.proofs.FormsHeads.{heads_kept}
use Rattle.c_reader.proofs.Written as written

kept : (s : w.Source) → IsForm s → KeepsRules (program_of s) → written.source (program_of s) ≡ s → ProgramBack (program_of s)
kept s h rules again = forms_back (program_of s) rules (heads_kept s) (subst IsForm (sym again) h)

pub forms_kept : (s : w.Source) → IsForm s → KeepsRules (program_of s) → written.source (program_of s) ≡ s → IsProgramForm (program_of s)
forms_kept s h rules again = (kept s h rules again).form

pub names_kept : (s : w.Source) → IsForm s → KeepsRules (program_of s) → written.source (program_of s) ≡ s → ProgramNames IsName (program_of s)
names_kept s h rules again = (kept s h rules again).names
