use Rattle.std.proofs.Common.{ap, ◌∙◌}
use Rattle.std.proofs.lemmas.Result.{err_from_is_err_and}
use Rattle.pl_syntax.specs.Plain.{plain_program}
use Rattle.pl_files.proofs.Answering.{typed_all}
use Rattle.pl_files.proofs.reading.read_file.Goals as goal

pub returns-in_err-program-clause-all_files : goal.returns-in_err-program-clause-all_files
returns-in_err-program-clause-all_files c = λ p f.
    let out = err_from_is_err_and c.from_residual.result c.from_residual.ensures.1 in
    rw (out.1, out.2) (c.in_err-program.ensures.all_files p f.file)

pub returns-in_err-type_check-clause-all_files : goal.returns-in_err-type_check-clause-all_files
returns-in_err-type_check-clause-all_files c = λ p f.
    let out = err_from_is_err_and c.from_residual-in_err-type_check.result c.from_residual-in_err-type_check.ensures.1 in
    let same = c.in_ok-program.ensures.all_files p f.file in
    rw (out.1, out.2) (typed_all p (plain_program c.in_ok-program.program) c.in_err-type_check.field-0.0 same f.typed c.in_err-type_check.ensures)

pub returns-clause-all_files : goal.returns-clause-all_files
returns-clause-all_files c = λ p f. ap plain_program c.in_ok-type_check.ensures.0 ∙ c.in_ok-program.ensures.all_files p f.file
