use Rattle.std.proofs.Common.{◌∙◌, sym}
use Rattle.std.proofs.lemmas.Result.{err_from_is_err_and}
use Rattle.c_reader.proofs.Joined.{found_read, only_breach, only_forms, only_read, written_text}
use Rattle.c_reader.proofs.Written.{source}
use Rattle.c_reader.proofs.read.read_c.Goals as goal

pub returns-in_err-source-clause-only : goal.returns-in_err-source-clause-only
returns-in_err-source-clause-only c = λ p text.
    let out = err_from_is_err_and c.from_residual.result c.from_residual.ensures.1 in
    let read = c.in_err-source.ensures.only (source p) (written_text c.args.bytes.now p text c.requires) in
    rw (out.1, out.2) (only_forms _ (source p) p read)

pub returns-in-Some-clause-only : goal.returns-in-Some-clause-only
returns-in-Some-clause-only c = λ p text.
    let read = c.in_ok-source.ensures.only (source p) (written_text c.args.bytes.now p text c.requires) in
    only_breach c.args.bytes.now p text _ _ read (sym c.in-Some.is ∙ c.in_ok-place.ensures)

pub returns-clause-found : goal.returns-clause-found
returns-clause-found c =
    found_read c.args.bytes.now _ _ c.in_ok-source.ensures.found (sym c.in_default.is ∙ c.in_ok-place.ensures) c.in_ok-program_from.ensures

pub returns-clause-only : goal.returns-clause-only
returns-clause-only c = λ p text.
    let read = c.in_ok-source.ensures.only (source p) (written_text c.args.bytes.now p text c.requires) in
    only_read c.args.bytes.now p text _ _ read c.in_ok-program_from.ensures
