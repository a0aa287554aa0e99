use Rattle.std.proofs.Common.{Ok, Err}
use Rattle.std.proofs.lemmas.Result.{err_from_is_err_and}
use Rattle.pl_files.proofs.Answering.{lexed_all, no_program, parsed_all, unparsed_all}
use Rattle.pl_files.proofs.reading.parse_file.Goals as goal

pub returns-in_err-tokens-clause-all_files : goal.returns-in_err-tokens-clause-all_files
returns-in_err-tokens-clause-all_files c = λ p f.
    let out = err_from_is_err_and c.from_residual.result c.from_residual.ensures.1 in
    rw (out.1, out.2) (lexed_all c.args.bytes.now c.in_err-tokens.field-0.0 p f c.in_err-tokens.ensures.all_tokens)

pub returns-in_err-parse-clause-refusal : goal.returns-in_err-parse-clause-refusal
returns-in_err-parse-clause-refusal c =
    let out = err_from_is_err_and c.from_residual-in_err-parse.result c.from_residual-in_err-parse.ensures.1 in
    rw (out.1, out.2) (no_program c.args.bytes.now c.in_ok-tokens.tokens c.in_err-parse.field-0.0 c.in_ok-tokens.ensures.tokens c.in_err-parse.ensures.refusal)

pub returns-in_err-parse-clause-all_files : goal.returns-in_err-parse-clause-all_files
returns-in_err-parse-clause-all_files c = λ p f.
    let out = err_from_is_err_and c.from_residual-in_err-parse.result c.from_residual-in_err-parse.ensures.1 in
    let was = parsed_all c.args.bytes.now c.in_ok-tokens.tokens p (Err c.in_err-parse.field-0.0) f c.in_ok-tokens.ensures.all_tokens c.in_err-parse.ensures.all_programs in
    rw (out.1, out.2) (unparsed_all c.in_err-parse.field-0.0 p was)

pub returns-clause-all_files : goal.returns-clause-all_files
returns-clause-all_files c = λ p f.
    parsed_all c.args.bytes.now c.in_ok-tokens.tokens p (Ok c.in_ok-parse.field-0) f c.in_ok-tokens.ensures.all_tokens c.in_ok-parse.ensures.all_programs
