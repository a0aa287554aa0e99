use Rattle.std.proofs.Common.{sym, ap, ◌∙◌}
use Rattle.std.proofs.Common.{Err, inl}
use Rattle.pl_lexer.specs.declared.error.LexError.TheVariants as e
use Rattle.pl_lexer.proofs.Once.{only_tokens, only_refusals, refused_once}
use Rattle.std.specs.Str.{chars, IsUtf8}
use Rattle.std.proofs.lemmas.Str.{encodes-chars, scalars-chars}
use Rattle.pl_lexer.proofs.lexing.lex.Goals as goal

pub lex_text-requires-clause-spelled : goal.lex_text-requires-clause-spelled
lex_text-requires-clause-spelled c =
    let text = c.in-Ok.ensures.cases in
    let utf8 : IsUtf8 c.in-Ok.text.now = rw text.0 text.1 in
    sym (encodes-chars c.in-Ok.text.now utf8) ∙ rw (c.as_slice.ensures.value, c.in_ok-characters-in-Ok.ensures)

pub lex_text-requires-clause-scalars : goal.lex_text-requires-clause-scalars
lex_text-requires-clause-scalars c =
    let text = c.in-Ok.ensures.cases in
    let utf8 : IsUtf8 c.in-Ok.text.now = rw text.0 text.1 in
    rw (c.as_slice.ensures.value, c.in_ok-characters-in-Ok.ensures) (scalars-chars c.in-Ok.text.now utf8)

pub returns-in-Err-clause-all_refusals : goal.returns-in-Err-clause-all_refusals
returns-in-Err-clause-all_refusals c error sure refusal =
    inl (ap Err (refused_once c.args.bytes.now (e.BadUtf8 c.valid_up_to.result) error (λ h. cc) sure (rw c.valid_up_to.ensures c.in-Err.ensures.cases.1) refusal))

pub returns-in_ok-characters-in-Ok-clause-all_tokens :
    goal.returns-in_ok-characters-in-Ok-clause-all_tokens
returns-in_ok-characters-in-Ok-clause-all_tokens c =
    let text = c.in-Ok.ensures.cases in
    only_tokens c.args.bytes.now c.as_slice.result.now c.lex_text.result text.1 (c.as_slice.ensures.value ∙ c.in_ok-characters-in-Ok.ensures ∙ ap chars text.0) c.lex_text.ensures.tokens c.lex_text.ensures.refusal

pub returns-in_ok-characters-in-Ok-clause-all_refusals :
    goal.returns-in_ok-characters-in-Ok-clause-all_refusals
returns-in_ok-characters-in-Ok-clause-all_refusals c =
    let text = c.in-Ok.ensures.cases in
    only_refusals c.args.bytes.now c.as_slice.result.now c.lex_text.result text.1 (c.as_slice.ensures.value ∙ c.in_ok-characters-in-Ok.ensures ∙ ap chars text.0) c.lex_text.ensures.tokens c.lex_text.ensures.refusal
