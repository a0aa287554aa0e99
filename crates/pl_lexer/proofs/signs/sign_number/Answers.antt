use Rattle.std.proofs.Common.{sym, ◌∙◌}
use Rattle.pl_lexer.proofs.Numbers.{word_number, symbol_number}
use Rattle.pl_lexer.proofs.signs.sign_number.Goals as goal

pub returns-then-begins_identifier : goal.returns-then-begins_identifier
returns-then-begins_identifier c =
    c.word_number.ensures ∙ rw c.requires (sym (word_number c.args.lexeme.now (sym c.begins_identifier.ensures ∙ c.if-begins_identifier.true)))

pub returns-else-begins_identifier : goal.returns-else-begins_identifier
returns-else-begins_identifier c =
    c.symbol_number.ensures ∙ rw c.requires (sym (symbol_number c.args.lexeme.now (sym c.begins_identifier.ensures ∙ c.if-begins_identifier.false)))
