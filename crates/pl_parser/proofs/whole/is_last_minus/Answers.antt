use Rattle.std.proofs.Common.{◌∙◌, sym, ap}
use Rattle.pl_grammar.specs.Signs.{sign, number, token_in}
use Rattle.pl_readers.specs.Reader.{begins}
use Rattle.pl_parser.proofs.Refusing.{minus_told, no_minus, no_apart}
use Rattle.pl_parser.proofs.whole.is_last_minus.Goals as goal

pub returns : goal.returns
returns c =
    minus_told c.args.tokens.now c.split_at-2.result.0.now c.args.k c.split_at-2.ensures.front c.split_at-2.ensures.front_len c.name_wants_level.result
    (ap (begins (token_in (sign 16))) (sym c.split_at.ensures.back) ∙ sym c.begins.ensures ∙ c.if-not-begins.false)
    (ap (begins (token_in number)) (sym c.split_at-2.ensures.back) ∙ sym c.begins_number.ensures ∙ c.if-begins_number.false)
    c.name_wants_level.ensures

pub returns-then-not-begins : goal.returns-then-not-begins
returns-then-not-begins c = no_minus c.args.tokens.now c.args.k (ap (begins (token_in (sign 16))) (sym c.split_at.ensures.back) ∙ sym c.begins.ensures ∙ c.if-not-begins.true)

pub returns-then-begins_number : goal.returns-then-begins_number
returns-then-begins_number c = no_apart c.args.tokens.now c.args.k (ap (begins (token_in number)) (sym c.split_at-2.ensures.back) ∙ sym c.begins_number.ensures ∙ c.if-begins_number.true)
