use Rattle.std.proofs.Common.{◌≡◌, true, sym, ◌∙◌, ap}
use Rattle.pl_words.specs.Numbers.{is_numeral}
use Rattle.pl_words.proofs.Numerals.{refuted}
use Rattle.pl_words.proofs.numbers.number_of.Goals as goal

pub returns-in-Err : goal.returns-in-Err
returns-in-Err c =
    let e : is_numeral c.args.word.now ≡ true = ap is_numeral (sym c.as_bytes.ensures.value) ∙ sym c.is_numeral.ensures ∙ c.if-not-is_numeral.false in
    absurd (refuted c.args.word.now c.parse.result c.in-Err.field-0 c.parse.ensures.value.0 e c.in-Err.is)
