use Rattle.std.proofs.Common.{◌≡◌, Ok, Some, Global, string_bytes, sym, ◌∙◌, ap, arith, true, false}
use Rattle.pl_words.specs.Steps.{said_of}
use Rattle.pl_words.specs.Table.{row_of}
use Rattle.pl_words.specs.Words.{is_dashed, plain_word, option_word}
use Rattle.pl_words.proofs.Walking.{plain_step, option_step}
use Rattle.pl_words.proofs.words.behind.Goals as goal

pub loop-rest-preserved : goal.loop-rest-preserved
loop-rest-preserved c =
    let x = c.word-item.result in
    let dashed : is_dashed (string_bytes x) ≡ false = ap is_dashed (sym c.as_str-word.ensures.value) ∙ sym c.is_dashed.ensures ∙ c.if-is_dashed.false in
    let told : plain_word (row_of c.args.verb).plain c.loop-rest.place (said_of c.loop-rest.read) (string_bytes x) ≡ Ok (said_of c.in_ok-read.read) =
    rw (sym c.row-row.ensures, sym c.as_str-word.ensures.value) c.in_ok-read.ensures.told in
    record {
      same = c.loop-rest.invariant.same ∙ plain_step (string_bytes {Z = Global}) c.args.verb c.loop-rest.place (said_of c.loop-rest.read) (said_of c.in_ok-read.read) c.loop-rest.rest.now x c.in-len1-up.len_at_least c.word-item.is dashed told;
      row = c.loop-rest.invariant.row;
      small = omega (arith, c.loop-rest.invariant.small, c.in_ok-read.ensures.counted);
    }

pub loop-rest-preserved-in-len1-up-after : goal.loop-rest-preserved-in-len1-up-after
loop-rest-preserved-in-len1-up-after c =
    let x = c.word-item.result in
    let v = c.value-item.result in
    let read = c.in_ok-read-in-len1-up-after in
    let dashed : is_dashed (string_bytes x) ≡ true = ap is_dashed (sym c.as_str-word.ensures.value) ∙ sym c.is_dashed.ensures ∙ c.if-is_dashed.true in
    let told : option_word (row_of c.args.verb) c.loop-rest.place (said_of c.loop-rest.read) (string_bytes x) (Some (string_bytes v)) ≡ Ok (said_of read.read) =
    rw (sym c.row-row.ensures, sym c.as_str-word.ensures.value, sym c.as_str.ensures.value) read.ensures.told in
    record {
      same = c.loop-rest.invariant.same ∙ option_step (string_bytes {Z = Global}) c.args.verb c.loop-rest.place (said_of c.loop-rest.read) (said_of read.read) c.loop-rest.rest.now x v c.in-len1-up.len_at_least c.word-item.is c.in-len1-up-after.len_at_least c.value-item.is dashed told;
      row = c.loop-rest.invariant.row;
      small = omega (arith, c.loop-rest.invariant.small, read.ensures.counted);
    }
