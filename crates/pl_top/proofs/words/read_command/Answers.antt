use Rattle.std.proofs.Common.{sym, ap, ◌∙◌}
use Rattle.std.specs.Prelude.{string_bytes}
use Rattle.pl_top.specs.Words.{is_built}
use Rattle.pl_top.proofs.Built.{built_words}
use Rattle.pl_top.proofs.words.read_command.Goals as goal

pub returns-then-is_built-clause-built : goal.returns-then-is_built-clause-built
returns-then-is_built-clause-built c =
    built_words string_bytes c.args.words.now c.first-item.result c.read_words.result c.in-len1-up.len_at_least c.first-item.is
    (sym (ap is_built c.as_str.ensures.value) ∙ sym c.is_built.ensures ∙ c.if-is_built.true) c.read_words.ensures.told
