use Rattle.std.proofs.Common.{◌≡◌, ◌++◌, map, drop}
use Rattle.std.specs.Prelude.{codes}
use Rattle.pl_print.specs.Lists.{each_behind}
use Rattle.pl_print.specs.StmtText.{term_text}
use Rattle.pl_print.proofs.simple.put_terms.Given as goal

abbrev pub invariant-loop-term : goal.invariant-loop-term
invariant-loop-term l =
    l.out.items ++ each_behind (codes " + ") (map term_text (drop l.term-index l.others))
    ≡ l.initial.out.items ++ each_behind (codes " + ") (map term_text l.others)
