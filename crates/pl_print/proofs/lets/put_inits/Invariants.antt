use Rattle.std.proofs.Common.{◌≡◌, ◌++◌, map, drop}
use Rattle.std.specs.Prelude.{codes}
use Rattle.pl_print.specs.Lists.{each_behind}
use Rattle.pl_syntax.specs.Plain.{plain_init}
use Rattle.pl_print.specs.StmtText.{init_text}
use Rattle.pl_print.proofs.lets.put_inits.Given as goal

abbrev pub invariant-loop-init : goal.invariant-loop-init
invariant-loop-init l =
    l.out.items ++ each_behind (codes ", ") (map init_text (map plain_init (drop l.init-index l.others)))
    ≡ l.initial.out.items ++ each_behind (codes ", ") (map init_text (map plain_init l.others))
