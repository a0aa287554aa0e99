use Rattle.std.proofs.Common.{◌≡◌, ◌++◌, map, drop}
use Rattle.std.specs.Prelude.{codes}
use Rattle.pl_print.specs.Lists.{each_behind}
use Rattle.pl_syntax.specs.Plain.{plain_expr}
use Rattle.pl_print.specs.ExprText.{value_text}
use Rattle.pl_print.proofs.terms.put_arguments.Given as goal

abbrev pub invariant-loop-e : goal.invariant-loop-e
invariant-loop-e l =
    l.out.items ++ each_behind (codes ", ") (map value_text (map plain_expr (drop l.e-index l.others)))
    ≡ l.initial.out.items ++ each_behind (codes ", ") (map value_text (map plain_expr l.others))
