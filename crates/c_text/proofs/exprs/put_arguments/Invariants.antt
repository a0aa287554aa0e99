use Rattle.std.proofs.Common.{◌≡◌, ◌++◌, map, drop}
use Rattle.c_syntax.specs.Plain.{plain_expr}
use Rattle.c_syntax.specs.Text.{expr_text, behind_commas}
use Rattle.c_text.proofs.exprs.put_arguments.Given as goal

abbrev pub invariant-loop-e : goal.invariant-loop-e
invariant-loop-e l =
    l.out.items ++ behind_commas (map expr_text (map plain_expr (drop l.e-index l.others)))
    ≡ l.initial.out.items ++ behind_commas (map expr_text (map plain_expr l.others))
