use Rattle.std.proofs.Common.{drop, map}
use Rattle.std.specs.List.{AllByRecursion}
use Rattle.c_syntax.specs.Forms.{IsExprForm}
use Rattle.c_syntax.specs.Plain.{plain_expr}
use Rattle.c_text.proofs.tests.forms.are_exprs.Given as goal

abbrev pub invariant-loop-e : goal.invariant-loop-e
invariant-loop-e l = AllByRecursion IsExprForm (map plain_expr (drop l.e-index l.list)) → AllByRecursion IsExprForm (map plain_expr l.list)
