use Rattle.std.proofs.Common.{◌≡◌, ◌++◌, map, drop}
use Rattle.c_forms.specs.Plain as written
use Rattle.c_syntax.specs.Plain.{plain_expr}
use Rattle.c_reader.specs.Standing.{expr_of}
use Rattle.c_reader.proofs.exprs.exprs_of.Given as goal

abbrev pub invariant-loop-e : goal.invariant-loop-e
invariant-loop-e l = map plain_expr l.made.items ++ map expr_of (map written.plain_expr (drop l.e-index l.list)) ≡ map expr_of (map written.plain_expr l.list)
