use Rattle.std.proofs.Common.{◌≡◌, ◌++◌, ◌+◌, map, drop}
use Rattle.c_syntax.specs.Plain.{plain_expr}
use Rattle.c_syntax.specs.Text.{argument_lines}
use Rattle.c_text.proofs.stmts.put_argument_lines.Given as goal

abbrev pub invariant-loop-i : goal.invariant-loop-i
invariant-loop-i l =
    l.out.items ++ argument_lines l.level (l.i + 1) (map plain_expr (drop l.i l.args)) ≡ l.initial.out.items ++ argument_lines l.level 1 (map plain_expr l.args)
