use Rattle.std.proofs.Common.{◌≡◌, ◌++◌, drop}
use Rattle.pl_syntax.specs.Plain.{plain_stmts}
use Rattle.pl_print.specs.StmtText.{lines_text, loads_text}
use Rattle.pl_print.proofs.stmts.+stmt.Given as goal

abbrev pub invariant-put_loads-loop-s : goal.invariant-put_loads-loop-s
invariant-put_loads-loop-s l =
    l.out.items ++ loads_text l.level (plain_stmts (drop l.s-index l.loads)) ≡ l.initial.out.items ++ loads_text l.level (plain_stmts l.loads)

abbrev pub invariant-put_lines-loop-s : goal.invariant-put_lines-loop-s
invariant-put_lines-loop-s l =
    l.out.items ++ lines_text l.level (plain_stmts (drop l.s-index l.list)) ≡ l.initial.out.items ++ lines_text l.level (plain_stmts l.list)
