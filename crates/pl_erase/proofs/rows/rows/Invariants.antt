use Rattle.std.proofs.Common.{◌≡◌, ◌++◌, map, drop}
use Rattle.pl_syntax.specs.Plain as source
use Rattle.c_syntax.specs.Plain as c
use Rattle.pl_erase.specs.Emitted.{emitted_all, no_numbers}
use Rattle.pl_erase.specs.Built.{numbers_of}
use Rattle.pl_erase.proofs.rows.rows.Given as goal

-- the rows so far, and then those of the statements that are left
abbrev pub invariant-loop-stmt : goal.invariant-loop-stmt
invariant-loop-stmt l = map c.plain_stmt l.rows.items ++ emitted_all l.binders.next (numbers_of l.binders) (map source.plain_stmt (drop l.stmt-index l.list)) ≡ emitted_all 1 no_numbers (map source.plain_stmt l.list)
