use Rattle.std.proofs.Common.{◌≡◌, ◌++◌}
use Rattle.pl_print.specs.Lists.{indent}
use Rattle.pl_print.proofs.words.put_indent.Given as goal

abbrev pub invariant-loop : goal.invariant-loop
invariant-loop l = l.out.items ≡ l.initial.out.items ++ indent l.counter
