use Rattle.std.proofs.Common.{◌≡◌, drop}
use Rattle.pl_syntax.specs.Known.{written}
use Rattle.pl_types.proofs.arguments.next_written.Given as goal

abbrev pub invariant-loop-i : goal.invariant-loop-i
invariant-loop-i l = written (drop l.i l.params) ≡ written l.params
