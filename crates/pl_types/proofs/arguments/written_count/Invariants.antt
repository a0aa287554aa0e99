use Rattle.std.proofs.Common.{◌≡◌, ◌+◌, ◌≤◌, length, drop}
use Rattle.pl_syntax.specs.Known.{written}
use Rattle.pl_types.proofs.arguments.written_count.Given as goal

abbrev pub invariant-loop-b : goal.invariant-loop-b
invariant-loop-b l = record {
  most : l.count ≤ l.b-index;
  count : l.count + length (written (drop l.b-index l.params)) ≡ length (written l.params);
}
