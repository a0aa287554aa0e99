use Rattle.std.proofs.Common.{◌≡◌, ◌^◌, ◌<◌, drop}
use Rattle.pl_readers.specs.Bytes.{value_from}
use Rattle.pl_lexer.proofs.kinds.value.Given as goal

abbrev pub invariant-loop-c : goal.invariant-loop-c
invariant-loop-c l = record {
  same : value_from l.value (drop l.c-index l.digits) ≡ value_from 0 l.digits;
  below : l.value < 2 ^ 127;
}
