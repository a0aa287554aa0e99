use Rattle.std.proofs.Common.{◌≡◌, ◌^◌, ◌<◌, drop}
use Rattle.pl_readers.specs.Bytes.{value_from}
use Rattle.c_forms.proofs.words.small.Given as goal

abbrev pub invariant-loop-digit : goal.invariant-loop-digit
invariant-loop-digit l = record {
  same : value_from l.value (drop l.digit-index l.digits) ≡ value_from 0 l.digits;
  below : l.value < 2 ^ 32;
}
