use Rattle.std.proofs.Common.{◌≡◌, ◌≤◌, ◌^◌, drop}
use Rattle.pl_base.specs.Tokens as spelling
use Rattle.pl_top.proofs.input.value_of.Given as goal

abbrev pub invariant-loop-byte : goal.invariant-loop-byte
invariant-loop-byte l = record {
  same : spelling.digits_onto 0 l.digits ≡ spelling.digits_onto l.value (drop l.byte-index l.digits);
  small : l.value ≤ 2 ^ 63;
}
