use Rattle.std.proofs.Common.{◌≡◌, ◌≤◌, ◌+◌, length}
use Rattle.pl_top.specs.Input as text
use Rattle.pl_top.proofs.InputLines.{onto}
use Rattle.pl_top.proofs.input.read_numbers.Given as goal

abbrev pub invariant-loop-rest : goal.invariant-loop-rest
invariant-loop-rest l = record {
  read : text.input_of l.bytes ≡ onto l.numbers.items (text.numbers_from l.line (text.lines_of l.rest));
  few : l.line + length l.rest ≤ 1 + length l.bytes;
  short : length l.bytes ≤ 1048576;
}

abbrev pub decreases-loop-rest : goal.decreases-loop-rest
decreases-loop-rest l = length l.rest
