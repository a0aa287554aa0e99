use Rattle.std.proofs.Common.{length}
use Rattle.c_history.proofs.numbers.+digits.Given as goal

abbrev pub decreases-digits : goal.decreases-digits
decreases-digits l = length l.bytes.now
