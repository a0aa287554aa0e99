use Rattle.std.proofs.Common.{length}
use Rattle.pl_readers.proofs.bytes.+word.Given as goal

abbrev pub decreases-word : goal.decreases-word
decreases-word l = length l.bytes.now
