use Rattle.pl_readers.proofs.Correct.{Reads-either}
use Rattle.pl_readers.proofs.laws.either_reads.Goals as goal

pub returns : goal.returns
returns g c test goes p q starts others = Reads-either test _ _ _ _ goes _ _ p q starts others
