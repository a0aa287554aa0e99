use Rattle.pl_readers.proofs.Correct.{Reads-mapped}
use Rattle.pl_readers.proofs.laws.mapped_reads.Goals as goal

pub returns : goal.returns
returns g c f goes p = Reads-mapped f _ _ goes _ p
