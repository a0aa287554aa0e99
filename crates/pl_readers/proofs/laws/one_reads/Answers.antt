use Rattle.pl_readers.proofs.Correct.{Reads-one}
use Rattle.pl_readers.proofs.laws.one_reads.Goals as goal

pub returns : goal.returns
returns g c f goes w = Reads-one f goes w
