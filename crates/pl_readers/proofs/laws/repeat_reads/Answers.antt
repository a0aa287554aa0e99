use Rattle.pl_readers.proofs.Correct.{Reads-repeat}
use Rattle.pl_readers.proofs.laws.repeat_reads.Goals as goal

pub returns : goal.returns
returns g c test goes ends p starts no_more less another = Reads-repeat test _ _ goes _ p starts ends no_more less another
