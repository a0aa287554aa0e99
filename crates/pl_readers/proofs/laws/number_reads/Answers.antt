use Rattle.pl_readers.proofs.Exact.{Reads-number}
use Rattle.pl_readers.proofs.laws.number_reads.Goals as goal

pub returns : goal.returns
returns c limit ten = Reads-number limit ten
