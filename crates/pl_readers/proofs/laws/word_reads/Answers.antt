use Rattle.pl_readers.proofs.Exact.{Reads-word}
use Rattle.pl_readers.proofs.laws.word_reads.Goals as goal

pub returns : goal.returns
returns c s goes = Reads-word s goes
