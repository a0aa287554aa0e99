use Rattle.pl_readers.proofs.Firsts.{Reads-wider}
use Rattle.pl_readers.proofs.laws.looser_reads.Goals as goal

pub returns-clause-wider : goal.returns-clause-wider
returns-clause-wider g c goes wider p = Reads-wider _ _ _ goes _ wider p
