use Rattle.pl_readers.proofs.Correct.{Reads-then}
use Rattle.pl_readers.proofs.laws.then_reads.Goals as goal

pub returns : goal.returns
returns g c goes then_goes p q some follows = Reads-then _ _ _ _ goes then_goes _ _ p q some follows
