use Rattle.pl_readers.proofs.Correct.{Reads-deep}
use Rattle.pl_readers.proofs.laws.deep_reads.Goals as goal

pub returns : goal.returns
returns g c test goes q some opens others = Reads-deep test g.P.Format.texts _ _ _ goes g.P.Format.reader _ q some opens others
