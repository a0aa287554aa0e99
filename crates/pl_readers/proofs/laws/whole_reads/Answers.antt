use Rattle.pl_readers.proofs.Correct.{whole-found, whole-only, whole-refused}
use Rattle.pl_readers.proofs.Levels.{refused_at}
use Rattle.pl_readers.proofs.laws.whole_reads.Goals as goal

pub returns-clause-found : goal.returns-clause-found
returns-clause-found g c goes xs a p e = whole-found _ _ goes _ p xs a e

pub returns-clause-only : goal.returns-clause-only
returns-clause-only g c goes xs a p t = whole-only _ _ goes _ p xs a t

pub returns-clause-refused : goal.returns-clause-refused
returns-clause-refused g c goes xs s p e = refused_at _ _ xs s (whole-refused _ _ goes _ p xs s e)
