use Rattle.pl_readers.proofs.Levels.{whole-none}
use Rattle.pl_readers.proofs.laws.whole_none.Goals as goal

pub returns : goal.returns
returns g c goes reads agrees n m xs s e d = whole-none g.P.LeveledFormat.texts goes g.P.LeveledFormat.reader reads agrees n m xs s e d
