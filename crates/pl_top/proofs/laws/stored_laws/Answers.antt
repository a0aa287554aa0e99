use Rattle.pl_top.proofs.Stored.{stored_follows}
use Rattle.pl_top.proofs.laws.stored_laws.Goals as goal

pub returns : goal.returns
returns c = stored_follows
