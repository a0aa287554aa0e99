use Rattle.pl_laws.proofs.GoodLaws.{good}
use Rattle.pl_laws.proofs.laws.run_laws.Goals as goal

pub returns : goal.returns
returns c = record { good = good }
