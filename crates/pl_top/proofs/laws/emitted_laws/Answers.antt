use Rattle.pl_top.proofs.Again.{emitted_runs}
use Rattle.pl_top.proofs.laws.emitted_laws.Goals as goal

pub returns : goal.returns
returns c = emitted_runs c.straight_laws.ensures.straight
