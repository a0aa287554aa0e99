use Rattle.pl_laws.proofs.SameLaws.{same_runs, sound}
use Rattle.pl_laws.proofs.laws.same_run_laws.Goals as goal

pub returns-clause-same : goal.returns-clause-same
returns-clause-same c = same_runs

pub returns-clause-sound : goal.returns-clause-sound
returns-clause-sound c = sound
