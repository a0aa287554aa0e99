use Rattle.pl_files.proofs.FileNames.{names_proper}
use Rattle.pl_files.proofs.laws.names_are_proper.Goals as goal

pub returns : goal.returns
returns c = names_proper
