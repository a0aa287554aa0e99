use Rattle.pl_printed.proofs.Programs.{program_printed}
use Rattle.pl_printed.proofs.laws.printed_is_read.Goals as goal

pub returns : goal.returns
returns c = program_printed
