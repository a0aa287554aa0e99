use Rattle.pl_printed.proofs.Programs.{only_program}
use Rattle.pl_printed.proofs.laws.printed_is_read_once.Goals as goal

pub returns : goal.returns
returns c = only_program
