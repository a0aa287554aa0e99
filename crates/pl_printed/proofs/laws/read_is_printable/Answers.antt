use Rattle.pl_printed.proofs.ReadFiles.{read_printable}
use Rattle.pl_printed.proofs.laws.read_is_printable.Goals as goal

pub returns : goal.returns
returns c = read_printable
