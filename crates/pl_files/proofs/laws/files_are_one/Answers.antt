use Rattle.pl_grammar.proofs.Answered.{only}
use Rattle.pl_files.proofs.OneFile.{one_program}
use Rattle.pl_files.proofs.laws.files_are_one.Goals as goal

pub returns : goal.returns
returns c = one_program only
