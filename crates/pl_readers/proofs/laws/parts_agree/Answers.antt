use Rattle.pl_readers.proofs.Levels.{Agrees-repeat}
use Rattle.pl_readers.proofs.laws.parts_agree.Goals as goal

pub returns-clause-repeat : goal.returns-clause-repeat
returns-clause-repeat g c test goes p starts p2 starts2 a = Agrees-repeat test _ _ _ _ goes _ _ p p2 starts starts2 a
