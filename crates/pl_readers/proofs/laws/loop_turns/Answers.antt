use Rattle.pl_readers.proofs.Turns.{turn-goes, turn-stops, turn-ends}
use Rattle.pl_readers.proofs.laws.loop_turns.Goals as goal

pub returns-clause-goes : goal.returns-clause-goes
returns-clause-goes g c test goes p starts front a rest after b e = turn-goes test _ _ goes _ p starts front a rest after b e

pub returns-clause-stops : goal.returns-clause-stops
returns-clause-stops g c test goes p starts front rest s b e = turn-stops test _ _ goes _ p starts front rest s b e

pub returns-clause-ends : goal.returns-clause-ends
returns-clause-ends g c test goes p starts front rest b = turn-ends test _ _ goes _ p starts front rest b
