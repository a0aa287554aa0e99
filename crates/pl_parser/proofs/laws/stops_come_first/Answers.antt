use Rattle.pl_parser.proofs.First.{stays_behind, stops_first}
use Rattle.pl_parser.proofs.laws.stops_come_first.Goals as goal

pub returns-clause-same : goal.returns-clause-same
returns-clause-same c = λ xs more k b v less. stays_behind xs more k b v less

pub returns-clause-first : goal.returns-clause-first
returns-clause-first c = stops_first
