use Rattle.pl_syntax.proofs.StraightLaws.{typed_built, straight_typed, straight_built}
use Rattle.pl_syntax.proofs.laws.straight_laws.Goals as goal

pub returns-clause-straight : goal.returns-clause-straight
returns-clause-straight c = typed_built

pub returns-clause-typed : goal.returns-clause-typed
returns-clause-typed c = straight_typed

pub returns-clause-built : goal.returns-clause-built
returns-clause-built c = straight_built
