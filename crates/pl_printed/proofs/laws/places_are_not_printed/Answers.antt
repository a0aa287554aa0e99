use Rattle.pl_printed.proofs.Alike.{printed_alike}
use Rattle.pl_printed.proofs.laws.places_are_not_printed.Goals as goal

pub returns : goal.returns
returns c = printed_alike
