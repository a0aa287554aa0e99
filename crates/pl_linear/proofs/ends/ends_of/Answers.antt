use Rattle.pl_linear.proofs.Splitting.{ends_value}
use Rattle.pl_linear.proofs.ends.ends_of.Goals as goal

pub returns-clause-value : goal.returns-clause-value
returns-clause-value c = ends_value c.args.parts.now _ c.split_parts.ensures
