use Rattle.std.proofs.Common.{rules}
use Rattle.pl_linear.proofs.Listing.{opposite_made}
use Rattle.pl_linear.proofs.ends.opposite_of.Goals as goal

pub returns-clause-form : goal.returns-clause-form
returns-clause-form c = opposite_made c.args.form.now _ _ c.requires (search rules) (search rules)
