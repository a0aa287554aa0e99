use Rattle.pl_grammar.proofs.Divisors.{part_is}
use Rattle.pl_grammar.proofs.perms.part.Goals as goal

pub returns-clause-value : goal.returns-clause-value
returns-clause-value c = part_is c.args.n c.args.d c.in-Some.part c.requires c.in-Some.ensures.exact.1
