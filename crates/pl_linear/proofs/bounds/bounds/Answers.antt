use Rattle.pl_linear.proofs.Listing.{all_given}
use Rattle.pl_linear.proofs.bounds.bounds.Goals as goal

pub returns-clause-given : goal.returns-clause-given
returns-clause-given c = all_given c.args.eqs.now c.args.facts.now c.args.goal.now c.in_ok-out.out.items c.in_ok-last.last c.push.new.self.items c.in_ok-push.ensures.items c.in_ok-out.ensures.given (c.in_ok-last.ensures.given c.args.facts.now)
