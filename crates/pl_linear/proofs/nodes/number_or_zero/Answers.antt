use Rattle.std.proofs.Common.{◌<◌, rules}
use Rattle.pl_linear.proofs.Listing.{place_small}
use Rattle.pl_linear.proofs.nodes.number_or_zero.Goals as goal

pub overflow_cast-result : goal.overflow_cast-result
overflow_cast-result c =
    let low : c.in-Some.k < 4096 = place_small c.in-Some.k c.args.node.now c.args.nodes.now (search rules) c.requires in
    search rules
