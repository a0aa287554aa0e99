use Rattle.std.proofs.Common.{arith}
use Rattle.pl_jobs.proofs.Moves.{learns}
use Rattle.pl_jobs.proofs.counter.learn.Goals as goal

pub load-requires : goal.load-requires
load-requires c = (c.requires.table.0, omega (arith, c.requires.table.1), learns c.args.counter.now.key.0 c.args.counter.now.table_id.slots c.args.seat.now.id c.args.seat.now.me)
