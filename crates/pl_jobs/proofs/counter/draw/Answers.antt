use Rattle.std.proofs.Common.{arith}
use Rattle.pl_jobs.proofs.Moves.{draws}
use Rattle.pl_jobs.proofs.counter.draw.Goals as goal

pub fetch_add-requires : goal.fetch_add-requires
fetch_add-requires c = (c.requires.table.0, omega (arith, c.requires.table.1), draws c.args.counter.now.key.0 c.args.counter.now.table_id.slots c.args.seat.now.id c.args.seat.now.me c.requires.left)
