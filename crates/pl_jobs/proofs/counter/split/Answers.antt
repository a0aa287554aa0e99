use Rattle.std.proofs.Common.{arith}
use Rattle.pl_jobs.proofs.Moves.{splits}
use Rattle.pl_jobs.proofs.counter.split.Goals as goal

pub split_seat-requires : goal.split_seat-requires
split_seat-requires c = (c.requires.table.0, omega (arith, c.requires.table.1), splits c.args.counter.now.key.0 c.args.seat.now.id c.args.seat.now.me.0 c.requires.left)
