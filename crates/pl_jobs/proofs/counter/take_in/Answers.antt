use Rattle.std.proofs.Common.{arith}
use Rattle.pl_jobs.proofs.Moves.{joins}
use Rattle.pl_jobs.proofs.counter.take_in.Goals as goal

pub join_seat-requires : goal.join_seat-requires
join_seat-requires c = (
  c.requires.table.0,
  c.requires.table.1,
  c.requires.free,
  omega (arith, c.requires.table.2),
  joins c.args.counter.now.key.0 c.args.seat.now.id c.args.seat.now.me.0 c.args.other.id c.args.other.me.0,
)
