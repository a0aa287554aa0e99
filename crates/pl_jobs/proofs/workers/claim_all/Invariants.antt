use Rattle.std.proofs.Common.{◌≡◌, ◌+◌, [], length}
use Rattle.std.specs.Prelude.{All}
use Rattle.pl_jobs.specs.Items.{numbers}
use Rattle.pl_jobs.proofs.workers.claim_all.Given as goal

abbrev pub invariant-claims : goal.invariant-claims
invariant-claims g l = record {
  table : l.seat.table_id ≡ l.counter.table_id;
  free : l.seat.me.1 ≡ [];
  all : l.seat.me.0.all ≡ l.all;
  drawn : l.seat.me.0.drawn ≡ numbers l.done.items;
  count : length l.seat.me.0.drawn ≡ l.recorded;
  left : l.recorded + l.seat.me.0.left ≡ l.items + 1;
  gives : All (λ d. g.W.Work.gives l.work d.item d.out) l.done.items;
}
