use Rattle.std.proofs.Common.{◌≡◌}
use Rattle.std.specs.Prelude.{vec_len}
use Rattle.pl_jobs.specs.Slots.{RightFrom, InOrder}
use Rattle.pl_jobs.proofs.order.in_order.Given as goal

abbrev pub invariant-loop-k : goal.invariant-loop-k
invariant-loop-k g l = record {
  count : vec_len l.slots ≡ l.items;
  made : vec_len l.results ≡ l.k;
  right : RightFrom g.W.Work.gives l.work l.k l.items l.slots.items;
  order : InOrder g.W.Work.gives l.work l.results.items;
}
