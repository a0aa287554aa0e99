use Rattle.std.proofs.Common.{◌≡◌, length}
use Rattle.std.specs.Prelude.{vec_len, All}
use Rattle.pl_jobs.specs.Slots.{Reaches}
use Rattle.pl_jobs.proofs.order.place_all.Given as goal

abbrev pub invariant-loop-slot : goal.invariant-loop-slot
invariant-loop-slot g l = vec_len l.slots ≡ l._slot

abbrev pub invariant-places : goal.invariant-places
invariant-places g l = record {
  count : length l.slots.items ≡ l.items;
  gives : All (λ d. g.W.Work.gives l.work d.item d.out) l.done.items;
  each : Reaches g.W.Work.gives l.work l.items l.slots.items l.done.items;
}

abbrev pub decreases-places : goal.decreases-places
decreases-places g l = vec_len l.done
