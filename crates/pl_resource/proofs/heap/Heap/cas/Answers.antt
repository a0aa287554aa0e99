use Rattle.std.proofs.Common.{to_z-of_z, ap}
use Rattle.pl_resource.specs.Heap.{Store}
use Rattle.pl_resource.proofs.Swapped.{block_read, cas_of_block}
use Rattle.pl_resource.proofs.heap.Heap.cas.Goals as goal

pub returns-clause-result : goal.returns-clause-result
returns-clause-result c =
    let swaps = simp (to_z-of_z, c.ranges.old, c.ranges.new) at c.cas.ensures.result in
    let is = block_read _ _ _ _ c.in-Some.ensures.item.3.0 c.in-Some.ensures.value c.in-Some-slot.is in
    rw (← ap (λ (s : Store). s.blocks) c.self.view_is) (cas_of_block _ _ _ _ _ _ _ is swaps)
