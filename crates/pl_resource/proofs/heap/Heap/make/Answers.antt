use Rattle.std.proofs.Common.{length, ap, ◌∙◌}
use Rattle.pl_resource.specs.Heap.{Store}
use Rattle.pl_resource.proofs.heap.Heap.make.Goals as goal

-- the room is the one that was just made
pub new-block-requires-clause-enough : goal.new-block-requires-clause-enough
new-block-requires-clause-enough c =
    rw c.replace-spare.ensures.value (c.self.invariant.values (length c.args.first.now, c.args.count) (ap (λ (s : Store). s.room) (c.self.view_is ∙ c.in_ok-room.ensures.ok)))
