use Rattle.std.proofs.Common.{sym, subst, List, reverse}
use Rattle.pl_types.specs.declared.scopes.Slot.{Slot}
use Rattle.pl_types.specs.Slots.{numbers_in, Tied}
use Rattle.pl_types.proofs.SlotLaws.{tied_none}
use Rattle.pl_types.proofs.scopes.Scope.new.Goals as goal

pub invariant_of-result : goal.invariant_of-result
invariant_of-result c =
    subst (λ (slots : List Slot). Tied (reverse slots) (numbers_in c.new-2.result)) (sym c.new.ensures.items) (tied_none (numbers_in c.new-2.result) c.new-2.ensures)
