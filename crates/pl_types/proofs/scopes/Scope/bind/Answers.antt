use Rattle.std.proofs.Common.{sym, subst, List, reverse}
use Rattle.std.specs.Result.{is_ok}
use Rattle.pl_types.specs.declared.scopes.Slot.{Slot}
use Rattle.pl_types.specs.Slots.{Table, numbers_in, Tied}
use Rattle.pl_types.proofs.SlotLaws.{tied_added}
use Rattle.pl_types.proofs.scopes.Scope.bind.Goals as goal

pub invariant_of-self : goal.invariant_of-self
invariant_of-self c =
    let slot : Slot = record { binding = record { name = c.args.name; class = c.args.class; sort = c.args.sort }; hides = c.get.result } in
    let tied = tied_added (is_ok c.add.result) slot c.self.inside.slots.items (numbers_in c.self.inside.newest) c.get.ensures c.self.invariant in
    let numbered = rw (← c.add.ensures.newest) at tied in
    subst (λ (slots : List Slot). Tied (reverse slots) (numbers_in c.add.new.newest)) (sym c.add.ensures.slots) numbered
