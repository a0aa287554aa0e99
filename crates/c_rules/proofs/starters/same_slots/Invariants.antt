use Rattle.std.proofs.Common.{◌≡◌, ◌+◌, drop}
use Rattle.c_rules.specs.Groups.{same_slots}
use Rattle.c_rules.proofs.starters.same_slots.Given as goal

abbrev pub invariant-loop-i : goal.invariant-loop-i
invariant-loop-i l = same_slots (l.i + 1) (drop l.i l.list) (drop l.i l.params) ≡ same_slots 1 l.list l.params
