use Rattle.std.proofs.Common.{◌≡◌, ◌+◌, length, drop, flat_map}
use Rattle.c_rules.specs.Groups.{slot_text}
use Rattle.c_rules.proofs.starters.slots_end.Given as goal

abbrev pub invariant-loop-s : goal.invariant-loop-s
invariant-loop-s l = l.end + length (flat_map slot_text (drop l.s-index l.list)) ≡ l.at + length (flat_map slot_text l.list)
