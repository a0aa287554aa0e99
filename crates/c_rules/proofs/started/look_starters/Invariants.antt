use Rattle.std.proofs.Common.{◌≡◌, ◌+◌, length, map, drop, flat_map}
use Rattle.c_forms.specs.Text.{starter_text}
use Rattle.c_rules.specs.Groups.{starters_breaches}
use Rattle.c_rules.specs.Least.{earlier, least}
use Rattle.c_rules.proofs.started.look_starters.Given as goal

abbrev pub invariant-loop-i : goal.invariant-loop-i
invariant-loop-i l = record {
  end : l.part.end + length (flat_map starter_text (drop l.i l.list)) ≡ l.at + length (flat_map starter_text l.list);
  least : earlier l.part.least (least (starters_breaches l.part.end (drop l.i l.list) (drop l.i (map (λ h. h.now) l.heads)))) ≡ least (starters_breaches l.at l.list (map (λ h. h.now) l.heads));
}
