use Rattle.std.proofs.Common.{◌≡◌, ◌+◌, length, map, drop, flat_map}
use Rattle.c_forms.specs.Plain.{plain_argument}
use Rattle.c_forms.specs.Text.{argument_text}
use Rattle.c_rules.specs.Least.{earlier, least}
use Rattle.c_rules.specs.Lines.{handed_breaches}
use Rattle.c_rules.specs.Locals.{bound_from}
use Rattle.c_rules.proofs.threads.handed.Given as goal

abbrev pub invariant-loop-i : goal.invariant-loop-i
invariant-loop-i l = record {
  end : l.part.end + length (flat_map (argument_text l.level) (map plain_argument (drop l.i l.list))) ≡ l.at + length (flat_map (argument_text l.level) (map plain_argument l.list));
  least : earlier l.part.least (least (handed_breaches (bound_from 1 l.locals.slots.items) l.first l.level (l.i + 1) l.part.end (map plain_argument (drop l.i l.list)) (drop l.i (map (λ p. p.kind) l.params))))
      ≡ least (handed_breaches (bound_from 1 l.locals.slots.items) l.first l.level 1 l.at (map plain_argument l.list) (map (λ p. p.kind) l.params));
}
