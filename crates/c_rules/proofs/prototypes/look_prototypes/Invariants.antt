use Rattle.std.proofs.Common.{◌≡◌, ◌+◌, length, map, drop, flat_map}
use Rattle.c_forms.specs.Plain.{plain_fun}
use Rattle.c_forms.specs.Text.{prototype_text}
use Rattle.c_rules.specs.Groups.{prototypes_breaches}
use Rattle.c_rules.specs.Least.{earlier, least}
use Rattle.c_rules.specs.Seen.{taken_in}
use Rattle.c_rules.specs.Tables.{known_of}
use Rattle.c_rules.proofs.prototypes.look_prototypes.Given as goal

abbrev pub invariant-loop-i : goal.invariant-loop-i
invariant-loop-i l = record {
  end : l.part.end + length (flat_map prototype_text (drop l.i l.list)) ≡ l.at + length (flat_map prototype_text l.list);
  least : earlier l.part.least (least (prototypes_breaches (known_of l.tables).structs (taken_in l.seen) l.part.end (drop l.i l.list) (drop l.i (map plain_fun l.funs))))
      ≡ least (prototypes_breaches (known_of l.tables).structs (taken_in l.initial.seen) l.at l.list (map plain_fun l.funs));
}
