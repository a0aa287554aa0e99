use Rattle.std.proofs.Common.{◌≡◌, ◌+◌, length, map, drop, flat_map}
use Rattle.c_forms.specs.Text.{struct_text}
use Rattle.c_rules.specs.Groups.{structs_breaches, put_all}
use Rattle.c_rules.specs.Least.{earlier, least}
use Rattle.c_rules.specs.Seen.{taken_in}
use Rattle.c_rules.specs.Tables.{known_of}
use Rattle.c_rules.proofs.heads.look_structs.Given as goal

abbrev pub invariant-loop-d : goal.invariant-loop-d
invariant-loop-d l = record {
  end : l.part.end + length (flat_map struct_text (drop l.d-index l.list)) ≡ l.at + length (flat_map struct_text l.list);
  least : earlier l.part.least (least (structs_breaches (known_of l.tables).structs (taken_in l.seen) l.part.end (drop l.d-index l.list)))
      ≡ least (structs_breaches (known_of l.tables).structs (taken_in l.initial.seen) l.at l.list);
  seen : put_all (map (λ d. d.name) (drop l.d-index l.list)) (taken_in l.seen) ≡ put_all (map (λ d. d.name) l.list) (taken_in l.initial.seen);
}
