use Rattle.std.proofs.Common.{◌≡◌, ◌+◌, length, drop, flat_map}
use Rattle.c_rules.specs.Groups.{member_text, members_breaches, nothing}
use Rattle.c_rules.specs.Least.{earlier, least}
use Rattle.c_rules.specs.Seen.{taken_in}
use Rattle.c_rules.specs.Tables.{known_of}
use Rattle.c_rules.proofs.heads.look_members.Given as goal

abbrev pub invariant-loop-m : goal.invariant-loop-m
invariant-loop-m l = record {
  end : l.part.end + length (flat_map member_text (drop l.m-index l.list)) ≡ l.at + length (flat_map member_text l.list);
  least : earlier l.part.least (least (members_breaches (known_of l.tables).structs (taken_in l.seen) l.part.end (drop l.m-index l.list)))
      ≡ least (members_breaches (known_of l.tables).structs nothing l.at l.list);
}
