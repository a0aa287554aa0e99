use Rattle.std.proofs.Common.{◌≡◌, map, drop}
use Rattle.c_syntax.specs.Rules.{type_of_member}
use Rattle.c_rules.specs.Lines.{member_of}
use Rattle.c_rules.proofs.cells.type_of_member.Given as goal

abbrev pub invariant-loop-member : goal.invariant-loop-member
invariant-loop-member l = type_of_member (map member_of l.members) l.name ≡ type_of_member (map member_of (drop l.member-index l.members)) l.name
