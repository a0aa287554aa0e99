use Rattle.std.proofs.Common.{◌≡◌, ◌≤◌, length, map, drop}
use Rattle.c_syntax.specs.Rules.{members_of}
use Rattle.c_rules.specs.ByName.{structs_in}
use Rattle.c_rules.specs.Groups.{struct_of}
use Rattle.c_rules.proofs.declared_names.struct_table.Given as goal

abbrev pub decreases-loop-i : goal.decreases-loop-i
decreases-loop-i l = l.i

abbrev pub invariant-loop-i : goal.invariant-loop-i
invariant-loop-i l = record { place : l.i ≤ length l.list; table : structs_in l.table ≡ members_of (map struct_of (drop l.i l.list)) }
