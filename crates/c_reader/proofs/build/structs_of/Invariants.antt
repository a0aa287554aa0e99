use Rattle.std.proofs.Common.{◌≡◌, ◌++◌, map, drop}
use Rattle.c_rules.specs.Groups.{struct_of}
use Rattle.c_reader.proofs.build.structs_of.Given as goal

abbrev pub invariant-loop-d : goal.invariant-loop-d
invariant-loop-d l = l.made.items ++ map struct_of (drop l.d-index l.list) ≡ map struct_of l.list
