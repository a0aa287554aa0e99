use Rattle.std.proofs.Common.{◌≡◌, ◌++◌, map, drop}
use Rattle.c_rules.specs.Lines.{member_of}
use Rattle.c_reader.proofs.build.members_of.Given as goal

abbrev pub invariant-loop-m : goal.invariant-loop-m
invariant-loop-m l = l.made.items ++ map member_of (drop l.m-index l.list) ≡ map member_of l.list
