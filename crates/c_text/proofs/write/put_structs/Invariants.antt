use Rattle.std.proofs.Common.{◌≡◌, ◌++◌, drop, flat_map}
use Rattle.c_syntax.specs.Text.{struct_text}
use Rattle.c_text.proofs.write.put_structs.Given as goal

abbrev pub invariant-loop-structure : goal.invariant-loop-structure
invariant-loop-structure l = l.out.items ++ flat_map struct_text (drop l.structure-index l.structs) ≡ l.initial.out.items ++ flat_map struct_text l.structs
