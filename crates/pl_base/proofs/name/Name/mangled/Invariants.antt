use Rattle.std.proofs.Common.{◌≡◌, flat_map}
use Rattle.pl_base.specs.Mangling.{mangled_char}
use Rattle.pl_base.proofs.name.Name.mangled.Given as goal

abbrev pub invariant-loop-c : goal.invariant-loop-c
invariant-loop-c l = l.text.items ≡ flat_map mangled_char l.yielded
