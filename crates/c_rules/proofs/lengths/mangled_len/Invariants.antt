use Rattle.std.proofs.Common.{◌≡◌, ◌^◌, ◌-◌, length, flat_map, min}
use Rattle.pl_base.specs.Mangling.{mangled_char}
use Rattle.c_rules.proofs.lengths.mangled_len.Given as goal

abbrev pub invariant-loop-c : goal.invariant-loop-c
invariant-loop-c l = l.len ≡ min (length (flat_map mangled_char l.yielded)) (2 ^ 64 - 1)
