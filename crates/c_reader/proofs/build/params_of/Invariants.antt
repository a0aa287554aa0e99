use Rattle.std.proofs.Common.{◌≡◌, ◌++◌, map, drop}
use Rattle.c_reader.specs.Standing.{param_of}
use Rattle.c_reader.proofs.build.params_of.Given as goal

abbrev pub invariant-loop-p : goal.invariant-loop-p
invariant-loop-p l = l.made.items ++ map param_of (drop l.p-index l.list) ≡ map param_of l.list
