use Rattle.std.proofs.Common.{◌≡◌, ◌++◌, drop}
use Rattle.c_meaning.specs.Resolve.{pointers_of}
use Rattle.c_meaning.proofs.resolve.add_params.Given as goal

abbrev pub invariant-loop-p : goal.invariant-loop-p
invariant-loop-p l = l.fn.pointers.items ++ pointers_of l.structs l.params ≡ l.pointers.items ++ pointers_of l.structs (drop l.p-index l.params)
