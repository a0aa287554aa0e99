use Rattle.std.proofs.Common.{◌≡◌, drop}
use Rattle.c_meaning.specs.Resolve.{structure_of}
use Rattle.c_meaning.proofs.resolve.structure_of.Given as goal

abbrev pub invariant-loop-p : goal.invariant-loop-p
invariant-loop-p l = structure_of l.pointers l.x ≡ structure_of (drop l.p-index l.pointers) l.x
