use Rattle.std.proofs.Common.{◌≡◌, drop, map}
use Rattle.pl_normal.specs.Scope.{plain_atom}
use Rattle.pl_normal.specs.Normal.{find}
use Rattle.pl_normal.proofs.opaque.find.Given as goal

abbrev pub invariant-loop-i : goal.invariant-loop-i
invariant-loop-i l = find l.op l.left l.right 0 (map plain_atom l.atoms) ≡ find l.op l.left l.right l.i (map plain_atom (drop l.i l.atoms))
