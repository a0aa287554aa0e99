use Rattle.std.proofs.Common.{◌≡◌, drop}
use Rattle.pl_normal.specs.Putting.{solved_for}
use Rattle.pl_normal.proofs.putting.solved_for.Given as goal

abbrev pub invariant-loop-i : goal.invariant-loop-i
invariant-loop-i l = solved_for l.fresh l.solved l.atom ≡ solved_for (drop l.i l.fresh) (drop l.i l.solved) l.atom
