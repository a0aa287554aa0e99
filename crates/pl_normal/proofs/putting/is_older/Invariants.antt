use Rattle.std.proofs.Common.{◌≡◌, drop}
use Rattle.pl_normal.specs.Putting.{is_older}
use Rattle.pl_normal.proofs.putting.is_older.Given as goal

abbrev pub invariant-loop-i : goal.invariant-loop-i
invariant-loop-i l = is_older l.fresh l.atom ≡ is_older (drop l.i l.fresh) l.atom
