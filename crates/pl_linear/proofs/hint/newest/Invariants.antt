use Rattle.std.proofs.Common.{◌≡◌, None, drop}
use Rattle.pl_linear.specs.Hints.{newest}
use Rattle.pl_linear.proofs.hint.newest.Given as goal

abbrev pub invariant-loop-i : goal.invariant-loop-i
invariant-loop-i l = newest l.name 0 l.facts None ≡ newest l.name l.i (drop l.i l.facts) l.found
