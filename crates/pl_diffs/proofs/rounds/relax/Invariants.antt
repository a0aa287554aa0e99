use Rattle.std.proofs.Common.{length}
use Rattle.pl_diffs.specs.Rounds.{Round}
use Rattle.pl_diffs.proofs.rounds.relax.Given as goal

abbrev pub invariant-loop-i : goal.invariant-loop-i
invariant-loop-i l = Round l.edges (length l.initial.dist) l.initial.dist l.dist l.parent l.i l.last
