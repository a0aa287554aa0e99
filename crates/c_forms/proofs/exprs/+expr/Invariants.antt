use Rattle.std.proofs.Common.{◌+◌, ◌*◌}
use Rattle.c_forms.proofs.exprs.+expr.Given as goal

abbrev pub decreases-unsigned : goal.decreases-unsigned
decreases-unsigned l = 10 * l.depth + 1

abbrev pub decreases-nested : goal.decreases-nested
decreases-nested l = 10 * l.depth + 2

abbrev pub decreases-minus : goal.decreases-minus
decreases-minus l = 10 * l.depth + 3

abbrev pub decreases-binary : goal.decreases-binary
decreases-binary l = 10 * l.depth + 3

abbrev pub decreases-bracket : goal.decreases-bracket
decreases-bracket l = 10 * l.depth + 4

abbrev pub decreases-plain : goal.decreases-plain
decreases-plain l = 10 * l.depth
