use Rattle.std.proofs.Common.{◌+◌, ◌*◌}
use Rattle.pl_syntax.specs.Plain.{plain_expr}
use Rattle.pl_normal.proofs.Sizes.{size}
use Rattle.pl_normal.proofs.forming.+forming.Given as goal

abbrev pub decreases-normal_of : goal.decreases-normal_of
decreases-normal_of l = 8 * size (plain_expr l.e.now) + 1

abbrev pub decreases-formed : goal.decreases-formed
decreases-formed l = 8 * size (plain_expr l.e.now)

abbrev pub decreases-operated : goal.decreases-operated
decreases-operated l = 8 * (size (plain_expr l.a.now) + size (plain_expr l.b.now)) + 7

abbrev pub decreases-condition_of : goal.decreases-condition_of
decreases-condition_of l = 8 * size (plain_expr l.e.now) + 1

abbrev pub decreases-stated : goal.decreases-stated
decreases-stated l = 8 * size (plain_expr l.e.now)

abbrev pub decreases-connected : goal.decreases-connected
decreases-connected l = 8 * (size (plain_expr l.a.now) + size (plain_expr l.b.now)) + 6

abbrev pub decreases-linked : goal.decreases-linked
decreases-linked l = 8 * (size (plain_expr l.a.now) + size (plain_expr l.b.now)) + 5

abbrev pub decreases-comparison : goal.decreases-comparison
decreases-comparison l = 8 * (size (plain_expr l.a.now) + size (plain_expr l.b.now)) + 4
