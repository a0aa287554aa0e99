use Rattle.std.proofs.Common.{◌+◌, ◌*◌, length}
use Rattle.pl_grammar.proofs.props.+prop.Given as goal

abbrev pub decreases-prop : goal.decreases-prop
decreases-prop l = 10 * length l.tokens.now + 4

abbrev pub decreases-parts : goal.decreases-parts
decreases-parts l = 10 * length l.tokens.now + 3

abbrev pub decreases-exists_of : goal.decreases-exists_of
decreases-exists_of l = 10 * length l.tokens.now + 2

abbrev pub decreases-first_part : goal.decreases-first_part
decreases-first_part l = 10 * length l.tokens.now + 2

abbrev pub decreases-enclosed_of : goal.decreases-enclosed_of
decreases-enclosed_of l = 10 * length l.tokens.now + 1

abbrev pub decreases-more_parts : goal.decreases-more_parts
decreases-more_parts l = 10 * length l.tokens.now + 1

abbrev pub decreases-exists_part : goal.decreases-exists_part
decreases-exists_part l = 10 * length l.tokens.now + 3

abbrev pub decreases-star_of : goal.decreases-star_of
decreases-star_of l = 10 * length l.tokens.now + 0
