use Rattle.std.proofs.Common.{◌+◌, ◌*◌, length}
use Rattle.pl_grammar.proofs.exprs.+expr.Given as goal

abbrev pub decreases-compared : goal.decreases-compared
decreases-compared l = 10 * length l.tokens.now + 6

abbrev pub decreases-conjoined : goal.decreases-conjoined
decreases-conjoined l = 10 * length l.tokens.now + 7

abbrev pub decreases-disjoined : goal.decreases-disjoined
decreases-disjoined l = 10 * length l.tokens.now + 8

abbrev pub decreases-expression : goal.decreases-expression
decreases-expression l = 10 * length l.tokens.now + 9

abbrev pub decreases-group : goal.decreases-group
decreases-group l = 10 * length l.tokens.now + 1

abbrev pub decreases-implied : goal.decreases-implied
decreases-implied l = 10 * length l.tokens.now + 0

abbrev pub decreases-minus : goal.decreases-minus
decreases-minus l = 10 * length l.tokens.now + 1

abbrev pub decreases-more_compared : goal.decreases-more_compared
decreases-more_compared l = 10 * length l.tokens.now + 0

abbrev pub decreases-more_conjoined : goal.decreases-more_conjoined
decreases-more_conjoined l = 10 * length l.tokens.now + 0

abbrev pub decreases-more_terms : goal.decreases-more_terms
decreases-more_terms l = 10 * length l.tokens.now + 0

abbrev pub decreases-more_unaries : goal.decreases-more_unaries
decreases-more_unaries l = 10 * length l.tokens.now + 0

abbrev pub decreases-not : goal.decreases-not
decreases-not l = 10 * length l.tokens.now + 1

abbrev pub decreases-other : goal.decreases-other
decreases-other l = 10 * length l.tokens.now + 2

abbrev pub decreases-related : goal.decreases-related
decreases-related l = 10 * length l.tokens.now + 0

abbrev pub decreases-sum : goal.decreases-sum
decreases-sum l = 10 * length l.tokens.now + 5

abbrev pub decreases-term : goal.decreases-term
decreases-term l = 10 * length l.tokens.now + 4

abbrev pub decreases-unary : goal.decreases-unary
decreases-unary l = 10 * length l.tokens.now + 3
