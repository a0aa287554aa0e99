use Rattle.std.proofs.Common.{arith}
use Rattle.c_forms.proofs.HexLaws.{value_small, value_next}
use Rattle.c_forms.proofs.names.hex_of.Goals as goal

pub overflow_mul-value : goal.overflow_mul-value
overflow_mul-value c = let small = value_small c.args.value c.args.left c.requires.room in omega (arith, small)

pub overflow_add-value : goal.overflow_add-value
overflow_add-value c = let small = value_small c.args.value c.args.left c.requires.room in omega (arith, small, c.in_ok-digit.ensures.within)

pub returns-then-some_fits-clause-within : goal.returns-then-some_fits-clause-within
returns-then-some_fits-clause-within c = value_next c.args.value c.in_ok-digit.digit c.args.left c.in_ok-digit.ensures.within c.requires.room
