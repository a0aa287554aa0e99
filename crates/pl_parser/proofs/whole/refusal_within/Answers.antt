use Rattle.std.proofs.Common.{◌-◌, length, refl, arith}
use Rattle.pl_parser.proofs.Refusing.{stop_inside, front_viable, refusal_minus, refusal_deep, refusal_syntax}
use Rattle.pl_parser.proofs.whole.refusal_within.Goals as goal

pub overflow_sub-k : goal.overflow_sub-k
overflow_sub-k c = omega (arith, stop_inside c.args.tokens.now c.args.stop c.requires.few c.requires.stops)

pub returns-then-is_minus : goal.returns-then-is_minus
returns-then-is_minus c =
    let minus = rw c.if-is_minus.true at c.in_ok-is_minus.ensures in
    refusal_minus c.args.tokens.now c.args.stop c.requires.few c.requires.stops (length c.args.tokens.now - c.args.stop.left) refl minus _ c.place_at.ensures

pub returns-then-stop : goal.returns-then-stop
returns-then-stop c =
    let apart = rw c.if-is_minus.false at c.in_ok-is_minus.ensures in
    refusal_deep c.args.tokens.now c.args.stop c.requires.few c.requires.stops (length c.args.tokens.now - c.args.stop.left) refl _ c.place_at-then-stop.ensures apart c.if-stop.true

pub expected-requires : goal.expected-requires
expected-requires c =
    front_viable c.args.tokens.now c.args.stop c.requires.few c.requires.stops (length c.args.tokens.now - c.args.stop.left) refl _ c.split_at.ensures.front

pub returns : goal.returns
returns c =
    let apart = rw c.if-is_minus.false at c.in_ok-is_minus.ensures in
    refusal_syntax c.args.tokens.now c.args.stop c.requires.few c.requires.stops (length c.args.tokens.now - c.args.stop.left) refl _ c.place_at-2.ensures apart _ _ c.if-stop.false c.split_at.ensures.front c.in_ok-code.ensures.code c.in_ok-code.ensures.least
