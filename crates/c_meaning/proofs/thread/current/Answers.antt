use Rattle.std.proofs.Common.{arith, sym}
use Rattle.c_meaning.proofs.FrameEvents.{looks_on, stands_at}
use Rattle.c_meaning.proofs.thread.current.Goals as goal

pub returns-in-Some-op_at-clause-some : goal.returns-in-Some-op_at-clause-some
returns-in-Some-op_at-clause-some c =
    stands_at c.args.code.now c.args.spots.now c.loop-n.n c.loop-n-test.true c.loop-n.invariant.0 c.in-Some.spot (sym c.in-Some.ensures) c.in-Some-op_at.op.now c.in-Some-op_at.ensures.some

pub loop-n-preserved : goal.loop-n-preserved
loop-n-preserved c =
    (looks_on c.args.code.now c.args.spots.now c.loop-n.n c.loop-n-test.true c.loop-n.invariant.0 c.in-Some.spot (sym c.in-Some.ensures) c.in_default-op_at.ensures.none, omega (arith, c.loop-n.invariant.1))
