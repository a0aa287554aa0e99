use Rattle.pl_linear.proofs.WitnessLaws.{strict_end}
use Rattle.pl_linear.proofs.confirming.is_strict.Goals as goal

pub returns : goal.returns
returns c = strict_end c.args.eqs.now c.args.terms.now c.loop-eq.eq-index c.loop-eq.next _ c.loop-eq.invariant.so_far c.loop-eq-test.false c.loop-eq.invariant.within
