use Rattle.std.proofs.Common.{◌∙◌, sym}
use Rattle.pl_forms.proofs.Divisors.{gcd_step, gcd_zero}
use Rattle.pl_forms.proofs.row.greatest.Goals as goal

pub loop-b-preserved : goal.loop-b-preserved
loop-b-preserved c = c.loop-b.invariant ∙ gcd_step c.loop-b.a c.loop-b.b c.loop-b-test.true

pub returns : goal.returns
returns c = sym (c.loop-b.invariant ∙ gcd_zero c.loop-b.a c.loop-b.b c.loop-b-test.false)
