use Rattle.std.proofs.Common.{◌∙◌}
use Rattle.pl_normal.proofs.PuttingLaws.{skip_one}
use Rattle.pl_normal.proofs.putting.solved_for.Goals as goal

pub loop-i-preserved : goal.loop-i-preserved
loop-i-preserved c = c.loop-i.invariant ∙ skip_one c.loop-i.i c.args.atom c.args.fresh.now c.args.solved.now _ c.loop-i-test.true c.requires c.if-fresh-i.false
