use Rattle.std.proofs.Common.{arith}
use Rattle.pl_parser.proofs.Arms.{no_arm, arm_left}
use Rattle.pl_parser.proofs.decls.arm.Goals as goal

pub returns-then-depth-eq0-clause-value : goal.returns-then-depth-eq0-clause-value
returns-then-depth-eq0-clause-value c = rw (c.no_brace.ensures, c.if-depth-eq0.true) (no_arm c.args.tokens.now)

pub returns-clause-value : goal.returns-clause-value
returns-clause-value c = rw (arm_left c.args.depth c.args.tokens.now (omega arith)) c.arm_of.ensures.value
