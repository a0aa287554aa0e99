use Rattle.std.proofs.Common.{◌≤◌, ◌^◌}
use Rattle.pl_forms.specs.Tightening.{common}
use Rattle.pl_linear.proofs.HintLaws.{divisor_small}
use Rattle.pl_linear.proofs.hint.all_written.Goals as goal

pub write-requires-clause-divisor : goal.write-requires-clause-divisor
write-requires-clause-divisor c =
    let small : common 0 c.args.negated.now.form.parts ≤ 2 ^ 40 = divisor_small c.args.negated.now.form c.requires.negated in
    rw (c.common_divisor-divisor.ensures, c.as_slice.ensures) small

pub goal_term-requires-clause-divisor : goal.goal_term-requires-clause-divisor
goal_term-requires-clause-divisor c =
    let small : common 0 c.args.negated.now.form.parts ≤ 2 ^ 40 = divisor_small c.args.negated.now.form c.requires.negated in
    rw (c.common_divisor-divisor.ensures, c.as_slice.ensures) small
