use Rattle.std.proofs.Common.{◌≡◌, None, rules}
use Rattle.pl_linear.specs.Hints.{past}
use Rattle.pl_linear.proofs.HintLaws.{past_small}
use Rattle.pl_linear.proofs.hint.outcome.Goals as goal

pub by_labels-requires-clause-times : goal.by_labels-requires-clause-times
by_labels-requires-clause-times c =
    let kept : past c.args.hint.now 0 ≡ None = search rules in
    past_small c.args.hint.now 0 kept
