use Rattle.std.proofs.Common.{◌∙◌, ◌<◌, subst}
use Rattle.pl_types.proofs.SlotLaws.{left_one}
use Rattle.pl_types.proofs.scopes.Scope.leave.Goals as goal

pub loop-self-preserved : goal.loop-self-preserved
loop-self-preserved c =
    let below = subst (λ k. c.args.mark < k) c.mark.ensures c.loop-self-test.true in
    let next = left_one c.loop-self.self c.leave_one.new.self c.args.mark below c.leave_one.ensures in
    record { mark = next.0; left = next.1 ∙ c.loop-self.invariant.left }
