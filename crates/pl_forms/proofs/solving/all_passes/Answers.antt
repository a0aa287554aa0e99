use Rattle.std.proofs.Common.{arith}
use Rattle.std.proofs.lemmas.Result.{err_from_is_err_and}
use Rattle.pl_forms.proofs.SolvingLaws.{stopped}
use Rattle.pl_forms.proofs.solving.all_passes.Goals as goal

pub returns-in_err-one_pass : goal.returns-in_err-one_pass
returns-in_err-one_pass c =
    let p = err_from_is_err_and c.from_residual.result c.from_residual.ensures.1 in
    rw (p.1, p.2)
    (stopped _ c.loop-left.left c.args.facts.now c.loop-left.solutions.items _ _ c.loop-left.invariant.so_far (omega arith) c.in_err-one_pass.ensures.exact)
