use Rattle.std.proofs.Common.{◌∙◌, ◌+◌, ◌||◌, ap, drop}
use Rattle.std.specs.Option.{is_some}
use Rattle.pl_syntax.specs.Plain.{plain_stmt, plain_stmts}
use Rattle.pl_syntax.specs.Breaches.{earlier, least}
use Rattle.pl_syntax.specs.StmtRules.{action_place, second_action, second_actions}
use Rattle.pl_types.proofs.Drops.{dropped}
use Rattle.pl_types.proofs.Leasts.{fold_least}
use Rattle.pl_types.proofs.actions.second_actions.Goals as goal

pub loop-s-preserved : goal.loop-s-preserved
loop-s-preserved c =
    let list = c.args.list.now in
    let i = c.loop-s.s-index in
    let x = c.s-item.result in
    let before = c.loop-s.before in
    let rest = plain_stmts (drop (i + 1) list) in
    let parts = ap plain_stmts (dropped list i x c.loop-s-test.true c.s-item.is) in
    let place = action_place (plain_stmt x) in
    let left = second_actions c.acted-before.result rest in
    ap (λ r. earlier r (least left)) c.earlier-found.ensures
    ∙ fold_least c.loop-s.found c.second_action.result _ (second_action before place) (second_actions (before || is_some place) rest)
    (second_actions before (plain_stmts (drop i list))) left
    (ap (second_actions before) parts)
    (c.second_action.ensures ∙ ap (λ p. least (second_action before p)) c.action_place-place.ensures)
    (ap (λ b. second_actions b rest) (c.acted-before.ensures ∙ ap (λ p. before || is_some p) c.action_place-place.ensures))
    c.loop-s.invariant
