use Rattle.std.proofs.Common.{◌≡◌, ◌∙◌, ◌+◌, ◌∷◌, ap, map, drop}
use Rattle.std.specs.List.{slice_get}
use Rattle.pl_syntax.specs.Plain.{plain_expr}
use Rattle.pl_syntax.specs.declared.rules.Mode.TheVariants as mode
use Rattle.pl_syntax.specs.Breaches.{earlier, least}
use Rattle.pl_syntax.specs.Known.{written}
use Rattle.pl_syntax.specs.PropRules.{argument_breaches, arguments_breaches}
use Rattle.pl_types.proofs.Drops.{dropped}
use Rattle.pl_types.proofs.Leasts.{fold_least}
use Rattle.pl_types.proofs.arguments.look_written.Goals as goal

pub loop-e-preserved : goal.loop-e-preserved
loop-e-preserved c =
    let args = c.args.args.now in
    let scope = c.args.scope.now in
    let params = written c.loop-e.rest.now in
    let i = c.loop-e.e-index in
    let x = c.e-item.result in
    let rest = map plain_expr (drop (i + 1) args) in
    let parts : map plain_expr (drop i args) ≡ plain_expr x ∷ rest = ap (map plain_expr) (dropped args i x c.loop-e-test.true c.e-item.is) in
    let left = arguments_breaches mode.Ghost scope (written c.behind_first-rest.result.now) rest in
    ap (λ r. earlier r (least left)) c.earlier-found.ensures
    ∙ fold_least c.loop-e.found c.look_argument.result _ (argument_breaches mode.Ghost scope (slice_get params 0) (plain_expr x))
    (arguments_breaches mode.Ghost scope (drop 1 params) rest)
    (arguments_breaches mode.Ghost scope params (map plain_expr (drop i args))) left
    (ap (arguments_breaches mode.Ghost scope params) parts)
    (c.look_argument.ensures ∙ ap (λ b. least (argument_breaches mode.Ghost scope b (plain_expr x))) (c.binder_at.ensures ∙ c.next_written-here.ensures.front))
    (ap (λ ps. arguments_breaches mode.Ghost scope ps rest) (ap written c.behind_first-rest.ensures ∙ c.next_written-here.ensures.rest))
    c.loop-e.invariant
