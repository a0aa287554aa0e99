use Rattle.std.proofs.Common.{◌≡◌, ◌∙◌, ◌+◌, ◌∷◌, sym, ap, map, drop}
use Rattle.std.specs.List.{slice_get}
use Rattle.pl_syntax.specs.Plain.{plain_expr}
use Rattle.pl_syntax.specs.Breaches.{earlier, least}
use Rattle.pl_syntax.specs.PropRules.{argument_breaches, arguments_breaches}
use Rattle.pl_types.proofs.Drops.{dropped, slice_get_drop, drop-drop_one}
use Rattle.pl_types.proofs.Leasts.{fold_least}
use Rattle.pl_types.proofs.arguments.look_arguments.Goals as goal

pub loop-i-preserved : goal.loop-i-preserved
loop-i-preserved c =
    let args = c.args.args.now in
    let params = c.args.params.now in
    let mode = c.args.mode in
    let scope = c.args.scope.now in
    let i = c.loop-i.i in
    let x = c.index-args-i.result in
    let rest = map plain_expr (drop (i + 1) args) in
    let parts : map plain_expr (drop i args) ≡ plain_expr x ∷ rest = ap (map plain_expr) (dropped args i x c.loop-i-test.true c.index-args-i.is) in
    let left = arguments_breaches mode scope (drop (i + 1) params) rest in
    ap (λ r. earlier r (least left)) c.earlier-found.ensures
    ∙ fold_least c.loop-i.found c.look_argument.result _ (argument_breaches mode scope (slice_get (drop i params) 0) (plain_expr x))
    (arguments_breaches mode scope (drop 1 (drop i params)) rest)
    (arguments_breaches mode scope (drop i params) (map plain_expr (drop i args))) left
    (ap (arguments_breaches mode scope (drop i params)) parts)
    (c.look_argument.ensures ∙ ap (λ b. least (argument_breaches mode scope b (plain_expr x))) (c.binder_at.ensures ∙ sym (slice_get_drop params i)))
    (ap (λ ps. arguments_breaches mode scope ps rest) (sym (drop-drop_one params i)))
    c.loop-i.invariant
