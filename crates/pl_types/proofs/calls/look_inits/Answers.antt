use Rattle.std.proofs.Common.{◌≡◌, ◌∙◌, ◌+◌, ◌∷◌, refl, ap, map, drop}
use Rattle.pl_syntax.specs.Plain.{plain_expr, plain_init}
use Rattle.pl_syntax.specs.Breaches.{earlier, least}
use Rattle.pl_syntax.specs.Known.{sort_in}
use Rattle.pl_syntax.specs.StmtRules.{init_breaches, inits_breaches}
use Rattle.pl_types.proofs.Drops.{dropped}
use Rattle.pl_types.proofs.Leasts.{fold_least}
use Rattle.pl_types.proofs.calls.look_inits.Goals as goal

pub loop-init-preserved : goal.loop-init-preserved
loop-init-preserved c =
    let inits = c.args.inits.now in
    let fields = c.args.fields.now in
    let scope = c.args.scope.now in
    let pos = c.args.pos in
    let i = c.loop-init.init-index in
    let x = c.init-item.result in
    let rest = map plain_init (drop (i + 1) inits) in
    let parts : map plain_init (drop i inits) ≡ plain_init x ∷ rest = ap (map plain_init) (dropped inits i x c.loop-init-test.true c.init-item.is) in
    let left = inits_breaches scope pos fields rest in
    ap (λ r. earlier r (least left)) c.earlier-found.ensures
    ∙ fold_least c.loop-init.found c.look_init.result _ (init_breaches scope pos (sort_in x.name fields) (plain_expr x.value)) left
    (inits_breaches scope pos fields (map plain_init (drop i inits))) left
    (ap (inits_breaches scope pos fields) parts)
    (c.look_init.ensures ∙ ap (λ s. least (init_breaches scope pos s (plain_expr x.value))) c.sort_in-kind.ensures)
    refl
    c.loop-init.invariant
