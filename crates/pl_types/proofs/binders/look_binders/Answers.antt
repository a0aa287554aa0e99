use Rattle.std.proofs.Common.{◌≡◌, ◌∙◌, ◌+◌, ◌∷◌, ◌++◌, sym, ap, not, drop}
use Rattle.pl_syntax.specs.declared.rules.Rule.TheVariants.{Twice}
use Rattle.pl_syntax.specs.Breaches.{earlier, least, unless}
use Rattle.pl_syntax.specs.Known.{put}
use Rattle.pl_syntax.specs.PropRules.{binder_breaches, binders_breaches}
use Rattle.pl_types.specs.Tables.{known_of, taken_in}
use Rattle.pl_types.proofs.Drops.{dropped}
use Rattle.pl_types.proofs.Leasts.{fold_least, least_append}
use Rattle.pl_types.proofs.binders.look_binders.Goals as goal

pub loop-b-preserved : goal.loop-b-preserved
loop-b-preserved c =
    let list = c.args.list.now in
    let i = c.loop-b.b-index in
    let x = c.b-item.result in
    let known = known_of c.args.tables.now in
    let taken = taken_in c.loop-b.seen in
    let rest = drop (i + 1) list in
    let parts : drop i list ≡ x ∷ rest = dropped list i x c.loop-b-test.true c.b-item.is in
    let one = binder_breaches known c.args.role x in
    let two = unless (not (taken x.name)) Twice x.pos in
    let left = binders_breaches known c.args.role (taken_in c.put.new.self) rest in
    ap (λ r. earlier r (least left)) (c.earlier-found.ensures ∙ ap (earlier c.loop-b.found) c.earlier.ensures)
    ∙ fold_least c.loop-b.found (earlier c.look_binder-here.result c.unless-twice.result) _ (one ++ two) (binders_breaches known c.args.role (put x.name taken) rest)
    (binders_breaches known c.args.role taken (drop i list)) left
    (ap (binders_breaches known c.args.role taken) parts)
    (ap (λ a. earlier a c.unless-twice.result) c.look_binder-here.ensures ∙ ap (earlier (least one)) (c.unless-twice.ensures ∙ ap (λ t. least (unless (not t) Twice x.pos)) c.has.ensures) ∙ sym (least_append one two))
    (ap (λ t. binders_breaches known c.args.role t rest) c.in_ok-put.ensures)
    c.loop-b.invariant
