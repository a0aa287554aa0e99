use Rattle.std.proofs.Common.{◌≡◌, ◌∙◌, ◌&&◌, sym, ap, Some}
use Rattle.pl_syntax.specs.Breaches.{earlier, least}
use Rattle.pl_syntax.specs.ExprRules as spec
use Rattle.pl_types.specs.Held as held
use Rattle.pl_types.proofs.Leasts.{least_append}
use Rattle.pl_types.proofs.exprs.operands.Goals as goal

pub returns-in-Some : goal.returns-in-Some
returns-in-Some c = λ a b h k.
    let s = held.sort c.in-Some.kind in
    let form = c.args.form in
    let one = held.own c.args.one.own in
    let two = held.own c.args.two.own in
    let left = spec.fitted a (form && spec.fits (spec.sorted s) one) c.args.one.pos in
    let right = spec.fitted b (spec.fits (spec.sorted s) two) c.args.two.pos in
    let x : c.fitted-left.result ≡ least left = c.fitted-left.ensures a h ∙ ap (λ t. least (spec.fitted a t c.args.one.pos)) c.fits_as.ensures in
    let y : c.fitted-right.result ≡ least right = c.fitted-right.ensures b k ∙ ap (λ t. least (spec.fitted b t c.args.two.pos)) c.fits.ensures in
    let w : held.sorts c.args.want ≡ Some s = ap held.sorts c.in-Some.is in
    c.earlier.ensures ∙ ap (λ r. earlier r c.fitted-right.result) x ∙ ap (earlier (least left)) y ∙ sym (least_append left right)
    ∙ sym (ap (λ q. least (spec.operands q form a one b two c.args.pos c.args.one.pos c.args.two.pos)) w)
