use Rattle.std.proofs.Common.{◌≡◌, ◌∙◌, ◌+◌, ◌∷◌, ap, length, map, drop}
use Rattle.c_syntax.specs.Text.{indent}
use Rattle.c_forms.specs.Plain.{plain_argument}
use Rattle.c_rules.specs.Least.{earlier, least}
use Rattle.c_rules.specs.Lines.{handed_found, handed_breaches}
use Rattle.c_rules.specs.Locals.{bound_from}
use Rattle.c_rules.proofs.Drops.{dropped}
use Rattle.c_rules.proofs.ThreadLaws.{handed_end, handed_least}
use Rattle.c_rules.proofs.threads.handed.Goals as goal

pub loop-i-preserved : goal.loop-i-preserved
loop-i-preserved c =
    let list = c.args.list.now in
    let i = c.loop-i.i in
    let x = c.index-list-i.result in
    let n = c.args.level in
    let bound = bound_from 1 c.args.locals.now.slots.items in
    let wants = map (λ p. p.kind) c.args.params.now in
    let parts : map plain_argument (drop i list) ≡ plain_argument x ∷ map plain_argument (drop (i + 1) list) = ap (map plain_argument) (dropped list i x c.loop-i-test.true c.index-list-i.is) in
    record {
      end = handed_end n (plain_argument x) (map plain_argument (drop (i + 1) list)) (map plain_argument (drop i list)) c.loop-i.part.end c.handed_line-next.result.end _
          parts c.handed_line-next.ensures.end c.loop-i.invariant.end;
      least = ap (λ r. earlier r (least (handed_breaches bound c.args.first n (i + 1 + 1) c.handed_line-next.result.end (map plain_argument (drop (i + 1) list)) (drop (i + 1) wants)))) c.earlier.ensures
          ∙ handed_least bound c.args.first n (i + 1) i (plain_argument x) (map plain_argument (drop (i + 1) list)) (map plain_argument (drop i list)) wants
          c.loop-i.part.end c.handed_line-next.result.end c.loop-i.part.least c.handed_line-next.result.least _ parts c.handed_line-next.ensures.end
          (c.handed_line-next.ensures.least ∙ ap (λ w. least (handed_found bound w (i + 1) (c.loop-i.part.end + length (indent n) + 3) (plain_argument x))) c.param_kind.ensures) c.loop-i.invariant.least;
    }
