use Rattle.std.proofs.Common.{◌≡◌, ◌∙◌, ◌+◌, ◌∷◌, ap, map, drop}
use Rattle.c_forms.specs.Plain.{plain_expr}
use Rattle.c_forms.specs.Text.{expr_text}
use Rattle.c_rules.specs.Commas.{gap}
use Rattle.c_rules.specs.Least.{earlier, least}
use Rattle.c_rules.specs.Lines.{argument_found, argument_breaches}
use Rattle.c_rules.specs.Locals.{bound_from}
use Rattle.c_rules.proofs.Arguments.{next_end, next_least}
use Rattle.c_rules.proofs.Drops.{dropped}
use Rattle.c_rules.proofs.calls.arguments.Goals as goal

pub loop-i-preserved : goal.loop-i-preserved
loop-i-preserved c =
    let args = c.args.args.now in
    let i = c.loop-i.i in
    let x = c.index-args-i.result in
    let bound = bound_from 1 c.args.locals.now.slots.items in
    let wants = map (λ p. p.kind) c.args.params.now in
    let parts : map plain_expr (drop i args) ≡ plain_expr x ∷ map plain_expr (drop (i + 1) args) = ap (map plain_expr) (dropped args i x c.loop-i-test.true c.index-args-i.is) in
    record {
      end = next_end i (expr_text (plain_expr x)) (map expr_text (map plain_expr (drop (i + 1) args))) (map expr_text (map plain_expr (drop i args)))
          c.loop-i.part.end c.after_comma.result c.argument-next.result.end _ (ap (map expr_text) parts) c.after_comma.ensures c.argument-next.ensures.end c.loop-i.invariant.end;
      least = ap (λ r. earlier r (least (argument_breaches bound (c.argument-next.result.end + gap (i + 1)) (map plain_expr (drop (i + 1) args)) (drop (i + 1) wants)))) c.earlier.ensures
          ∙ next_least bound i (plain_expr x) (map plain_expr (drop (i + 1) args)) (map plain_expr (drop i args)) wants
          c.loop-i.part.end c.after_comma.result c.argument-next.result.end c.loop-i.part.least c.argument-next.result.least _ parts c.after_comma.ensures c.argument-next.ensures.end
          (c.argument-next.ensures.least ∙ ap (λ w. least (argument_found bound w c.after_comma.result (plain_expr x))) c.param_kind.ensures) c.loop-i.invariant.least;
    }
