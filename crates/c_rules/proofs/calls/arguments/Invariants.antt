use Rattle.std.proofs.Common.{◌≡◌, ◌+◌, length, map, drop}
use Rattle.c_syntax.specs.Text.{commas}
use Rattle.c_forms.specs.Plain.{plain_expr}
use Rattle.c_forms.specs.Text.{expr_text}
use Rattle.c_rules.specs.Commas.{gap, commas_from}
use Rattle.c_rules.specs.Least.{earlier, least}
use Rattle.c_rules.specs.Lines.{argument_breaches}
use Rattle.c_rules.specs.Locals.{bound_from}
use Rattle.c_rules.proofs.calls.arguments.Given as goal

abbrev pub invariant-loop-i : goal.invariant-loop-i
invariant-loop-i l = record {
  end : l.part.end + length (commas_from l.i (map expr_text (map plain_expr (drop l.i l.args)))) ≡ l.at + length (commas (map expr_text (map plain_expr l.args)));
  least : earlier l.part.least (least (argument_breaches (bound_from 1 l.locals.slots.items) (l.part.end + gap l.i) (map plain_expr (drop l.i l.args)) (drop l.i (map (λ p. p.kind) l.params))))
      ≡ least (argument_breaches (bound_from 1 l.locals.slots.items) l.at (map plain_expr l.args) (map (λ p. p.kind) l.params));
}
