use Rattle.std.proofs.Common.{◌≡◌, drop, map}
use Rattle.pl_syntax.specs.Plain.{plain_expr}
use Rattle.pl_syntax.specs.declared.rules.Mode.TheVariants as mode
use Rattle.pl_syntax.specs.Breaches.{earlier, least}
use Rattle.pl_syntax.specs.Known.{written}
use Rattle.pl_syntax.specs.PropRules.{arguments_breaches}
use Rattle.pl_types.proofs.arguments.look_written.Given as goal

abbrev pub invariant-loop-e : goal.invariant-loop-e
invariant-loop-e l =
    earlier l.found (least (arguments_breaches mode.Ghost l.scope (written l.rest) (map plain_expr (drop l.e-index l.args))))
    ≡ least (arguments_breaches mode.Ghost l.scope (written l.params) (map plain_expr l.args))
