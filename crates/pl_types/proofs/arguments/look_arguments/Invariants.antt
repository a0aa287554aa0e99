use Rattle.std.proofs.Common.{◌≡◌, drop, map}
use Rattle.pl_syntax.specs.Plain.{plain_expr}
use Rattle.pl_syntax.specs.Breaches.{earlier, least}
use Rattle.pl_syntax.specs.PropRules.{arguments_breaches}
use Rattle.pl_types.proofs.arguments.look_arguments.Given as goal

abbrev pub invariant-loop-i : goal.invariant-loop-i
invariant-loop-i l =
    earlier l.found (least (arguments_breaches l.mode l.scope (drop l.i l.params) (map plain_expr (drop l.i l.args))))
    ≡ least (arguments_breaches l.mode l.scope l.params (map plain_expr l.args))
