use Rattle.std.proofs.Common.{◌≡◌, drop, map}
use Rattle.pl_syntax.specs.Plain.{plain_init}
use Rattle.pl_syntax.specs.Breaches.{earlier, least}
use Rattle.pl_syntax.specs.StmtRules.{inits_breaches}
use Rattle.pl_types.proofs.calls.look_inits.Given as goal

abbrev pub invariant-loop-init : goal.invariant-loop-init
invariant-loop-init l =
    earlier l.found (least (inits_breaches l.scope l.pos l.fields (map plain_init (drop l.init-index l.inits))))
    ≡ least (inits_breaches l.scope l.pos l.fields (map plain_init l.inits))
