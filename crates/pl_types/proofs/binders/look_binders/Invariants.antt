use Rattle.std.proofs.Common.{◌≡◌, drop}
use Rattle.pl_syntax.specs.Breaches.{earlier, least}
use Rattle.pl_syntax.specs.Known.{nothing}
use Rattle.pl_syntax.specs.PropRules.{binders_breaches}
use Rattle.pl_types.specs.Tables.{known_of, taken_in}
use Rattle.pl_types.proofs.binders.look_binders.Given as goal

abbrev pub invariant-loop-b : goal.invariant-loop-b
invariant-loop-b l =
    earlier l.found (least (binders_breaches (known_of l.tables) l.role (taken_in l.seen) (drop l.b-index l.list)))
    ≡ least (binders_breaches (known_of l.tables) l.role nothing l.list)
