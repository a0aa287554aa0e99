-- What the type check answers.
use Rattle.std.specs.Prelude.{◌≡◌, true, false, Some, []}
use Rattle.pl_syntax.specs.Tree.{Program}
use Rattle.pl_syntax.specs.declared.rules.Rule.TheVariants as rule
use Rattle.pl_types.specs.declared.error.TypeError.{TypeError}
use Rattle.pl_types.specs.declared.error.TypeError.TheVariants as error
use Rattle.pl_syntax.specs.Breaches.{at, least}
use Rattle.pl_syntax.specs.DeclRules.{breaches, has_main}

-- why a program isn't typed: its first breach, or where there is none the missing `main`
abbrev pub Refused : Program → TypeError → Type 0
Refused p (error.Unknown place) = least (breaches p) ≡ Some (at rule.Unknown place)
Refused p (error.Twice place) = least (breaches p) ≡ Some (at rule.Twice place)
Refused p (error.IllTyped place) = least (breaches p) ≡ Some (at rule.IllTyped place)
Refused p (error.GhostFlow place) = least (breaches p) ≡ Some (at rule.GhostFlow place)
Refused p (error.Opening place) = least (breaches p) ≡ Some (at rule.Opening place)
Refused p (error.Measure place) = least (breaches p) ≡ Some (at rule.Measure place)
Refused p error.NoMain = (breaches p ≡ []) × (has_main p ≡ false)
Refused p error.Memory = Unit {0}
