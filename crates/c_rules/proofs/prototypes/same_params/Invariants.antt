use Rattle.std.proofs.Common.{◌≡◌, drop}
use Rattle.c_rules.specs.Groups.{same_params}
use Rattle.c_rules.proofs.prototypes.same_params.Given as goal

abbrev pub invariant-loop-i : goal.invariant-loop-i
invariant-loop-i l = same_params (drop l.i l.ps) (drop l.i l.qs) ≡ same_params l.ps l.qs
