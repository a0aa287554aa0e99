use Rattle.std.proofs.Common.{◌≡◌, drop, map}
use Rattle.pl_syntax.specs.Plain.{plain_init}
use Rattle.pl_syntax.specs.StmtRules.{same_fields}
use Rattle.pl_types.proofs.calls.same_fields.Given as goal

abbrev pub invariant-loop-i : goal.invariant-loop-i
invariant-loop-i l = same_fields (drop l.i l.fields) (map plain_init (drop l.i l.inits)) ≡ same_fields l.fields (map plain_init l.inits)
