use Rattle.std.proofs.Common.{◌≡◌, drop, false}
use Rattle.c_forms.specs.Plain.{plain_stmts}
use Rattle.c_rules.specs.Groups.{last_returns}
use Rattle.c_rules.proofs.prototypes.returns.Given as goal

abbrev pub invariant-loop-s : goal.invariant-loop-s
invariant-loop-s l = last_returns l.last (plain_stmts (drop l.s-index l.list)) ≡ last_returns false (plain_stmts l.list)
