use Rattle.std.proofs.Common.{◌≡◌, drop, false}
use Rattle.pl_syntax.specs.Plain.{plain_stmts}
use Rattle.pl_syntax.specs.Breaches.{earlier, least}
use Rattle.pl_syntax.specs.StmtRules.{second_actions}
use Rattle.pl_types.proofs.actions.second_actions.Given as goal

abbrev pub invariant-loop-s : goal.invariant-loop-s
invariant-loop-s l =
    earlier l.found (least (second_actions l.before (plain_stmts (drop l.s-index l.list)))) ≡ least (second_actions false (plain_stmts l.list))
