use Rattle.std.proofs.Common.{◌≡◌, drop}
use Rattle.pl_syntax.specs.Plain.{plain_stmts}
use Rattle.pl_syntax.specs.StmtRules.{have_action}
use Rattle.pl_types.proofs.actions.+actions.Given as goal

abbrev pub invariant-have_action-loop-s : goal.invariant-have_action-loop-s
invariant-have_action-loop-s l = have_action (plain_stmts l.list) ≡ have_action (plain_stmts (drop l.s-index l.list))
