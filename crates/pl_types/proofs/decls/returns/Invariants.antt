use Rattle.std.proofs.Common.{◌≡◌, drop, false}
use Rattle.pl_syntax.specs.Plain.{plain_stmts}
use Rattle.pl_syntax.specs.DeclRules.{last_returns}
use Rattle.pl_types.proofs.decls.returns.Given as goal

abbrev pub invariant-loop-s : goal.invariant-loop-s
invariant-loop-s l = last_returns l.last (plain_stmts (drop l.s-index l.list)) ≡ last_returns false (plain_stmts l.list)
