use Rattle.std.proofs.Common.{drop}
use Rattle.c_syntax.specs.Forms.{AreLoads}
use Rattle.c_syntax.specs.Plain.{plain_stmts}
use Rattle.c_text.proofs.tests.forms.are_loads.Given as goal

abbrev pub invariant-loop-s : goal.invariant-loop-s
invariant-loop-s l = AreLoads (plain_stmts (drop l.s-index l.list)) → AreLoads (plain_stmts l.list)
