use Rattle.std.proofs.Common.{◌≤◌, drop}
use Rattle.c_syntax.specs.Forms.{AreStmtForms, stmts_depth}
use Rattle.c_syntax.specs.Plain.{plain_stmts}
use Rattle.c_text.proofs.tests.forms.+forms.Given as goal

abbrev pub invariant-are_stmts-loop-s : goal.invariant-are_stmts-loop-s
invariant-are_stmts-loop-s l = record {
  forms : AreStmtForms (plain_stmts (drop l.s-index l.list)) → AreStmtForms (plain_stmts l.list);
  depth : stmts_depth (plain_stmts (drop l.s-index l.list)) ≤ l.room → stmts_depth (plain_stmts l.list) ≤ l.room;
}
