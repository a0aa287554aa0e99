use Rattle.std.proofs.Common.{◌≡◌, ◌++◌, ◌+◌, ◌≤◌, drop}
use Rattle.c_syntax.specs.Forms.{deepest, stmts_depth}
use Rattle.c_syntax.specs.Plain.{plain_stmts}
use Rattle.c_syntax.specs.Text.{stmts_text}
use Rattle.c_text.proofs.stmts.+stmt.Given as goal

abbrev pub invariant-put_stmts-loop-s : goal.invariant-put_stmts-loop-s
invariant-put_stmts-loop-s l = record {
  text : l.out.items ++ stmts_text l.level (plain_stmts (drop l.s-index l.list)) ≡ l.initial.out.items ++ stmts_text l.level (plain_stmts l.list);
  depth : l.level + stmts_depth (plain_stmts (drop l.s-index l.list)) ≤ deepest;
}
