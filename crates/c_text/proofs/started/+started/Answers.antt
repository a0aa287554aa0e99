use Rattle.std.proofs.Common.{◌+◌, drop}
use Rattle.c_syntax.specs.Plain.{plain_stmt, plain_stmts}
use Rattle.c_syntax.specs.Text.{stmt_starts, stmts_starts}
use Rattle.c_text.proofs.NameSets.{adds_more, leads_on}
use Rattle.c_text.proofs.Starts.{stmts_starts-drop, stmt_starts-If, stmt_starts-While}
use Rattle.c_text.proofs.started.+started.Goals as goal

pub add_stmt-returns-in_ok-add_stmts-in-If-2 : goal.add_stmt-returns-in_ok-add_stmts-in-If-2
add_stmt-returns-in_ok-add_stmts-in-If-2 t c =
    let first = stmts_starts (plain_stmts c.in-If.first) in
    let second = stmts_starts (plain_stmts c.in-If.second) in
    rw (c.in-If.is, stmt_starts-If c.in-If.field-0 c.in-If.first c.in-If.second) (adds_more (λ k. k.now) c.args.names.now c.add_stmts.new.names c.add_stmts-in-If.new.names first second
    (rw (← c.as_slice.ensures) c.in_ok-add_stmts-in-If.ensures) (rw (← c.as_slice-in-If.ensures) c.in_ok-add_stmts-in-If-2.ensures))

pub add_stmt-returns-in_ok-add_stmts-in-While-2 : goal.add_stmt-returns-in_ok-add_stmts-in-While-2
add_stmt-returns-in_ok-add_stmts-in-While-2 t c =
    let loads = stmts_starts (plain_stmts c.in-While.loads) in
    let body = stmts_starts (plain_stmts c.in-While.body) in
    rw (c.in-While.is, stmt_starts-While c.in-While.loads c.in-While.field-1 c.in-While.body) (adds_more (λ k. k.now) c.args.names.now c.add_stmts-in-While.new.names c.add_stmts-in-While-2.new.names loads body
    (rw (← c.as_slice-in-While.ensures) c.in_ok-add_stmts-in-While.ensures) (rw (← c.as_slice-in-While-2.ensures) c.in_ok-add_stmts-in-While-2.ensures))

pub add_stmts-loop-s-preserved : goal.add_stmts-loop-s-preserved
add_stmts-loop-s-preserved t c =
    leads_on (λ k. k.now) c.args.names.now c.loop-s.names c.add_stmt.new.names (stmts_starts (plain_stmts c.args.list.now)) (stmt_starts (plain_stmt c.s-item.result))
    (stmts_starts (plain_stmts (drop (c.loop-s.s-index + 1) c.args.list.now)))
    (rw (← stmts_starts-drop c.args.list.now c.loop-s.s-index c.s-item.result c.loop-s-test.true c.s-item.is) c.loop-s.invariant) c.in_ok-add_stmt.ensures
