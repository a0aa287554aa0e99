use Rattle.std.proofs.Common.{◌∙◌, ◌+◌, sym, ap, drop}
use Rattle.c_forms.specs.Plain.{plain_stmt, plain_stmts}
use Rattle.c_rules.specs.Groups.{put_all, stmt_starts, stmts_starts}
use Rattle.c_rules.specs.Seen.{taken_in}
use Rattle.c_rules.proofs.Drops.{dropped}
use Rattle.c_rules.proofs.SeenLaws.{put_all_append}
use Rattle.c_rules.proofs.StmtLaws.{plain_stmt-If}
use Rattle.c_rules.proofs.started.+starts.Goals as goal

pub add_stmt-returns-in_ok-add_stmts-in-If-2 : goal.add_stmt-returns-in_ok-add_stmts-in-If-2
add_stmt-returns-in_ok-add_stmts-in-If-2 t c =
    let first = stmts_starts (plain_stmts c.in-If.first) in
    let second = stmts_starts (plain_stmts c.in-If.second) in
    let before = taken_in c.args.seen.now in
    let e = ap plain_stmt c.in-If.is ∙ plain_stmt-If c.in-If.field-0 c.in-If.first c.in-If.second in
    c.in_ok-add_stmts-in-If-2.ensures
    ∙ ap (λ xs. put_all (stmts_starts (plain_stmts xs)) (taken_in c.add_stmts.new.seen)) c.as_slice-in-If.ensures
    ∙ ap (put_all second) (c.in_ok-add_stmts-in-If.ensures ∙ ap (λ xs. put_all (stmts_starts (plain_stmts xs)) before) c.as_slice.ensures)
    ∙ sym (put_all_append first second before)
    ∙ ap (λ s. put_all (stmt_starts s) before) (sym e)

pub add_stmts-loop-s-preserved : goal.add_stmts-loop-s-preserved
add_stmts-loop-s-preserved t c =
    let list = c.args.list.now in
    let i = c.loop-s.s-index in
    let x = c.s-item.result in
    let rest = plain_stmts (drop (i + 1) list) in
    let before = taken_in c.loop-s.seen in
    let parts = ap plain_stmts (dropped list i x c.loop-s-test.true c.s-item.is) in
    ap (put_all (stmts_starts rest)) c.in_ok-add_stmt.ensures
    ∙ sym (ap (λ xs. put_all (stmts_starts xs) before) parts ∙ put_all_append (stmt_starts (plain_stmt x)) (stmts_starts rest) before)
    ∙ c.loop-s.invariant
