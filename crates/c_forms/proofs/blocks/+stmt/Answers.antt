use Rattle.std.proofs.Common.{◌+◌, ◌∷◌, [], map, sym, ◌∙◌}
use Rattle.std.proofs.lemmas.Result.{err_from_is_err_and}
use Rattle.std.proofs.lemmas.List.{map-append}
use Rattle.pl_readers.proofs.Correct.{shorter}
use Rattle.pl_readers.proofs.Turns.{turn-begins, turn-goes, turn-stops, turn-ends}
use Rattle.std.specs.Prelude.{codes}
use Rattle.pl_readers.proofs.Failing.{Fails-if, Fails-then}
use Rattle.c_forms.proofs.PlainLaws.{plain_while}
use Rattle.c_forms.proofs.Ended.{ended_goes, ended_fails, while_fails, while_goes}
use Rattle.c_forms.specs.Plain.{plain_stmt}
use Rattle.c_forms.proofs.StmtReads.{stmt_is, reads_row, starts_row}
use Rattle.pl_readers.specs.Bytes.{is}
use Rattle.pl_readers.specs.Reader.{repeat}
use Rattle.c_forms.specs.StmtReaders as spec
use Rattle.c_forms.proofs.blocks.+stmt.Goals as goal

pub more_rows-items-init : goal.more_rows-items-init
more_rows-items-init t c = rw c.new-all.ensures.items (turn-begins (repeat (is 32) (spec.row c.args.level (spec.stmt c.args.nesting (c.args.level + 1)))) c.args.bytes.now)

pub more_rows-returns-in_err-item : goal.more_rows-returns-in_err-item
more_rows-returns-in_err-item t c =
    let p = err_from_is_err_and c.from_residual.result c.from_residual.ensures.1 in
    rw (p.1, p.2) (Fails-if _ _ _ c.in_err-item.ensures
    (λ s e. sym c.items.invariant ∙ turn-stops _ _ _ _ _ (reads_row c.args.nesting c.args.level) (starts_row c.args.nesting c.args.level) (map plain_stmt c.items.all.items) c.items.rest.now s (sym c.begins.ensures ∙ c.items-test.true) e))

pub more_rows-items-smaller : goal.more_rows-items-smaller
more_rows-items-smaller t c = shorter _ _ _ _ _ (reads_row c.args.nesting c.args.level) (starts_row c.args.nesting c.args.level) c.items.rest.now (plain_stmt c.in_ok-item.item) c.in_ok-item.behind.now c.in_ok-item.ensures

pub more_rows-items-preserved : goal.more_rows-items-preserved
more_rows-items-preserved t c =
    rw (c.in_ok-push.ensures.items, map-append plain_stmt c.items.all.items (c.in_ok-item.item ∷ []))
    (sym (turn-goes _ _ _ _ _ (reads_row c.args.nesting c.args.level) (starts_row c.args.nesting c.args.level) (map plain_stmt c.items.all.items) (plain_stmt c.in_ok-item.item) c.items.rest.now c.in_ok-item.behind.now (sym c.begins.ensures ∙ c.items-test.true) c.in_ok-item.ensures) ∙ c.items.invariant)

pub more_rows-returns : goal.more_rows-returns
more_rows-returns t c =
    rw c.exact.ensures (sym c.items.invariant ∙ turn-ends _ _ _ _ _ (reads_row c.args.nesting c.args.level) (starts_row c.args.nesting c.args.level) (map plain_stmt c.items.all.items) c.items.rest.now (sym c.begins.ensures ∙ c.items-test.false))

pub stmt-returns : goal.stmt-returns
stmt-returns t c = rw (stmt_is c.args.nesting c.args.level) c.by_first.ensures

pub turns-returns-in_err-body : goal.turns-returns-in_err-body
turns-returns-in_err-body t c =
    let p = err_from_is_err_and c.from_residual-in_err-body.result c.from_residual-in_err-body.ensures.1 in
    rw (p.1, p.2) (while_fails _ c.args.level (spec.stmt c.args.nesting (c.args.level + 1)) c.args.bytes.now _ _ _ _ c.in_ok-rest.ensures c.in_ok-loads.ensures (Fails-then _ _ _ c.in_err-body.ensures))

pub turns-returns-in_err-rest-2 : goal.turns-returns-in_err-rest-2
turns-returns-in_err-rest-2 t c =
    let p = err_from_is_err_and c.from_residual-in_err-rest-2.result c.from_residual-in_err-rest-2.ensures.1 in
    rw (p.1, p.2) (while_fails _ c.args.level (spec.stmt c.args.nesting (c.args.level + 1)) c.args.bytes.now _ _ _ _ c.in_ok-rest.ensures c.in_ok-loads.ensures (ended_fails _ (spec.rows c.args.level (spec.stmt c.args.nesting (c.args.level + 1))) (codes "}\n") _ _ _ c.in_ok-body.ensures c.in_err-rest-2.ensures))

pub turns-returns : goal.turns-returns
turns-returns t c =
    rw (plain_while c.in_ok-loads.loads c.in_ok-loads.test c.in_ok-body.body)
    (while_goes c.args.level (spec.stmt c.args.nesting (c.args.level + 1)) c.args.bytes.now _ _ _ _ _ _ c.in_ok-rest.ensures c.in_ok-loads.ensures (ended_goes (spec.rows c.args.level (spec.stmt c.args.nesting (c.args.level + 1))) (codes "}\n") _ _ _ _ c.in_ok-body.ensures c.in_ok-rest-2.ensures))
