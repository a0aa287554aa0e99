use Rattle.std.proofs.Common.{map, sym, subst, arith}
use Rattle.std.proofs.lemmas.List.{length-map}
use Rattle.std.proofs.lemmas.Result.{err_from_is_err_and}
use Rattle.pl_syntax.specs.Plain.{plain_stmt}
use Rattle.pl_terms.specs.Table.{Known}
use Rattle.pl_walk.specs.Shown.{known_of}
use Rattle.pl_walk.proofs.Reaching.{Reaches, reaches_first, reaches_ready, reaches_next, stops_with, reaches_end, item_at}
use Rattle.pl_walk.proofs.walk.walk_list.Goals as goal

pub loop-stmt-init : goal.loop-stmt-init
loop-stmt-init c =
    let P : Known → Type 0 = λ s. Reaches (map plain_stmt c.args.list.now) 0 s in
    subst P (sym c.new-known.ensures) (reaches_first (map plain_stmt c.args.list.now) c.requires)

pub walk_statement-requires : goal.walk_statement-requires
walk_statement-requires c =
    reaches_ready (map plain_stmt c.args.list.now) c.loop-stmt.stmt-index (known_of c.loop-stmt.known) c.loop-stmt.invariant (plain_stmt c.stmt-item.result)
    (item_at c.args.list.now c.loop-stmt.stmt-index c.stmt-item.result c.loop-stmt-test.true c.stmt-item.is)

pub returns-in_err-walk_statement : goal.returns-in_err-walk_statement
returns-in_err-walk_statement c =
    let p = err_from_is_err_and c.from_residual.result c.from_residual.ensures.1 in
    rw (p.1, p.2)
    (stops_with (map plain_stmt c.args.list.now) c.loop-stmt.stmt-index (known_of c.loop-stmt.known) c.loop-stmt.invariant (plain_stmt c.stmt-item.result)
    (item_at c.args.list.now c.loop-stmt.stmt-index c.stmt-item.result c.loop-stmt-test.true c.stmt-item.is) _ _ c.in_err-walk_statement.ensures)

pub loop-stmt-preserved : goal.loop-stmt-preserved
loop-stmt-preserved c =
    reaches_next (map plain_stmt c.args.list.now) c.loop-stmt.stmt-index (known_of c.loop-stmt.known) c.loop-stmt.invariant (plain_stmt c.stmt-item.result)
    (item_at c.args.list.now c.loop-stmt.stmt-index c.stmt-item.result c.loop-stmt-test.true c.stmt-item.is) (known_of c.walk_statement.new.known) c.in_ok-walk_statement.ensures

pub returns : goal.returns
returns c = reaches_end (map plain_stmt c.args.list.now) c.loop-stmt.stmt-index (known_of c.loop-stmt.known) c.loop-stmt.invariant (omega (arith, length-map c.args.list.now plain_stmt, c.loop-stmt-test.false))
