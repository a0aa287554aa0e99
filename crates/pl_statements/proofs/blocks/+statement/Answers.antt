use Rattle.std.proofs.Common.{◌∷◌, [], map, sym, ◌∙◌, arith}
use Rattle.std.proofs.lemmas.Result.{err_from_is_err_and}
use Rattle.std.proofs.lemmas.List.{map-append}
use Rattle.pl_readers.proofs.Turns.{turn-begins, turn-goes, turn-stops, turn-ends}
use Rattle.pl_readers.proofs.Failing.{Fails-if}
use Rattle.pl_grammar.specs.Signs.{token_in}
use Rattle.pl_readers.specs.Reader.{repeat}
use Rattle.pl_grammar.specs.StatementReaders as read
use Rattle.pl_syntax.specs.Plain.{plain_stmt}
use Rattle.pl_grammar.proofs.StatementFormats.{format_any_statement, format_block}
use Rattle.pl_statements.proofs.Braces.{no_block, block_left}
use Rattle.pl_statements.proofs.blocks.+statement.Goals as goal

pub block-returns-then-depth-eq0-clause-value : goal.block-returns-then-depth-eq0-clause-value
block-returns-then-depth-eq0-clause-value t c = rw (c.no_brace.ensures, c.if-depth-eq0.true) (no_block c.args.tokens.now)

pub block-returns-clause-value : goal.block-returns-clause-value
block-returns-clause-value t c = rw (block_left c.args.depth c.args.tokens.now (omega arith)) c.block_of.ensures.value

pub statements-turns-init : goal.statements-turns-init
statements-turns-init t c = record { same = rw c.new-all.ensures.items (turn-begins (repeat (token_in read.statement_firsts) (read.statement c.args.depth (read.block c.args.depth))) c.args.tokens.now); less = omega arith }

pub statements-turns-preserved : goal.statements-turns-preserved
statements-turns-preserved t c =
    record {
      same = rw (c.in_ok-push.ensures.items, map-append plain_stmt c.turns.all.items (c.in_ok-item.item ∷ [])) (sym (turn-goes _ _ _ _ _ (format_any_statement c.args.depth (format_block c.args.depth)).reads (format_any_statement c.args.depth (format_block c.args.depth)).starts (map plain_stmt c.turns.all.items) (plain_stmt c.in_ok-item.item) c.turns.rest.now c.in_ok-item.after.now (sym c.begins_statement.ensures ∙ c.turns-test.true) c.in_ok-item.ensures.value) ∙ c.turns.invariant.same);
      less = omega (arith, c.in_ok-item.ensures.less, c.turns.invariant.less);
    }

pub statements-returns-in_err-item-clause-value : goal.statements-returns-in_err-item-clause-value
statements-returns-in_err-item-clause-value t c =
    let p = err_from_is_err_and c.from_residual.result c.from_residual.ensures.1 in
    rw (p.1, p.2) (Fails-if _ _ _ c.in_err-item.ensures.value
    (λ s e. sym c.turns.invariant.same ∙ turn-stops _ _ _ _ _ (format_any_statement c.args.depth (format_block c.args.depth)).reads (format_any_statement c.args.depth (format_block c.args.depth)).starts (map plain_stmt c.turns.all.items) c.turns.rest.now s (sym c.begins_statement.ensures ∙ c.turns-test.true) e))

pub statements-returns-clause-value : goal.statements-returns-clause-value
statements-returns-clause-value t c =
    rw c.of.ensures (sym c.turns.invariant.same ∙ turn-ends _ _ _ _ _ (format_any_statement c.args.depth (format_block c.args.depth)).reads (format_any_statement c.args.depth (format_block c.args.depth)).starts (map plain_stmt c.turns.all.items) c.turns.rest.now (sym c.begins_statement.ensures ∙ c.turns-test.false))
