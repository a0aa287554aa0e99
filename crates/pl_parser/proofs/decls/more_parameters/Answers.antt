use Rattle.std.proofs.Common.{sym, ◌∙◌, arith}
use Rattle.std.proofs.lemmas.Result.{err_from_is_err_and}
use Rattle.pl_readers.proofs.Turns.{turn-goes, turn-stops, turn-ends}
use Rattle.pl_readers.proofs.Failing.{Fails-if}
use Rattle.pl_grammar.proofs.FileFormats.{format_next_parameter}
use Rattle.pl_parser.proofs.decls.more_parameters.Goals as goal

pub turns-preserved : goal.turns-preserved
turns-preserved c =
    record {
      same = rw c.in_ok-push-2.ensures.items (sym (turn-goes _ _ _ _ _ (format_next_parameter c.args.is_ghost).reads (format_next_parameter c.args.is_ghost).starts c.turns.all.items c.in_ok-item.item c.turns.rest.now c.in_ok-item.after.now (sym c.begins.ensures ∙ c.turns-test.true) c.in_ok-item.ensures.value) ∙ c.turns.invariant.same);
      less = omega (arith, c.in_ok-item.ensures.less, c.turns.invariant.less);
    }

pub returns-in_err-item-clause-value : goal.returns-in_err-item-clause-value
returns-in_err-item-clause-value c =
    let p = err_from_is_err_and c.from_residual-in_err-item.result c.from_residual-in_err-item.ensures.1 in
    rw (p.1, p.2) (Fails-if _ _ _ c.in_err-item.ensures.value
    (λ s e. sym c.turns.invariant.same ∙ turn-stops _ _ _ _ _ (format_next_parameter c.args.is_ghost).reads (format_next_parameter c.args.is_ghost).starts c.turns.all.items c.turns.rest.now s (sym c.begins.ensures ∙ c.turns-test.true) e))

pub returns-clause-value : goal.returns-clause-value
returns-clause-value c =
    rw c.of.ensures (sym c.turns.invariant.same ∙ turn-ends _ _ _ _ _ (format_next_parameter c.args.is_ghost).reads (format_next_parameter c.args.is_ghost).starts c.turns.all.items c.turns.rest.now (sym c.begins.ensures ∙ c.turns-test.false))
