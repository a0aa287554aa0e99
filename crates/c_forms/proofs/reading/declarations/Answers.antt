use Rattle.std.proofs.Common.{sym, ◌∙◌}
use Rattle.std.proofs.lemmas.Result.{err_from_is_err_and}
use Rattle.pl_readers.proofs.Failing.{Fails-if}
use Rattle.c_forms.specs.Plain.{plain_source}
use Rattle.c_forms.proofs.SourceReads.{source_goes, source_stops, source_shorter, source_ends}
use Rattle.c_forms.proofs.reading.declarations.Goals as goal

pub returns-then-begins : goal.returns-then-begins
returns-then-begins c =
    rw (sym c.items.invariant ∙ source_ends (plain_source c.items.begun) c.items.rest.now (sym c.begins.ensures ∙ c.if-begins.true)) c.finished.ensures

pub returns-in_err-more : goal.returns-in_err-more
returns-in_err-more c =
    let p = err_from_is_err_and c.from_residual.result c.from_residual.ensures.1 in
    rw (p.1, p.2) (Fails-if _ _ _ c.in_err-more.ensures
    (λ s e. sym c.items.invariant ∙ source_stops (plain_source c.items.begun) c.items.rest.now s (sym c.begins.ensures ∙ c.if-begins.false) e))

pub items-smaller : goal.items-smaller
items-smaller c = source_shorter (plain_source c.items.begun) (plain_source c.in_ok-more.more) c.items.rest.now c.in_ok-more.behind.now (sym c.begins.ensures ∙ c.if-begins.false) c.in_ok-more.ensures

pub items-preserved : goal.items-preserved
items-preserved c =
    sym (source_goes (plain_source c.items.begun) (plain_source c.in_ok-more.more) c.items.rest.now c.in_ok-more.behind.now (sym c.begins.ensures ∙ c.if-begins.false) c.in_ok-more.ensures) ∙ c.items.invariant
