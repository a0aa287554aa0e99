use Rattle.std.proofs.Common.{sym, ◌∙◌}
use Rattle.std.proofs.lemmas.Result.{err_from_is_err_and}
use Rattle.pl_readers.proofs.Correct.{shorter}
use Rattle.pl_readers.proofs.Turns.{turn-goes, turn-stops, turn-ends}
use Rattle.pl_readers.proofs.Failing.{Fails-if}
use Rattle.c_forms.proofs.SourceReads.{reads_member, starts_member}
use Rattle.c_forms.proofs.structs.more_members.Goals as goal

pub returns-in_err-item : goal.returns-in_err-item
returns-in_err-item c =
    let p = err_from_is_err_and c.from_residual.result c.from_residual.ensures.1 in
    rw (p.1, p.2) (Fails-if _ _ _ c.in_err-item.ensures
    (λ s e. sym c.items.invariant ∙ turn-stops _ _ _ _ _ reads_member starts_member c.items.all.items c.items.rest.now s (sym c.begins.ensures ∙ c.items-test.true) e))

pub items-smaller : goal.items-smaller
items-smaller c = shorter _ _ _ _ _ reads_member starts_member c.items.rest.now c.in_ok-item.item c.in_ok-item.behind.now c.in_ok-item.ensures

pub items-preserved : goal.items-preserved
items-preserved c =
    rw c.in_ok-push.ensures.items
    (sym (turn-goes _ _ _ _ _ reads_member starts_member c.items.all.items c.in_ok-item.item c.items.rest.now c.in_ok-item.behind.now (sym c.begins.ensures ∙ c.items-test.true) c.in_ok-item.ensures) ∙ c.items.invariant)

pub returns : goal.returns
returns c =
    rw c.exact.ensures (sym c.items.invariant ∙ turn-ends _ _ _ _ _ reads_member starts_member c.items.all.items c.items.rest.now (sym c.begins.ensures ∙ c.items-test.false))
