use Rattle.std.proofs.Common.{sym, ◌∙◌}
use Rattle.std.proofs.lemmas.Result.{err_from_is_err_and}
use Rattle.pl_readers.proofs.Correct.{shorter}
use Rattle.pl_readers.proofs.Turns.{turn-begins, turn-goes, turn-stops, turn-ends}
use Rattle.pl_readers.proofs.Failing.{Fails-if}
use Rattle.c_forms.proofs.SourceReads.{reads_slot, starts_slot}
use Rattle.pl_readers.specs.Bytes.{is}
use Rattle.pl_readers.specs.Reader.{repeat}
use Rattle.c_forms.specs.SourceReaders as spec
use Rattle.c_forms.proofs.starters.more_slots.Goals as goal

pub items-init : goal.items-init
items-init c = rw c.new-all.ensures.items (turn-begins (repeat (is 32) spec.slot) c.args.bytes.now)

pub returns-in_err-item : goal.returns-in_err-item
returns-in_err-item c =
    let p = err_from_is_err_and c.from_residual.result c.from_residual.ensures.1 in
    rw (p.1, p.2) (Fails-if _ _ _ c.in_err-item.ensures
    (λ s e. sym c.items.invariant ∙ turn-stops _ _ _ _ _ reads_slot starts_slot c.items.all.items c.items.rest.now s (sym c.begins.ensures ∙ c.items-test.true) e))

pub items-smaller : goal.items-smaller
items-smaller c = shorter _ _ _ _ _ reads_slot starts_slot c.items.rest.now c.in_ok-item.item c.in_ok-item.behind.now c.in_ok-item.ensures

pub items-preserved : goal.items-preserved
items-preserved c =
    rw c.in_ok-push.ensures.items
    (sym (turn-goes _ _ _ _ _ reads_slot starts_slot c.items.all.items c.in_ok-item.item c.items.rest.now c.in_ok-item.behind.now (sym c.begins.ensures ∙ c.items-test.true) c.in_ok-item.ensures) ∙ c.items.invariant)

pub returns : goal.returns
returns c =
    rw c.exact.ensures (sym c.items.invariant ∙ turn-ends _ _ _ _ _ reads_slot starts_slot c.items.all.items c.items.rest.now (sym c.begins.ensures ∙ c.items-test.false))
