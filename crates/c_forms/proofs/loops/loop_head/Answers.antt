use Rattle.std.proofs.Common.{◌∷◌, [], map, sym, ap, Ok, ◌∙◌}
use Rattle.std.proofs.lemmas.Result.{err_from_is_err_and}
use Rattle.std.proofs.lemmas.List.{map-append}
use Rattle.pl_readers.proofs.Failing.{Fails-if}
use Rattle.c_forms.specs.Plain.{plain_expr, plain_load, plain_line}
use Rattle.c_forms.proofs.StmtReads.{head_goes, head_done, head_stops, head_shorter}
use Rattle.c_forms.proofs.loops.loop_head.Goals as goal

pub returns-in_err-line : goal.returns-in_err-line
returns-in_err-line c =
    let p = err_from_is_err_and c.from_residual.result c.from_residual.ensures.1 in
    rw (p.1, p.2) (Fails-if _ _ _ c.in_err-line.ensures
    (λ s e. sym c.items.invariant ∙ head_stops c.args.level (map plain_load c.items.all.items) c.items.rest.now s e))

pub items-smaller : goal.items-smaller
items-smaller c = head_shorter c.args.level (plain_line c.in_ok-line.line) c.items.rest.now c.in_ok-line.behind.now c.in_ok-line.ensures

pub items-preserved : goal.items-preserved
items-preserved c =
    let here = c.in_ok-line.ensures ∙ ap (λ l. Ok (plain_line l, c.in_ok-line.behind.now)) c.in-Load.is in
    rw (c.in_ok-push-in-Load.ensures.items, map-append plain_load c.items.all.items (c.in-Load.load ∷ []))
    (sym (head_goes c.args.level (map plain_load c.items.all.items) (plain_load c.in-Load.load) c.items.rest.now c.in_ok-line.behind.now here) ∙ c.items.invariant)

pub returns-in-Test : goal.returns-in-Test
returns-in-Test c =
    let here = c.in_ok-line.ensures ∙ ap (λ l. Ok (plain_line l, c.in_ok-line.behind.now)) c.in-Test.is in
    rw c.exact.ensures (sym c.items.invariant ∙ head_done c.args.level (map plain_load c.items.all.items) (plain_expr c.in-Test.test) c.items.rest.now c.in_ok-line.behind.now here)
