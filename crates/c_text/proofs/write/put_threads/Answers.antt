use Rattle.std.proofs.Common.{◌∙◌, ◌+◌, [], ◌∷◌, ◌++◌, sym, ap, append_assoc, drop, filter, flat_map, map}
use Rattle.c_syntax.specs.Plain.{plain_fun}
use Rattle.c_syntax.specs.Text.{is_started, starter_text}
use Rattle.c_text.proofs.Texts.{starters-drop}
use Rattle.c_text.proofs.write.put_threads.Goals as goal

pub loop-function-preserved : goal.loop-function-preserved
loop-function-preserved c =
    let all = map plain_fun c.args.funs.now in
    let f = c.function-item.result in
    let one = flat_map starter_text (filter (is_started all) (plain_fun f ∷ [])) in
    let rest = flat_map starter_text (filter (is_started all) (map plain_fun (drop (c.loop-function.function-index + 1) c.args.funs.now))) in
    ap (λ z. z ++ rest) (c.in_ok-put_if_started.ensures all c.in_ok-names.ensures)
    ∙ append_assoc c.loop-function.out.items one rest
    ∙ ap (λ z. c.loop-function.out.items ++ z) (sym (starters-drop (is_started all) c.args.funs.now c.loop-function.function-index f c.loop-function-test.true c.function-item.is))
    ∙ c.loop-function.invariant
