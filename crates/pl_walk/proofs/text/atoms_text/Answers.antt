use Rattle.std.proofs.Common.{◌≡◌, ◌-◌, length, drop, take, ◌∙◌, arith, length-drop}
use Rattle.std.proofs.lemmas.List.{take_all}
use Rattle.pl_walk.proofs.TextLaws.{some_text, no_text}
use Rattle.pl_walk.proofs.text.atoms_text.Goals as goal

pub returns-in-len4-up : goal.returns-in-len4-up
returns-in-len4-up c =
    let text = c.as_slice.result.now in
    let all : take (length text - 4) (drop 4 text) ≡ drop 4 text = take_all (length text - 4) (drop 4 text) (omega (arith, length-drop 4 text)) in
    some_text c.args.blocks.now text c.of.result (c.as_slice.ensures.value ∙ c.in_ok-text.ensures) (c.of.ensures ∙ c.in_ok-from_slice-in-len4-up.ensures.items ∙ all) c.in-len4-up.len_at_least

pub returns : goal.returns
returns c = no_text c.args.blocks.now c.as_slice.result.now (c.as_slice.ensures.value ∙ c.in_ok-text.ensures) c.in_default.len_below
