use Rattle.std.proofs.Common.{List, ℕ, ◌∷◌, ◌∙◌, ap, sym}
use Rattle.pl_top.specs.Input.{lines_of}
use Rattle.pl_top.proofs.InputLines.{first_split, none_behind, all_behind}
use Rattle.pl_top.proofs.input.first_line.Goals as goal

pub returns-in-empty-clause-lines : goal.returns-in-empty-clause-lines
returns-in-empty-clause-lines c =
    let front = c.split_at.result.0.now in
    first_split c.args.bytes.now front c.split_at.result.1.now c.line_len-at.result c.requires c.line_len-at.ensures.value c.split_at.ensures.front c.split_at.ensures.back
    ∙ ap (λ (l : List ℕ). front ∷ lines_of l) (none_behind _ c.in-empty.len_below)

pub returns-in-len1-up-clause-lines : goal.returns-in-len1-up-clause-lines
returns-in-len1-up-clause-lines c =
    let front = c.split_at.result.0.now in
    first_split c.args.bytes.now front c.split_at.result.1.now c.line_len-at.result c.requires c.line_len-at.ensures.value c.split_at.ensures.front c.split_at.ensures.back
    ∙ sym (ap (λ (l : List ℕ). front ∷ lines_of l) (all_behind c.split_at.result.1.now))
