use Rattle.std.proofs.Common.{arith, take, drop, length-drop, ap, ◌∙◌, List, ℕ}
use Rattle.std.proofs.lemmas.List.{take_all}
use Rattle.pl_base.proofs.Places.{moved}
use Rattle.pl_base.proofs.store.Store.read.Goals as goal

pub returns-clause-bytes : goal.returns-clause-bytes
returns-clause-bytes c =
    let r = c.args.self.now.read in
    let n = c.min-count.result in
    let ys = c.as_slice.result.now in
    let front = c.copy_from_slice.ensures.after ∙ ap (take n) (take_all _ _ (omega (arith, length-drop r ys))) ∙ ap (λ (t : List ℕ). take n (drop r t)) c.as_slice.ensures.value in
    moved c.args.self.now.input.items c.copy_from_slice.new.self c.split_at_mut-front.result.1.now r n front (omega arith)
