use Rattle.std.proofs.Common.{◌≡◌, ◌≤◌, Some, None, length, slice_get, arith, refl, ap}
use Rattle.std.proofs.lemmas.Option.{slice_get_past, slice_get_read}
use Rattle.std.specs.Str.{bytes_eq}
use Rattle.std.specs.HashMap.{get_by}
use Rattle.pl_walk.specs.declared.known.Block.{Block}
use Rattle.pl_walk.proofs.BlockLaws.{died_at, not_there}
use Rattle.pl_walk.proofs.known.Known.release.Goals as goal

pub returns-then-place-len : goal.returns-then-place-len
returns-then-place-len c =
    let past : length c.args.self.now.blocks.items ≤ c.args.variable = omega (arith, c.len.ensures) in
    (refl, not_there c.args.variable c.args.self.now.blocks.items (slice_get_past c.args.self.now.blocks.items c.args.variable past))

pub returns : goal.returns
returns c =
    let bs = c.args.self.now.blocks.items in
    let at : slice_get bs c.args.variable ≡ Some c.index.result.now = slice_get_read bs (length bs) c.args.variable c.index.result.now refl (omega (arith, c.len.ensures)) c.index.ensures in
    let at_mut : slice_get bs c.args.variable ≡ Some c.index_mut.result.now = slice_get_read bs (length bs) c.args.variable c.index_mut.result.now refl (omega (arith, c.len.ensures)) c.index_mut.ensures.value in
    let same : c.index_mut.result.now ≡ c.index.result.now = cc in
    died_at (λ y. get_by (λ k. bytes_eq y k.now) c.args.self.now.names) c.args.variable bs c.index.result.now (record { name = c.index_mut.result.now.name; value = None }) at (ap (λ (b : Block). b.name) same) refl
