use Rattle.std.proofs.Common.{◌≡◌, ◌≤◌, Some, length, slice_get, arith, refl}
use Rattle.std.proofs.lemmas.Option.{slice_get_past, slice_get_read}
use Rattle.pl_walk.proofs.BlockLaws.{looked_at, not_there}
use Rattle.pl_walk.proofs.known.Known.value_at.Goals as goal

pub returns-then-place-len : goal.returns-then-place-len
returns-then-place-len c =
    let past : length c.args.self.now.blocks.items ≤ c.args.variable = omega (arith, c.len.ensures) in
    not_there c.args.variable c.args.self.now.blocks.items (slice_get_past c.args.self.now.blocks.items c.args.variable past)

pub returns : goal.returns
returns c =
    let bs = c.args.self.now.blocks.items in
    let at : slice_get bs c.args.variable ≡ Some c.index.result.now = slice_get_read bs (length bs) c.args.variable c.index.result.now refl (omega (arith, c.len.ensures)) c.index.ensures in
    looked_at c.args.variable bs c.index.result.now at
