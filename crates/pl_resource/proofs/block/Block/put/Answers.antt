use Rattle.std.proofs.Common.{refl}
use Rattle.pl_resource.proofs.Cut.{put_at, put_missing}
use Rattle.pl_resource.proofs.block.Block.put.Goals as goal

pub returns-in-Some : goal.returns-in-Some
returns-in-Some c =
    rw (← c.self.view_is, put_at c.self.inside.fields c.self.inside.count c.self.inside.values.items c.args.cell.index c.args.cell.field c.in-Some.place c.args.value c.in-Some.ensures.found) refl

pub returns-in_default : goal.returns-in_default
returns-in_default c =
    rw (← c.self.view_is, put_missing c.self.inside.fields c.self.inside.count c.self.inside.values.items c.args.cell.index c.args.cell.field c.args.value c.in_default.ensures.missing) refl
