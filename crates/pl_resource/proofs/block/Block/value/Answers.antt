use Rattle.std.proofs.Common.{Ok, ap, refl}
use Rattle.pl_resource.proofs.Cut.{value_there, value_missing}
use Rattle.pl_resource.proofs.block.Block.value.Goals as goal

pub returns-in-Some : goal.returns-in-Some
returns-in-Some c =
    rw (← c.self.view_is, value_there c.self.inside.fields c.self.inside.count c.self.inside.values.items c.args.cell.index c.args.cell.field c.in-Some.place c.index.result.now c.self.invariant c.in-Some.ensures.found) (ap Ok c.index.ensures)

pub returns-in-None : goal.returns-in-None
returns-in-None c =
    rw (← c.self.view_is, value_missing c.self.inside.fields c.self.inside.count c.self.inside.values.items c.args.cell.index c.args.cell.field c.in-None.ensures.missing) refl
