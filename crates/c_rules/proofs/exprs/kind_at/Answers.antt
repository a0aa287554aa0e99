use Rattle.std.proofs.Common.{◌∙◌, ap}
use Rattle.c_rules.specs.Locals.{look}
use Rattle.c_rules.specs.Sorts.{local_of}
use Rattle.c_rules.proofs.Scopes.{look_is}
use Rattle.c_rules.proofs.exprs.kind_at.Goals as goal

pub returns : goal.returns
returns c =
    let x = c.args.x.now in
    let slots = c.args.locals.now.slots.items in
    c.kind_of.ensures ∙ ap (look slots x.name) c.number_of.ensures ∙ look_is slots (local_of x)
