use Rattle.std.proofs.Common.{◌≡◌, drop}
use Rattle.c_rules.specs.Groups.{bind_params}
use Rattle.c_rules.specs.Locals.{scope_of}
use Rattle.c_rules.proofs.funs.bind_params.Given as goal

abbrev pub invariant-loop-p : goal.invariant-loop-p
invariant-loop-p l = bind_params (scope_of l.locals.slots.items) (drop l.p-index l.list) ≡ bind_params (scope_of l.initial.locals.slots.items) l.list
