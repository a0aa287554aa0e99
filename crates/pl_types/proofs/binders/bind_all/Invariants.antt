use Rattle.std.proofs.Common.{◌≡◌, drop}
use Rattle.pl_syntax.specs.PropRules.{bind_all}
use Rattle.pl_types.proofs.binders.bind_all.Given as goal

abbrev pub invariant-loop-b : goal.invariant-loop-b
invariant-loop-b l = bind_all l.role (drop l.b-index l.list) l.scope ≡ bind_all l.role l.list l.initial.scope
