use Rattle.std.proofs.Common.{◌≡◌, drop}
use Rattle.pl_syntax.specs.Known.{sort_in}
use Rattle.pl_types.proofs.tables.sort_in.Given as goal

abbrev pub invariant-loop-b : goal.invariant-loop-b
invariant-loop-b l = sort_in l.name l.list ≡ sort_in l.name (drop l.b-index l.list)
