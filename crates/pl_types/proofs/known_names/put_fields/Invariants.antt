use Rattle.std.proofs.Common.{◌≡◌, drop}
use Rattle.pl_syntax.specs.Known.{put_fields}
use Rattle.pl_types.specs.Tables.{taken_in}
use Rattle.pl_types.proofs.known_names.put_fields.Given as goal

abbrev pub invariant-loop-b : goal.invariant-loop-b
invariant-loop-b l = put_fields (drop l.b-index l.list) (taken_in l.seen) ≡ put_fields l.list (taken_in l.initial.seen)
