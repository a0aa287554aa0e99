use Rattle.std.proofs.Common.{◌≡◌, map, drop}
use Rattle.c_forms.specs.Plain as written
use Rattle.c_syntax.specs.Plain.{plain_stmt}
use Rattle.c_reader.specs.Follow.{follow}
use Rattle.c_reader.specs.Standing as spec
use Rattle.c_reader.proofs.lines.loads_of.Given as goal

abbrev pub invariant-loop-l : goal.invariant-loop-l
invariant-loop-l l = follow (map plain_stmt l.made.items) (spec.loads_of (map written.plain_load (drop l.l-index l.list))) ≡ spec.loads_of (map written.plain_load l.list)
