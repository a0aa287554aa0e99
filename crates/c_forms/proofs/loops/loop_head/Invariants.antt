use Rattle.std.proofs.Common.{◌≡◌, length, map, []}
use Rattle.c_forms.specs.Reading.{until}
use Rattle.c_forms.specs.StmtReaders as spec
use Rattle.c_forms.specs.Plain.{plain_load}
use Rattle.c_forms.proofs.loops.loop_head.Given as goal

abbrev pub invariant-items : goal.invariant-items
invariant-items l = until (spec.head_step l.level) (map plain_load l.all.items) l.rest ≡ until (spec.head_step l.level) [] l.bytes

abbrev pub decreases-items : goal.decreases-items
decreases-items l = length l.rest
