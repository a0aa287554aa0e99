use Rattle.std.proofs.Common.{◌≡◌, length}
use Rattle.c_forms.specs.Reading.{until}
use Rattle.c_forms.specs.SourceReaders as spec
use Rattle.c_forms.specs.Plain.{plain_source}
use Rattle.c_forms.proofs.reading.declarations.Given as goal

abbrev pub invariant-items : goal.invariant-items
invariant-items l = until spec.source_step (plain_source l.begun) l.rest ≡ until spec.source_step spec.empty l.bytes

abbrev pub decreases-items : goal.decreases-items
decreases-items l = length l.rest
