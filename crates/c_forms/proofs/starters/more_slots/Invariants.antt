use Rattle.std.proofs.Common.{◌≡◌, length}
use Rattle.pl_readers.specs.Bytes.{is}
use Rattle.pl_readers.specs.Reader.{onto, repeat}
use Rattle.c_forms.specs.SourceReaders as spec
use Rattle.c_forms.proofs.starters.more_slots.Given as goal

abbrev pub invariant-items : goal.invariant-items
invariant-items l =
    onto l.all.items (repeat (is 32) (spec.slot)) l.rest ≡ repeat (is 32) (spec.slot) l.bytes

abbrev pub decreases-items : goal.decreases-items
decreases-items l = length l.rest
