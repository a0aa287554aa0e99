use Rattle.std.proofs.Common.{◌≡◌, length}
use Rattle.std.specs.Prelude.{codes}
use Rattle.pl_readers.specs.Bytes.{is}
use Rattle.pl_readers.specs.Reader.{onto, repeat}
use Rattle.c_forms.specs.Reading.{after}
use Rattle.c_forms.specs.SourceReaders as spec
use Rattle.c_forms.proofs.heads.more_params.Given as goal

abbrev pub invariant-items : goal.invariant-items
invariant-items l =
    onto l.all.items (repeat (is 44) (after (codes ", ") spec.param)) l.rest ≡ onto l.initial.all.items (repeat (is 44) (after (codes ", ") spec.param)) l.bytes

abbrev pub decreases-items : goal.decreases-items
decreases-items l = length l.rest
