use Rattle.std.proofs.Common.{◌≡◌, length, map}
use Rattle.pl_readers.specs.Bytes.{is}
use Rattle.pl_readers.specs.Reader.{onto, repeat}
use Rattle.c_forms.specs.StmtReaders as spec
use Rattle.c_forms.specs.Plain.{plain_argument}
use Rattle.c_forms.proofs.pars.more_arguments.Given as goal

abbrev pub invariant-items : goal.invariant-items
invariant-items l =
    onto (map plain_argument l.all.items) (repeat (is 113) (spec.argument_row l.level)) l.rest ≡ repeat (is 113) (spec.argument_row l.level) l.bytes

abbrev pub decreases-items : goal.decreases-items
decreases-items l = length l.rest
