use Rattle.std.proofs.Common.{◌≡◌, length, map}
use Rattle.std.specs.Prelude.{codes}
use Rattle.pl_readers.specs.Bytes.{is}
use Rattle.pl_readers.specs.Reader.{onto, repeat}
use Rattle.c_forms.specs.Reading.{after}
use Rattle.c_forms.specs.ExprReaders as spec
use Rattle.c_forms.specs.Plain.{plain_expr}
use Rattle.c_forms.proofs.cells.more_exprs.Given as goal

abbrev pub invariant-items : goal.invariant-items
invariant-items l =
    onto (map plain_expr l.all.items) (repeat (is 44) (after (codes ", ") spec.expr)) l.rest ≡ onto (map plain_expr l.initial.all.items) (repeat (is 44) (after (codes ", ") spec.expr)) l.bytes

abbrev pub decreases-items : goal.decreases-items
decreases-items l = length l.rest
