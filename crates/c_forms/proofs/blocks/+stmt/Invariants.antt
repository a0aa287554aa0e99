use Rattle.std.proofs.Common.{◌≡◌, ◌+◌, ◌*◌, length, map}
use Rattle.pl_readers.specs.Bytes.{is}
use Rattle.pl_readers.specs.Reader.{onto, repeat}
use Rattle.c_forms.specs.StmtReaders as spec
use Rattle.c_forms.specs.Plain.{plain_stmt}
use Rattle.c_forms.proofs.blocks.+stmt.Given as goal

abbrev pub decreases-begun_i : goal.decreases-begun_i
decreases-begun_i l = 10 * l.nesting

abbrev pub decreases-begun_otherwise : goal.decreases-begun_otherwise
decreases-begun_otherwise l = 10 * l.nesting

abbrev pub decreases-block_or_return : goal.decreases-block_or_return
decreases-block_or_return l = 10 * l.nesting + 7

abbrev pub decreases-branch : goal.decreases-branch
decreases-branch l = 10 * l.nesting + 6

abbrev pub decreases-by_first : goal.decreases-by_first
decreases-by_first l = 10 * l.nesting + 1

abbrev pub decreases-more_rows : goal.decreases-more_rows
decreases-more_rows l = 10 * l.nesting + 4

abbrev pub decreases-row : goal.decreases-row
decreases-row l = 10 * l.nesting + 3

abbrev pub decreases-rows : goal.decreases-rows
decreases-rows l = 10 * l.nesting + 5

abbrev pub decreases-stmt : goal.decreases-stmt
decreases-stmt l = 10 * l.nesting + 2

abbrev pub decreases-turns : goal.decreases-turns
decreases-turns l = 10 * l.nesting + 6

abbrev pub invariant-more_rows-items : goal.invariant-more_rows-items
invariant-more_rows-items l =
    onto (map plain_stmt l.all.items) (repeat (is 32) (spec.row l.level (spec.stmt l.nesting (l.level + 1)))) l.rest
    ≡ repeat (is 32) (spec.row l.level (spec.stmt l.nesting (l.level + 1))) l.bytes

abbrev pub decreases-more_rows-items : goal.decreases-more_rows-items
decreases-more_rows-items l = length l.rest
