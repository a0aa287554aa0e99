use Rattle.std.proofs.Common.{◌≡◌, ◌≤◌, map, length}
use Rattle.pl_readers.specs.Reader.{onto}
use Rattle.pl_syntax.specs.Plain.{plain_stmt}
use Rattle.pl_grammar.specs.StatementReaders as read
use Rattle.pl_statements.proofs.blocks.loads.Given as goal

abbrev pub invariant-turns : goal.invariant-turns
invariant-turns l = record {
  same : onto (map plain_stmt l.all.items) (read.loads l.depth) l.rest ≡ read.loads l.depth l.tokens;
  less : length l.rest ≤ length l.tokens;
}

abbrev pub decreases-turns : goal.decreases-turns
decreases-turns l = length l.rest
