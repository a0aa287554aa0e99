use Rattle.std.proofs.Common.{◌≡◌, ◌≤◌, ◌+◌, ◌*◌, map, length}
use Rattle.pl_readers.specs.Reader.{onto, repeat}
use Rattle.pl_syntax.specs.Plain.{plain_stmt}
use Rattle.pl_grammar.specs.Signs.{token_in}
use Rattle.pl_grammar.specs.StatementReaders as read
use Rattle.pl_statements.proofs.blocks.+statement.Given as goal

abbrev pub decreases-block : goal.decreases-block
decreases-block l = 10 * l.depth

abbrev pub decreases-block_of : goal.decreases-block_of
decreases-block_of l = 10 * l.depth + 5

abbrev pub decreases-second_block : goal.decreases-second_block
decreases-second_block l = 10 * l.depth + 1

abbrev pub decreases-if_rule : goal.decreases-if_rule
decreases-if_rule l = 10 * l.depth + 2

abbrev pub decreases-while_rule : goal.decreases-while_rule
decreases-while_rule l = 10 * l.depth + 2

abbrev pub decreases-with_rule : goal.decreases-with_rule
decreases-with_rule l = 10 * l.depth + 2

abbrev pub decreases-statement : goal.decreases-statement
decreases-statement l = 10 * l.depth + 3

abbrev pub decreases-statements : goal.decreases-statements
decreases-statements l = 10 * l.depth + 4

abbrev pub invariant-statements-turns : goal.invariant-statements-turns
invariant-statements-turns l = record {
  same : onto (map plain_stmt l.all.items) (repeat (token_in read.statement_firsts) (read.statement l.depth (read.block l.depth))) l.rest ≡ repeat (token_in read.statement_firsts) (read.statement l.depth (read.block l.depth)) l.tokens;
  less : length l.rest ≤ length l.tokens;
}

abbrev pub decreases-statements-turns : goal.decreases-statements-turns
decreases-statements-turns l = length l.rest
