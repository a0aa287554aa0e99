use Rattle.std.proofs.Common.{◌≡◌, ◌≤◌, ◌∷◌, [], map, length}
use Rattle.pl_readers.specs.Reader.{onto}
use Rattle.pl_syntax.specs.Plain.{plain_init}
use Rattle.pl_grammar.specs.StatementReaders as read
use Rattle.pl_statements.proofs.lets.more_inits.Given as goal

abbrev pub invariant-turns : goal.invariant-turns
invariant-turns l = record {
  same : onto (map plain_init l.all.items) (read.more_inits l.depth) l.rest ≡ onto ((plain_init l.fn.first) ∷ []) (read.more_inits l.depth) l.tokens;
  less : length l.rest ≤ length l.tokens;
}

abbrev pub decreases-turns : goal.decreases-turns
decreases-turns l = length l.rest
