use Rattle.std.proofs.Common.{◌≡◌, ◌≤◌, ◌∷◌, [], length}
use Rattle.pl_readers.specs.Reader.{onto}
use Rattle.pl_grammar.specs.FileReaders as read
use Rattle.pl_parser.proofs.decls.more_parameters.Given as goal

abbrev pub invariant-turns : goal.invariant-turns
invariant-turns l = record {
  same : onto (l.all.items) (read.more_parameters l.is_ghost) l.rest ≡ onto (l.fn.first ∷ []) (read.more_parameters l.is_ghost) l.tokens;
  less : length l.rest ≤ length l.tokens;
}

abbrev pub decreases-turns : goal.decreases-turns
decreases-turns l = length l.rest
