use Rattle.std.proofs.Common.{◌≡◌, ◌≤◌, ◌∷◌, [], map, length}
use Rattle.pl_readers.specs.Reader.{onto}
use Rattle.pl_syntax.specs.Plain.{plain_expr}
use Rattle.pl_grammar.specs.PropReaders as read
use Rattle.pl_grammar.proofs.terms.more_values.Given as goal

abbrev pub invariant-turns : goal.invariant-turns
invariant-turns l = record {
  same : onto (map plain_expr l.all.items) (read.more_values l.depth l.used) l.rest ≡ onto ((plain_expr l.fn.first) ∷ []) (read.more_values l.depth l.used) l.tokens;
  less : length l.rest ≤ length l.tokens;
}

abbrev pub decreases-turns : goal.decreases-turns
decreases-turns l = length l.rest
