use Rattle.std.proofs.Common.{◌≡◌, map}
use Rattle.pl_readers.specs.Reader.{onto, many}
use Rattle.pl_syntax.specs.Plain.{plain_decl}
use Rattle.pl_grammar.specs.Signs.{token_in}
use Rattle.pl_grammar.specs.FileReaders as read
use Rattle.pl_parser.proofs.files.declarations.Given as goal

abbrev pub invariant-turns : goal.invariant-turns
invariant-turns l =
    onto (map plain_decl l.all.items) (many l.room (token_in read.declaration_firsts) (read.declaration l.depth)) l.rest ≡ many l.limit (token_in read.declaration_firsts) (read.declaration l.depth) l.tokens

abbrev pub decreases-turns : goal.decreases-turns
decreases-turns l = l.room
