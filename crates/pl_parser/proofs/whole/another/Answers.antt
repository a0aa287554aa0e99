use Rattle.pl_grammar.proofs.Within.{rest_within}
use Rattle.pl_parser.proofs.Another.{another_is, none_is}
use Rattle.pl_parser.proofs.whole.another.Goals as goal
use Rattle.pl_parser.proofs.whole.another.Goals.{in-Ok, in-Err-Stop, in-Err-Memory}

pub another_at-requires : goal.another_at-requires
another_at-requires c = rest_within c.args.tokens.now _ c.in-Ok.ensures

pub returns : goal.returns
returns c =
    elim c.match-declarations.branch [
      | in-Ok w ↦ rw (w.result-is, w.another_at.ensures) (another_is c.args.tokens.now _ w.in-Ok.ensures)
      | in-Err-Stop w ↦ let h = rw w.in-Err-Stop.field-0-is at w.in-Err-Stop.ensures in rw w.result-is (none_is c.args.tokens.now _ h)
      | in-Err-Memory w ↦ rw w.result-is tt
    ]
