use Rattle.pl_lexer.proofs.Meanings.{all_kinds_are}
use Rattle.pl_lexer.proofs.Pieces.{apart_lexed}
use Rattle.pl_lexer.proofs.laws.pieces_are_found.Goals as goal

pub returns-clause-tokens : goal.returns-clause-tokens
returns-clause-tokens c = apart_lexed

pub returns-clause-kinds : goal.returns-clause-kinds
returns-clause-kinds c = all_kinds_are
