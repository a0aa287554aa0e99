use Rattle.pl_lexer.proofs.Meanings.{kind_of_blank, kind_of_name, kind_of_number}
use Rattle.pl_lexer.proofs.Pieces.{kind_of_sign}
use Rattle.pl_lexer.proofs.laws.pieces_stand_for.Goals as goal

pub returns-clause-blank : goal.returns-clause-blank
returns-clause-blank c = kind_of_blank

pub returns-clause-sign : goal.returns-clause-sign
returns-clause-sign c = kind_of_sign

pub returns-clause-name : goal.returns-clause-name
returns-clause-name c = kind_of_name

pub returns-clause-number : goal.returns-clause-number
returns-clause-number c = kind_of_number
