use Rattle.pl_grammar.proofs.Expecting.{on-whole, on-end, on-deep, on-none}
use Rattle.pl_grammar.proofs.laws.reading_on_tells.Goals as goal

pub returns-clause-all : goal.returns-clause-all
returns-clause-all c = on-whole

pub returns-clause-end : goal.returns-clause-end
returns-clause-end c = on-end

pub returns-clause-deep : goal.returns-clause-deep
returns-clause-deep c = on-deep

pub returns-clause-none : goal.returns-clause-none
returns-clause-none c = on-none
