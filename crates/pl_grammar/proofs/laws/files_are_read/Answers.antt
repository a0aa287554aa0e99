use Rattle.pl_grammar.proofs.Answered.{found, only, first_refused, needs_more}
use Rattle.pl_grammar.proofs.laws.files_are_read.Goals as goal

pub returns-clause-found : goal.returns-clause-found
returns-clause-found c = found

pub returns-clause-only : goal.returns-clause-only
returns-clause-only c = only

pub returns-clause-refused : goal.returns-clause-refused
returns-clause-refused c = first_refused

pub returns-clause-deep : goal.returns-clause-deep
returns-clause-deep c = needs_more
