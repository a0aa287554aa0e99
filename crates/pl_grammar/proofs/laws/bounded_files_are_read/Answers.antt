use Rattle.pl_grammar.proofs.Within.{within_found, within_only, whole_same, few}
use Rattle.pl_grammar.proofs.laws.bounded_files_are_read.Goals as goal

pub returns-clause-found : goal.returns-clause-found
returns-clause-found c = within_found

pub returns-clause-only : goal.returns-clause-only
returns-clause-only c = within_only

pub returns-clause-refused : goal.returns-clause-refused
returns-clause-refused c = whole_same

pub returns-clause-few : goal.returns-clause-few
returns-clause-few c = few
