use Rattle.pl_parser.proofs.One.{one_refusal, parsed_none}
use Rattle.pl_parser.proofs.laws.refusals_are_one.Goals as goal

pub returns-clause-one : goal.returns-clause-one
returns-clause-one c = one_refusal

pub returns-clause-parsed : goal.returns-clause-parsed
returns-clause-parsed c = parsed_none
