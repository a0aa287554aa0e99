use Rattle.pl_lexer.proofs.Once.{are_tokens_once, lexed_are_tokens}
use Rattle.pl_lexer.proofs.laws.tokens_are_one.Goals as goal

pub returns-clause-one : goal.returns-clause-one
returns-clause-one c = are_tokens_once

pub returns-clause-found : goal.returns-clause-found
returns-clause-found c = lexed_are_tokens
