use Rattle.pl_lexer.proofs.Meanings.{lexed_proper}
use Rattle.pl_lexer.proofs.laws.tokens_are_proper.Goals as goal

pub returns : goal.returns
returns c = lexed_proper
