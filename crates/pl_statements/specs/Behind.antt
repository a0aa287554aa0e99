-- The reader of what stands behind the first proposition of a `rewrite`.
use Rattle.std.specs.Prelude.{ℕ}
use Rattle.pl_lexer.specs.declared.tokens.Token.{Token}
use Rattle.pl_readers.specs.Reader.{Reader, next, mapped}
use Rattle.pl_syntax.specs.Tree as t
use Rattle.pl_grammar.specs.Readers.{sign_at}
use Rattle.pl_grammar.specs.PropReaders.{prop}

-- "as" prop ";", of which so many levels are open already
abbrev pub second_prop : ℕ → ℕ → Reader Token t.Prop
second_prop depth used = next (sign_at 66) (λ _. next (prop depth used) (λ q. mapped (λ _. q.tree) (sign_at 7)))
