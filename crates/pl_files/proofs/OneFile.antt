-- Bytes are a file of one program.
use Rattle.std.proofs.Common.{◌≡◌, ℕ, List, Ok, sym, subst, ◌∙◌}
use Rattle.pl_lexer.specs.declared.tokens.Token.{Token}
use Rattle.pl_lexer.proofs.Once.{are_tokens_once, lexed_are_tokens}
use Rattle.pl_readers.specs.Reader.{whole}
use Rattle.pl_readers.proofs.Correct.{fine_is}
use Rattle.pl_syntax.specs.Tree.{Program}
use Rattle.pl_grammar.specs.FileGrammar.{File}
use Rattle.pl_grammar.specs.FileReaders.{file}
use Rattle.pl_files.specs.Files.{IsFile}

-- a text of the grammar is read as its program
abbrev pub IsRead : Type 0
IsRead = (tokens : List Token) (p : Program) → File 64 p tokens → whole (file 64) tokens ≡ Ok p

pub one_program : IsRead → (bytes : List ℕ) (p q : Program) → IsFile bytes p → IsFile bytes q → p ≡ q
one_program only bytes p q f g =
    let one = are_tokens_once bytes f.tokens g.tokens (lexed_are_tokens bytes f.tokens f.lexed) (lexed_are_tokens bytes g.tokens g.lexed) in
    fine_is p q (sym (only g.tokens p (subst (File 64 p) one f.derived)) ∙ only g.tokens q g.derived)
