-- Whether a 4,097th declaration begins, from what reading 4,096 answers.
use Rattle.std.proofs.Common.{◌≡◌, ◌-◌, Bool, true, false, List, length, Ok, Err, refl, sym, subst, ◌∙◌, arith}
use Rattle.pl_lexer.specs.declared.tokens.Token.{Token}
use Rattle.pl_readers.specs.declared.error.Stop.{Stop}
use Rattle.pl_readers.specs.Reader.{begins}
use Rattle.pl_readers.proofs.Correct.{fine_is}
use Rattle.pl_grammar.specs.Signs.{token_in}
use Rattle.pl_grammar.specs.FileReaders.{declaration_firsts}
use Rattle.pl_grammar.specs.Refusals.{NotFull}
use Rattle.pl_grammar.proofs.Within.{Read, front, too_many}
use Rattle.pl_parser.specs.Steps.{AnotherAt, if_any}

abbrev test : Token → Bool
test = token_in declaration_firsts

another_by : (xs : List Token) (x : Read) → front xs ≡ Ok x → (b : Bool) → begins test x.1 ≡ b → AnotherAt xs (if_any b (length xs - length x.1))
another_by xs x e true h = (too_many xs x e h, omega arith)
another_by xs x e false h = λ y g. subst (λ (z : Read). begins test z.1 ≡ false) (fine_is x y (sym e ∙ g)) h

-- whether a 4,097th declaration begins behind 4,096
pub another_is : (xs : List Token) (x : Read) → front xs ≡ Ok x → AnotherAt xs (if_any (begins test x.1) (length xs - length x.1))
another_is xs x e = another_by xs x e (begins test x.1) refl

-- where the declarations aren't read to their end there are no 4,096
pub none_is : (xs : List Token) (s : Stop) → front xs ≡ Err s → NotFull xs
none_is xs s e = λ y g. absurd (apart y g)
  where
    apart : (y : Read) → front xs ≡ Ok y → ⊥
    apart y g = let h = sym e ∙ g in absurd cc
