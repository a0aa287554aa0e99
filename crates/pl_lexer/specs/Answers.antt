-- What the parts of the lexer answer.
use Rattle.std.specs.Prelude.{◌≡◌, ⊤, List, ℕ, Option, Result, Ok, Err}
use Rattle.pl_base.specs.declared.pos.Pos.{Pos}
use Rattle.pl_lexer.specs.declared.error.LexError.{LexError}
use Rattle.pl_lexer.specs.declared.error.LexError.TheVariants as e
use Rattle.pl_lexer.specs.declared.tokens.Kind.{Kind}
use Rattle.pl_lexer.specs.Tokens.{kind_of, IsLongNumber, IsLongName}

-- the kind of one lexeme at a place, or that it passes a limit there
abbrev pub KindAnswers : Result (Option Kind) LexError → Pos → List ℕ → Type 0
KindAnswers (Ok kind) p l = (kind_of l ≡ kind) × (¬ IsLongNumber kind) × (¬ IsLongName l kind)
KindAnswers (Err (e.LongNumber q)) p l = (q ≡ p) × IsLongNumber (kind_of l)
KindAnswers (Err (e.LongName q)) p l = (q ≡ p) × IsLongName l (kind_of l)
KindAnswers (Err e.Memory) p l = ⊤
KindAnswers (Err _) p l = ⊥
