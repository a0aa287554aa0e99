-- Whether a file goes on with a code's token is seen by reading at 66 levels.
use Rattle.std.proofs.Common.{◌≡◌, ℕ, ◌<◌, true, false, List, [], ◌∷◌, ◌++◌, Ok, Err}
use Rattle.pl_lexer.specs.declared.tokens.Token.{Token}
use Rattle.pl_readers.specs.declared.error.Stop.{Stop}
use Rattle.pl_readers.specs.Language.{IsViable}
use Rattle.pl_readers.specs.Reader.{whole}
use Rattle.pl_readers.specs.Reads.{never}
use Rattle.pl_readers.proofs.Probe.{goes-on, is-whole}
use Rattle.pl_syntax.specs.Tree.{Program}
use Rattle.pl_grammar.specs.Refusals.{GoesOnWith, token_of_code}
use Rattle.pl_grammar.specs.FileGrammar.{File}
use Rattle.pl_grammar.specs.FileReaders.{file}
use Rattle.pl_grammar.proofs.Answered.{Even, even, even_reads, even_agrees, to_even}
use Rattle.pl_grammar.proofs.Probing.{probe-deep, probe-none}

module _ (before : List Token) (code : ℕ) where
  abbrev xs : List Token
  xs = before ++ token_of_code code ∷ []

  pub on-whole : (p : Program) → whole (file 66) xs ≡ Ok p → GoesOnWith before code
  on-whole p e = let w = is-whole Even never even even_reads 33 xs p e in (w.0, w.1, (66, w.2))

  module _ (s : Stop) (e : whole (file 66) xs ≡ Err s) where
    pub on-end : s.left ≡ 0 → GoesOnWith before code
    on-end z = let w = goes-on Even never even even_reads 33 xs s e z in (w.0, w.1, (68, w.2))

    module _ (v : IsViable (File 66) before) where
      pub on-deep : s.is_deep ≡ true → GoesOnWith before code
      on-deep d = let w = probe-deep Even never even even_reads 33 before (token_of_code code) v s e d in (w.0, w.1, (68, w.2))

      pub on-none : s.is_deep ≡ false → 0 < s.left → GoesOnWith before code → ⊥
      on-none d z w = probe-none Even never even even_reads 33 before (token_of_code code) v s e even_agrees d z w.2.0 (w.0, w.1, to_even w.2.0 w.1 (xs ++ w.0) w.2.1)
