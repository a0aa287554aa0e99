-- Derivations: one rule of the table for each statement, in which all that a walk looks for is given.
use Rattle.std.specs.Prelude.{◌≡◌, List, [], ◌∷◌}
use Rattle.pl_syntax.specs.Tree.{Stmt, FunDecl, list_of}
use Rattle.pl_terms.specs.Table.{Known, start, Rule}

-- one statement after another
abbrev pub Rules : Known → List Stmt → Known → Type 0
Rules s [] t = t ≡ s
Rules s (st ∷ rest) t = (u : Known) × Rule s st u × Rules u rest t

-- a function derives: at its end nothing is left over
pub record Derives (f : FunDecl) : Type 0 where
  pub end : Known
  pub rules : Rules start (list_of f.body) end
  pub none_left : end.atoms ≡ []
