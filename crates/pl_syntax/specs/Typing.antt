-- Programs that keep all rules on names, sorts, ghost flow, opening and measures.
use Rattle.std.specs.Prelude.{◌≡◌, true, []}
use Rattle.pl_syntax.specs.Tree.{Program}
use Rattle.pl_syntax.specs.DeclRules.{breaches, has_main}

-- a program that keeps all rules: it has no breach, and a function `main`
pub record IsTyped (p : Program) : Type 0 where
  pub rules : breaches p ≡ []
  pub main : has_main p ≡ true
