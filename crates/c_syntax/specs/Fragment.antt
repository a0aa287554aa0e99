-- The fragment: the programs that have a text, and their texts.
use Rattle.std.specs.Prelude.{◌≡◌, ℕ, List}
use Rattle.c_syntax.specs.Tree.{Name, Program}
use Rattle.c_syntax.specs.Text.{program_text}
use Rattle.c_syntax.specs.Forms.{IsProgramForm}
use Rattle.c_syntax.specs.Names.{ProgramNames}
use Rattle.c_syntax.specs.Rules.{KeepsRules}

-- a program of the forms that keeps the rules on sorts, names and numbers of locals
pub record IsFragment (p : Program) : Type 0 where
  pub forms : IsProgramForm p
  pub rules : KeepsRules p

-- the bytes are the one text of a program of the fragment; IsName is what may be a name
pub record IsText (IsName : Name → Type 0) (bytes : List ℕ) (p : Program) : Type 0 where
  pub fragment : IsFragment p
  pub names : ProgramNames IsName p
  pub text : bytes ≡ program_text p
