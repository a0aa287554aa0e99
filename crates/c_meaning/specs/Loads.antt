-- The functions of a program in a table of blocks.
use Rattle.std.specs.Prelude.{◌≡◌, ◌≤◌, ◌<◌, ⊤, List, [], ◌∷◌, length}
use Rattle.c_meaning.specs.declared.code.Block.{Block}
use Rattle.c_meaning.specs.declared.thread.Function as rust
use Rattle.c_meaning.specs.Tree.{Function}
use Rattle.c_meaning.specs.Local.{nest}
use Rattle.c_meaning.specs.Blocks.{IsTable, tree}
use Rattle.c_meaning.specs.Compiled.{Extends}
use Rattle.c_meaning.specs.Machine.{function_shown}

-- a function stands in a table with more blocks
pub record Loaded (T T' : List Block) (r : rust.Function) (f : Function) : Type 0 where
  pub extends : Extends T T'
  pub table : IsTable T'
  pub below : r.body < length T'
  pub shown : function_shown T' r ≡ f
  pub deep : nest (tree T' r.body) ≤ r.depth

-- functions stand in a table
abbrev pub AllLoaded : List Block → List rust.Function → Type 0
AllLoaded T [] = ⊤
AllLoaded T (f ∷ fs) = (f.body < length T) × (nest (tree T f.body) ≤ f.depth) × AllLoaded T fs
