-- A table of blocks that holds the statements of a tree.
use Rattle.std.specs.Prelude.{◌≡◌, ℕ, ◌<◌, List, ◌++◌, length, map}
use Rattle.c_syntax.specs.declared.program.CStruct.{CStruct}
use Rattle.c_syntax.specs.declared.program.CFun.{CFun}
use Rattle.c_meaning.specs.Tree.{Stmt, Stmts, both, greatest, greatest_one}
use Rattle.c_meaning.specs.Local.{nest, nest_one}
use Rattle.c_meaning.specs.Blocks.{IsTable, tree, stmt_of, stmts_of, below_one, all_below}
use Rattle.c_meaning.specs.Resolve.{Names, before_last}
use Rattle.c_syntax.specs.Tree as c
use Rattle.c_meaning.specs.declared.resolve.Pointer.{Pointer}
use Rattle.c_meaning.specs.declared.code.Op.{Op}
use Rattle.c_meaning.specs.declared.code.Block.{Block}

-- the names of a program with these functions
abbrev pub names_with : List CStruct → List CFun → List Pointer → Names
names_with structs funs pointers = record { structs = structs; functions = map (λ f. f.name) funs; pointers = pointers }

-- a table with more blocks
pub record Extends (T T' : List Block) : Type 0 where
  pub more : List Block
  pub is : T' ≡ T ++ more

-- the statements before the last one have become operations
pub record Begun (os os' : List Op) (b : Stmts) : Type 0 where
  pub same : (t : ℕ → Stmts) → stmts_of t os' ≡ both (stmts_of t os) b
  pub below : (n : ℕ) → all_below n os → all_below n os'

-- those of a statement of C: there are some of a `par` alone
abbrev pub Added : Names → c.Stmt → List Op → List Op → Type 0
Added names (c.Par f args g others) os os' = Begun os os' (before_last names (c.Par f args g others))
Added names _ os os' = os' ≡ os

-- the statements have become block k of a table with more blocks; depth and top are how deep blocks lie in them, and
-- the greatest local that they bind
pub record Compiled (T T' : List Block) (b : Stmts) (k depth top : ℕ) : Type 0 where
  pub extends : Extends T T'
  pub table : IsTable T'
  pub below : k < length T'
  pub same : tree T' k ≡ b
  pub deep : depth ≡ nest b
  pub most : top ≡ greatest b

-- the statement has become an operation
pub record CompiledOne (T T' : List Block) (s : Stmt) (o : Op) (depth top : ℕ) : Type 0 where
  pub extends : Extends T T'
  pub table : IsTable T'
  pub below : below_one (length T') o
  pub same : stmt_of (tree T') o ≡ s
  pub deep : depth ≡ nest_one s
  pub most : top ≡ greatest_one s
