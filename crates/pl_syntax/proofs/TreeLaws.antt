-- The laws of trees as plain data.
use Rattle.std.proofs.Common.{◌≡◌, List, [], ◌∷◌, map, refl, ap, ◌∙◌}
use Rattle.pl_syntax.specs.declared.stmt.Stmt.TheFolds.{fold-roll-Stmts}
use Rattle.pl_syntax.specs.declared.stmt.Stmts as stmts
use Rattle.pl_syntax.specs.Tree as t
use Rattle.pl_syntax.specs.Tree.{Stmt, braces, listed, list_of, close_of}
use Rattle.pl_syntax.specs.Plain.{chain, plain_stmt, plain_block, stmt_step, stmts_step}

-- statements in a row are their list
pub listed_chain : (list : List Stmt) → listed (chain list) ≡ list
listed_chain [] = refl
listed_chain (s ∷ rest) = ap (λ l. s ∷ l) (listed_chain rest)

-- a block as plain data
pub block_is : (b : stmts.Stmts) → plain_block b ≡ braces (chain (map plain_stmt b.list)) b.close
block_is b = fold-roll-Stmts t.Stmt t.Braced stmt_step stmts_step (record { list = b.list; close = b.close })

-- the statements of a block are those of the program's tree
pub block_list : (b : stmts.Stmts) → list_of (plain_block b) ≡ map plain_stmt b.list
block_list b = ap list_of (block_is b) ∙ listed_chain (map plain_stmt b.list)

-- so is the place of its closing brace
pub block_close : (b : stmts.Stmts) → close_of (plain_block b) ≡ b.close
block_close b = ap close_of (block_is b)
