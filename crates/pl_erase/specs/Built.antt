-- The forms that have a row so far, and what the numbers of binders are in the code.
use Rattle.std.specs.Prelude.{◌≡◌, ⊤, ℕ, Option, Some, None, List, ◌∷◌, FitsSigned}
use Rattle.std.specs.Int.{w64}
use Rattle.std.specs.Str.{bytes_eq}
use Rattle.std.specs.HashMap.{get_by}
use Rattle.c_syntax.specs.Tree as c
use Rattle.pl_syntax.specs.Tree.{Expr, Int, Var, Whole, Stmt, Load, Alloc, Free, Print}
use Rattle.pl_erase.specs.Emitted.{Numbers, emitted_all}
use Rattle.pl_erase.specs.declared.rows.Binders.{Binders}

-- a literal of 64 bits or a name
abbrev pub IsBuiltExpr : Expr → Type 0
IsBuiltExpr (Int place n) = FitsSigned w64 n
IsBuiltExpr (Var place x) = ⊤
IsBuiltExpr _ = ⊥

-- a statement that has a row
abbrev pub IsBuilt : Stmt → Type 0
IsBuilt (Load place x (Whole base) is_ghost) = ⊤
IsBuilt (Alloc place x e) = IsBuiltExpr e
IsBuilt (Free place x) = ⊤
IsBuilt (Print place e) = IsBuiltExpr e
IsBuilt _ = ⊥

abbrev pub or_nobody : Option ℕ → ℕ
or_nobody None = 0
or_nobody (Some n) = n

-- the numbers in a map from names
abbrev pub numbers_of : Binders → Numbers
numbers_of b = λ y. or_nobody (get_by (λ k. bytes_eq y k.now) b.numbers)

-- this is the row of a statement, of which the next binder has that number, and this is the next binder behind it
pub record HasRow (n : ℕ) (numbers : Numbers) (st : Stmt) (row : c.Stmt) (n' : ℕ) (numbers' : Numbers) : Type 0 where
  pub is : (rest : List Stmt) → emitted_all n numbers (st ∷ rest) ≡ row ∷ emitted_all n' numbers' rest
