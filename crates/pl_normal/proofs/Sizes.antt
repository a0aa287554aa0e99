-- How large an expression is.
use Rattle.std.proofs.Common.{ℕ, ◌+◌}
use Rattle.pl_syntax.specs.Tree.{Expr, Int, Truth, Null, Var, Neg, Not, Bin}

abbrev pub size : Expr → ℕ
size (Int place n) = 0
size (Truth place b) = 0
size (Null place) = 0
size (Var place x) = 0
size (Neg place e) = size e + 1
size (Not place e) = size e + 1
size (Bin place op a b) = size a + size b + 1
