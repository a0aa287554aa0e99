-- Straight programs, which the checker handles today: one function `main` of loads, allocations, frees and prints, where each
-- name that is used was bound before, with the sort that its use needs.
use Rattle.std.specs.Prelude.{◌≡◌, ⊤, false, Option, Some, None, List, [], ◌∷◌, if◌then◌else◌, FitsSigned}
use Rattle.std.specs.Int.{w64}
use Rattle.std.specs.Str.{bytes_eq}
use lib.Chars.{codes}
use Rattle.pl_syntax.specs.declared.expr.Sort.{Sort}
use Rattle.pl_syntax.specs.declared.expr.Sort.TheVariants.{I64, RefI64}
use Rattle.pl_syntax.specs.Tree.{Name, Expr, Int, Var, CellExpr, Whole, Prop, Emp, Stmt, Load, Alloc, Free, Print, FunDecl, Fun, Program, list_of}

-- the names that are bound, with their sorts, the newest first
abbrev pub Scope : Type 0
Scope = List (Name × Sort)

-- the sort of the newest binder of that name
abbrev pub sort_of : Name → Scope → Option Sort
sort_of x [] = None
sort_of x (b ∷ bs) = if bytes_eq x b.0 then Some b.1 else sort_of x bs

-- a literal of real code fits 64 bits with their sign (C11 7.20.1.1); a name is of sort i64
abbrev pub IsInteger : Scope → Expr → Type 0
IsInteger scope (Int pos n) = FitsSigned w64 n
IsInteger scope (Var pos x) = sort_of x scope ≡ Some I64
IsInteger scope _ = ⊥

abbrev pub IsCell : Scope → CellExpr → Type 0
IsCell scope (Whole base) = sort_of base scope ≡ Some RefI64
IsCell scope _ = ⊥

-- the statements keep the rules where these names are bound
abbrev pub AreSorted : Scope → List Stmt → Type 0
AreSorted scope [] = Unit {0}
AreSorted scope (Load pos x cell is_ghost ∷ rest) = (is_ghost ≡ false) × IsCell scope cell × AreSorted ((x, I64) ∷ scope) rest
AreSorted scope (Alloc pos x e ∷ rest) = IsInteger scope e × AreSorted ((x, RefI64) ∷ scope) rest
AreSorted scope (Free pos x ∷ rest) = (sort_of x scope ≡ Some RefI64) × AreSorted scope rest
AreSorted scope (Print pos e ∷ rest) = IsInteger scope e × AreSorted scope rest
AreSorted scope (_ ∷ rest) = ⊥

-- no proposition is written
abbrev pub IsEmp : Prop → Type 0
IsEmp (Emp pos) = ⊤
IsEmp _ = ⊥

-- a real function without parameters, clauses and result
pub record IsBare (f : FunDecl) : Type 0 where
  pub real : f.is_ghost ≡ false
  pub params : f.params ≡ []
  pub opens : f.opens ≡ false
  pub before : IsEmp f.before
  pub result : f.result ≡ None
  pub after : IsEmp f.after
  pub measure : f.measure ≡ None

-- such a function `main`, whose statements keep the rules
pub record IsMain (f : FunDecl) : Type 0 where
  pub name : f.name ≡ codes "main"
  pub bare : IsBare f
  pub statements : AreSorted [] (list_of f.body)

-- a straight program is one function, `main`
abbrev pub IsStraight : Program → Type 0
IsStraight p = (f : FunDecl) × (p.decls ≡ Fun f ∷ []) × IsMain f
