-- Values, and the variables that have them.
use Rattle.std.specs.Prelude.{ℕ, ℤ, Bool, Option, Some, None, if◌then◌else◌, FitsSigned}
use Rattle.std.specs.Int.{w64}
use Rattle.std.specs.Str.{bytes_eq}
use Rattle.pl_syntax.specs.declared.expr.Sort.{Sort}
use Rattle.pl_syntax.specs.declared.expr.Sort.TheVariants.{I64, RefI64}
use Rattle.pl_syntax.specs.Tree.{Name, Expr, Int, Var}

-- a whole number, a truth value, or a pointer: null or a block
pub data Value : Type 0 where
  Number : (n : ℤ) → Value
  Truth : (b : Bool) → Value
  Null : Value
  Block : (b : ℕ) → Value

-- a value of a sort is in its range; the other sorts aren't built yet
abbrev pub HasSort : Sort → Value → Type 0
HasSort I64 (Number n) = FitsSigned w64 n
HasSort RefI64 (Block b) = Unit {0}
HasSort RefI64 Null = Unit {0}
HasSort _ _ = ⊥

-- the values of the names that are bound, the newest binder's
abbrev pub Vars : Type 0
Vars = Name → Option Value

-- nothing is bound
abbrev pub no_vars : Vars
no_vars x = None

-- one name more
abbrev pub bind : Name → Value → Vars → Vars
bind x w vars = λ y. if bytes_eq y x then Some w else vars y

-- the value of a literal or a name, over unbounded whole numbers; none where a name isn't bound, and of the other forms, which
-- aren't built yet
abbrev pub value_of : Vars → Expr → Option Value
value_of vars (Int pos n) = Some (Number n)
value_of vars (Var pos x) = vars x
value_of vars _ = None
