-- The value of an expression over unbounded whole numbers, as propositions and ghost code have it.
use Rattle.std.specs.Prelude.{ℕ, suc, ℤ, pos, neg_ℤ, ◌+ℤ◌, ◌-ℤ◌, ◌*ℤ◌, int_div, int_rem, int_lt, int_le, nat_eq, Bool, true, false, not, ◌&&◌, ◌||◌, Option, Some, None, if◌then◌else◌}
use Rattle.std.specs.Ordering.{int_eq}
use Rattle.pl_syntax.specs.declared.expr.BinOp.{BinOp}
use Rattle.pl_syntax.specs.declared.expr.BinOp.TheVariants.{Add, Sub, Mul, Div, Rem, Lt, Le, Gt, Ge, Eq, Ne, And, Or, Implies}
use Rattle.pl_syntax.specs.Tree.{Expr, Int, Truth, Null, Var, Neg, Not, Bin}
use Rattle.pl_syntax.specs.Values as v
use Rattle.pl_syntax.specs.Values.{Value, Number, Block, Vars}

-- a quotient is truncated toward zero (C11 6.5.5); by 0 it is 0
abbrev pub quotient : ℤ → ℤ → ℤ
quotient a b = if int_eq b (pos 0) then pos 0 else int_div a b

-- a remainder has the sign of the dividend (C11 6.5.5); by 0 it is the dividend
abbrev pub remainder : ℤ → ℤ → ℤ
remainder a b = if int_eq b (pos 0) then a else int_rem a b

abbrev pub of_numbers : BinOp → ℤ → ℤ → Option Value
of_numbers Add a b = Some (Number (a +ℤ b))
of_numbers Sub a b = Some (Number (a -ℤ b))
of_numbers Mul a b = Some (Number (a *ℤ b))
of_numbers Div a b = Some (Number (quotient a b))
of_numbers Rem a b = Some (Number (remainder a b))
of_numbers Lt a b = Some (v.Truth (int_lt a b))
of_numbers Le a b = Some (v.Truth (int_le a b))
of_numbers Gt a b = Some (v.Truth (int_lt b a))
of_numbers Ge a b = Some (v.Truth (int_le b a))
of_numbers Eq a b = Some (v.Truth (int_eq a b))
of_numbers Ne a b = Some (v.Truth (not (int_eq a b)))
of_numbers And a b = None
of_numbers Or a b = None
of_numbers Implies a b = None

abbrev pub same_truth : Bool → Bool → Bool
same_truth true b = b
same_truth false b = not b

abbrev pub of_truths : BinOp → Bool → Bool → Option Value
of_truths Eq a b = Some (v.Truth (same_truth a b))
of_truths Ne a b = Some (v.Truth (not (same_truth a b)))
of_truths And a b = Some (v.Truth (a && b))
of_truths Or a b = Some (v.Truth (a || b))
of_truths Implies a b = Some (v.Truth (not a || b))
of_truths _ a b = None

-- a pointer as a number: null is 0, and block b is b + 1
abbrev pub of_pointers : BinOp → ℕ → ℕ → Option Value
of_pointers Eq a b = Some (v.Truth (nat_eq a b))
of_pointers Ne a b = Some (v.Truth (not (nat_eq a b)))
of_pointers _ a b = None

-- an operation on two values of one sort; none where the sorts don't fit
abbrev pub of_values : BinOp → Value → Value → Option Value
of_values op (Number a) (Number b) = of_numbers op a b
of_values op (v.Truth a) (v.Truth b) = of_truths op a b
of_values op v.Null v.Null = of_pointers op 0 0
of_values op v.Null (Block b) = of_pointers op 0 (suc b)
of_values op (Block a) v.Null = of_pointers op (suc a) 0
of_values op (Block a) (Block b) = of_pointers op (suc a) (suc b)
of_values op _ _ = None

abbrev pub applied : BinOp → Option Value → Option Value → Option Value
applied op (Some a) (Some b) = of_values op a b
applied op _ _ = None

abbrev pub negated : Option Value → Option Value
negated (Some (Number n)) = Some (Number (neg_ℤ n))
negated _ = None

abbrev pub denied : Option Value → Option Value
denied (Some (v.Truth b)) = Some (v.Truth (not b))
denied _ = None

-- the value of an expression; none where a name isn't bound, or the sorts don't fit
abbrev pub value_of : Vars → Expr → Option Value
value_of vars (Int place n) = Some (Number n)
value_of vars (Truth place b) = Some (v.Truth b)
value_of vars (Null place) = Some v.Null
value_of vars (Var place x) = vars x
value_of vars (Neg place e) = negated (value_of vars e)
value_of vars (Not place e) = denied (value_of vars e)
value_of vars (Bin place op a b) = applied op (value_of vars a) (value_of vars b)

-- a value as a number in a linear form: false and null are 0, true is 1, and block b is b + 1
abbrev pub number_of : Value → ℤ
number_of (Number n) = n
number_of (v.Truth true) = pos 1
number_of (v.Truth false) = pos 0
number_of v.Null = pos 0
number_of (Block b) = pos (suc b)
