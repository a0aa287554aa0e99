-- What an expression is worth, or its first fault.
use Rattle.std.specs.Prelude.{ℕ, suc, ℤ, pos, negsuc, ◌+ℤ◌, ◌-ℤ◌, ◌*ℤ◌, neg_ℤ, ◌^◌, ◌==◌, Bool, true, false, nat_lt, List, [], ◌∷◌, ◌++◌, Option, Some, None, Result, Ok, Err, if◌then◌else◌, slice_get, slice_set}
use Rattle.std.specs.Prelude as std
use Rattle.std.specs.Ordering.{int_eq}
use Rattle.std.specs.Int.RustNames.{int_div, int_rem, int_lt, int_le}
use Rattle.pl_resource.specs.Faults.{chain}
use Rattle.pl_resource.specs.declared.value.Fault.{Fault}
use Rattle.pl_resource.specs.declared.value.Fault.TheVariants as fault
use Rattle.pl_resource.specs.declared.value.Value.{Value}
use Rattle.pl_resource.specs.declared.value.Value.TheVariants as value
use Rattle.c_syntax.specs.declared.expr.COp.{COp}
use Rattle.c_syntax.specs.declared.expr.COp.TheVariants as op
use Rattle.c_meaning.specs.Tree.{Term, Int, Truth, Null, Var, Neg, Not, Bin}

-- the locals of a frame, by number; null where none was bound yet
abbrev pub Env : Type 0
Env = List Value

abbrev pub Outcome : Type 0
Outcome = Result Value Fault

-- the range of int64_t (C11 7.20.1.1)
abbrev pub fits_i64 : ℤ → Bool
fits_i64 (pos n) = nat_lt n (2 ^ 63)
fits_i64 (negsuc n) = nat_lt n (2 ^ 63)

-- a result outside the range is a fault (C11 6.5)
abbrev pub number : ℤ → Outcome
number z = if fits_i64 z then Ok (value.Int z) else Err fault.Overflow

-- a local that isn't there is of the wrong kind
abbrev pub known : Option Value → Outcome
known None = Err fault.Kind
known (Some v) = Ok v

abbrev pub local_of : Env → ℕ → Outcome
local_of env x = known (slice_get env x)

-- division truncates toward zero, and a zero divisor is a fault (C11 6.5.5)
abbrev pub quotient : ℤ → ℤ → Outcome
quotient a b = if int_eq b (pos 0) then Err fault.ZeroDivisor else number (int_div a b)

-- a remainder faults where its quotient doesn't fit (C11 6.5.5)
abbrev pub remainder : ℤ → ℤ → Outcome
remainder a b =
    if int_eq b (pos 0) then Err fault.ZeroDivisor else
    if fits_i64 (int_div a b) then Ok (value.Int (int_rem a b)) else Err fault.Overflow

abbrev pub truth : Bool → Outcome
truth b = Ok (value.Truth b)

abbrev pub on_numbers : COp → ℤ → ℤ → Outcome
on_numbers op.Add a b = number (a +ℤ b)
on_numbers op.Sub a b = number (a -ℤ b)
on_numbers op.Mul a b = number (a *ℤ b)
on_numbers op.Div a b = quotient a b
on_numbers op.Rem a b = remainder a b
on_numbers op.Lt a b = truth (int_lt a b)
on_numbers op.Le a b = truth (int_le a b)
on_numbers op.Gt a b = truth (int_lt b a)
on_numbers op.Ge a b = truth (int_le b a)
on_numbers op.Eq a b = truth (int_eq a b)
on_numbers op.Ne a b = truth (std.not (int_eq a b))
on_numbers _ a b = Err fault.Kind

-- values of one kind are equal or not; a pointer is null or a block, and blocks and locks are equal where their numbers are
abbrev pub same_value : Value → Value → Result Bool Fault
same_value (value.Int a) (value.Int b) = Ok (int_eq a b)
same_value (value.Truth true) (value.Truth b) = Ok b
same_value (value.Truth false) (value.Truth b) = Ok (std.not b)
same_value value.Null value.Null = Ok true
same_value value.Null (value.Block b) = Ok false
same_value (value.Block a) value.Null = Ok false
same_value (value.Block a) (value.Block b) = Ok (a == b)
same_value (value.Lock a) (value.Lock b) = Ok (a == b)
same_value _ _ = Err fault.Kind

-- an operator on numbers alone
abbrev pub numbers_only : COp → Value → Value → Outcome
numbers_only op (value.Int a) (value.Int b) = on_numbers op a b
numbers_only op _ _ = Err fault.Kind

abbrev pub on_values : COp → Value → Value → Outcome
on_values op.Eq a b = chain (same_value a b) truth
on_values op.Ne a b = chain (same_value a b) (λ same. truth (std.not same))
on_values op a b = numbers_only op a b

-- the left operand and then the right one
abbrev pub operated : COp → Outcome → Outcome → Outcome
operated op left right = chain left (λ a. chain right (on_values op a))

abbrev pub truth_of : Value → Outcome
truth_of (value.Truth b) = truth b
truth_of _ = Err fault.Kind

-- `a && b` doesn't look at b where a is false (C11 6.5.13)
abbrev pub and_then : Outcome → Value → Outcome
and_then right (value.Truth true) = chain right truth_of
and_then right (value.Truth false) = truth false
and_then right _ = Err fault.Kind

-- `a || b` doesn't look at b where a is true (C11 6.5.14)
abbrev pub or_else : Outcome → Value → Outcome
or_else right (value.Truth true) = truth true
or_else right (value.Truth false) = chain right truth_of
or_else right _ = Err fault.Kind

abbrev pub joined : COp → Outcome → Outcome → Outcome
joined op.And left right = chain left (and_then right)
joined op.Or left right = chain left (or_else right)
joined op left right = operated op left right

abbrev pub negated : Value → Outcome
negated (value.Int n) = number (neg_ℤ n)
negated _ = Err fault.Kind

abbrev pub opposite : Value → Outcome
opposite (value.Truth b) = truth (std.not b)
opposite _ = Err fault.Kind

-- the value of an expression, or its first fault from the left
abbrev pub eval : Env → Term → Outcome
eval env (Int n) = Ok (value.Int n)
eval env (Truth b) = truth b
eval env Null = Ok value.Null
eval env (Var x) = local_of env x
eval env (Neg e) = chain (eval env e) negated
eval env (Not e) = chain (eval env e) opposite
eval env (Bin op a b) = joined op (eval env a) (eval env b)

-- the values of expressions in order, behind those, or the first fault
abbrev pub eval_onto : List Value → Env → List Term → Result (List Value) Fault
eval_onto vs env [] = Ok vs
eval_onto vs env (e ∷ es) = chain (eval env e) (λ v. eval_onto (vs ++ v ∷ []) env es)

-- the arguments of a call, in order, as the callee's locals from that number on
abbrev pub arguments : Env → List Term → ℕ → Env → Result Env Fault
arguments env [] x locals = Ok locals
arguments env (e ∷ es) x locals = chain (eval env e) (λ v. arguments env es (suc x) (slice_set locals x v))
