-- The statements that a thread runs by itself, and where it then stands.
use Rattle.std.specs.Prelude.{ℕ, suc, ◌+◌, Bool, true, false, Option, Some, None, Ok, Err, slice_set, max}
use Rattle.c_meaning.specs.Tree.{Stmt, Stmts, Let, If, While, Check, Do, end, more, both}
use Rattle.c_meaning.specs.Values.{Env, Outcome, eval}
use Rattle.pl_resource.specs.declared.value.Value.TheVariants as value

-- the end was reached, or these statements are left
pub data Settled : Type 0 where
  fell : (env : Env) → Settled
  stood : (env : Env) (left : Stmts) → Settled

abbrev pub single : Stmt → Stmts
single s = more s end

abbrev pub go_on : Settled → Stmts → (Env → Settled) → Settled
go_on (fell env) rest go = go env
go_on (stood env left) rest go = stood env (both left rest)

-- a loop's body leads back to the loop
abbrev pub back_to : Stmt → Settled → Settled
back_to loop (fell env) = stood env (single loop)
back_to loop (stood env left) = stood env (both left (single loop))

abbrev pub branch : Outcome → Settled → Settled → Settled → Settled
branch (Err f) first second before = before
branch (Ok (value.Truth true)) first second before = first
branch (Ok (value.Truth false)) first second before = second
branch (Ok _) first second before = before

abbrev pub bound : Outcome → Env → ℕ → Settled → Settled
bound (Err f) env x before = before
bound (Ok v) env x before = fell (slice_set env x v)

abbrev mutual
  pub settle_one : Stmt → Env → Settled
  settle_one (Let x e) env = bound (eval env e) env x (stood env (single (Let x e)))
  settle_one (If e a b) env = branch (eval env e) (settle a env) (settle b env) (stood env (single (If e a b)))
  settle_one (Check l e b) env = branch (eval env e) (back_to (While l e b) (settle b env)) (fell env) (stood env (single (Check l e b)))
  settle_one (Do b) env = stood env (single (Do b))
  settle_one (While l e b) env = stood env (single (While l e b))

  pub settle : Stmts → Env → Settled
  settle end env = fell env
  settle (more s rest) env = go_on (settle_one s env) rest (settle rest)

abbrev pub rested : Settled → Env × Stmts
rested (fell env) = (env, end)
rested (stood env left) = (env, left)

-- how many statements a thread may still run by itself
abbrev mutual
  pub size_one : Stmt → ℕ
  size_one (Let x e) = 1
  size_one (If e a b) = 1 + (size a + size b)
  size_one (Check l e b) = 2 + size b
  size_one (Do b) = 1
  size_one (While l e b) = 1

  pub size : Stmts → ℕ
  size end = 0
  size (more s rest) = size_one s + size rest

-- how deep blocks lie in blocks
abbrev mutual
  pub nest_one : Stmt → ℕ
  nest_one (If e a b) = suc (max (nest a) (nest b))
  nest_one (While l e b) = suc (max (nest l) (nest b))
  nest_one (Check l e b) = suc (max (nest l) (nest b))
  nest_one (Let x e) = 0
  nest_one (Do b) = 0

  pub nest : Stmts → ℕ
  nest end = 0
  nest (more s rest) = max (nest_one s) (nest rest)

-- one statement that a thread runs by itself
abbrev pub Local : Type 0
Local = Option (Stmts × Env)

abbrev pub chosen : Outcome → Local → Local → Local
chosen (Err f) first second = None
chosen (Ok (value.Truth true)) first second = first
chosen (Ok (value.Truth false)) first second = second
chosen (Ok _) first second = None

abbrev pub let_to : Outcome → Env → ℕ → Stmts → Local
let_to (Err f) env x rest = None
let_to (Ok v) env x rest = Some (rest, slice_set env x v)

abbrev pub local : Stmts → Env → Local
local end env = None
local (more (Let x e) rest) env = let_to (eval env e) env x rest
local (more (If e a b) rest) env = chosen (eval env e) (Some (both a rest, env)) (Some (both b rest, env))
local (more (Check l e b) rest) env = chosen (eval env e) (Some (both b (more (While l e b) rest), env)) (Some (rest, env))
local (more _ rest) env = None

-- what a call that may run one leaves
abbrev pub ran : Bool → Stmts → Env → Local
ran true l env = Some (l, env)
ran false l env = None
