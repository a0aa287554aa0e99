-- The statements that a table of blocks holds, and those that are left at a place in it.
use Rattle.std.specs.Prelude.{◌≡◌, ℕ, zero, suc, ◌+◌, ◌<◌, ◌≤◌, ◌^◌, Bool, true, false, List, [], ◌∷◌, ◌++◌, Option, Some, None, slice_get, length, drop, ⊤, Ok, Err}
use Rattle.c_meaning.specs.Tree.{Stmt, Stmts, Let, If, While, Check, Do, end, more, both}
use Rattle.c_meaning.specs.Local.{nest, settle}
use Rattle.c_meaning.specs.Values.{Env, Outcome, eval}
use Rattle.pl_resource.specs.declared.value.Value.TheVariants as value
use Rattle.c_meaning.specs.declared.frame.Move.{Move}
use Rattle.c_meaning.specs.declared.frame.Move.TheVariants.{Stay, Next, Bind, Enter, Loop}
use Rattle.std.specs.Prelude.{slice_set}
use Rattle.c_meaning.specs.Plain.{plain_term, plain_basic}
use Rattle.c_meaning.specs.declared.code.Op.{Op}
use Rattle.c_meaning.specs.declared.code.Op.TheVariants as op
use Rattle.c_meaning.specs.declared.code.Block.{Block}
use Rattle.c_meaning.specs.declared.frame.Spot.{Spot}

-- the statement of an operation
abbrev pub stmt_of : (ℕ → Stmts) → Op → Stmt
stmt_of tree (op.Let x e) = Let x (plain_term e)
stmt_of tree (op.Do b) = Do (plain_basic b)
stmt_of tree (op.If e a b) = If (plain_term e) (tree a) (tree b)
stmt_of tree (op.While l e b) = While (tree l) (plain_term e) (tree b)

abbrev pub stmts_of : (ℕ → Stmts) → List Op → Stmts
stmts_of tree [] = end
stmts_of tree (o ∷ os) = more (stmt_of tree o) (stmts_of tree os)

abbrev pub ops_of : Option Block → List Op
ops_of None = []
ops_of (Some b) = b.ops

-- the operations of a block
abbrev pub ops_at : List Block → ℕ → List Op
ops_at T k = ops_of (slice_get T k)

abbrev pub tree_by : ℕ → List Block → ℕ → Stmts
tree_by zero T k = end
tree_by (suc n) T k = stmts_of (tree_by n T) (ops_at T k)

-- the statements of a block
abbrev pub tree : List Block → ℕ → Stmts
tree T k = tree_by (suc k) T k

-- blocks inside a block come before it
abbrev pub below_one : ℕ → Op → Type 0
below_one k (op.If e a b) = (a < k) × (b < k)
below_one k (op.While l e b) = (l < k) × (b < k)
below_one k _ = ⊤

abbrev pub all_below : ℕ → List Op → Type 0
all_below k [] = ⊤
all_below k (o ∷ os) = below_one k o × all_below k os

pub record IsTable (T : List Block) : Type 0 where
  pub ordered : (k : ℕ) → all_below k (ops_at T k)
  pub few : (k : ℕ) → length (ops_at T k) < 2 ^ 32

-- a loop whose turn was taken stands before its test
abbrev pub testing : Bool → Stmts → Stmts
testing true (more (While l e b) rest) = more (Check l e b) rest
testing _ left = left

abbrev pub left_in : (ℕ → Stmts) → List Block → Spot → Stmts
left_in t T s = testing s.checks (stmts_of t (drop s.at (ops_at T s.block)))

-- the statements left at these places, the innermost place last
abbrev pub left_of : (ℕ → Stmts) → List Block → List Spot → Stmts
left_of t T [] = end
left_of t T (s ∷ inner) = both (left_of t T inner) (left_in t T s)

abbrev pub left : List Block → List Spot → Stmts
left T spots = left_of (tree T) T spots

-- the places have room for those that may come inside them
abbrev pub fits : List Block → ℕ → ℕ → List Spot → Type 0
fits T n room [] = ⊤
fits T n room (s ∷ inner) = (suc n + nest (left_in (tree T) T s) ≤ room) × fits T (suc n) room inner

abbrev pub bind_move : ℕ → Outcome → Move
bind_move x (Err f) = Stay
bind_move x (Ok v) = Bind x v

abbrev pub pick_move : Outcome → Move → Move → Move
pick_move (Err f) first second = Stay
pick_move (Ok (value.Truth true)) first second = first
pick_move (Ok (value.Truth false)) first second = second
pick_move (Ok _) first second = Stay

-- what a thread does by itself before an operation
abbrev pub move_of : Bool → Op → Env → Move
move_of checks (op.Let x e) env = bind_move x (eval env (plain_term e))
move_of checks (op.If e a b) env = pick_move (eval env (plain_term e)) (Enter a) (Enter b)
move_of true (op.While l e b) env = pick_move (eval env (plain_term e)) (Loop b) Next
move_of checks _ env = Stay

abbrev pub next : Spot → Spot
next s = record { block = s.block; at = s.at + 1; checks = false }

abbrev pub again : Spot → Spot
again s = record { block = s.block; at = s.at; checks = false }

abbrev pub first : ℕ → Spot
first k = record { block = k; at = 0; checks = false }

abbrev pub spots_after : Move → List Spot → Spot → List Spot
spots_after Stay xs s = xs ++ s ∷ []
spots_after Next xs s = xs ++ next s ∷ []
spots_after (Bind x v) xs s = xs ++ next s ∷ []
spots_after (Enter k) xs s = (xs ++ next s ∷ []) ++ first k ∷ []
spots_after (Loop k) xs s = (xs ++ again s ∷ []) ++ first k ∷ []

abbrev pub env_after : Move → Env → Env
env_after (Bind x v) env = slice_set env x v
env_after _ env = env

abbrev pub moves : Move → Bool
moves Stay = false
moves _ = true

abbrev pub enters : Move → ℕ
enters (Enter k) = 2
enters (Loop k) = 2
enters _ = 1

-- a thread has gone on from what was left, and its places have room
pub record Kept (T : List Block) (room : ℕ) (l : Stmts) (env : Env) (spots : List Spot) (now : Env) : Type 0 where
  pub same : settle l env ≡ settle (left T spots) now
  pub fits : fits T 0 room spots
