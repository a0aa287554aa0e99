-- A move of a thread is a step of the statements that are left.
use Rattle.std.proofs.Common.{◌≡◌, ℕ, ◌+◌, List, [], ◌∷◌, ◌++◌, true, false, Bool, Some, None, Ok, Err, refl, sym, ap, ◌∙◌, drop, slice_get, slice_set}
use native.Mathlib.Numerals.{unary_clauses}
use Rattle.c_meaning.specs.Tree.{Stmt, Stmts, While, end, more, both}
use Rattle.c_meaning.specs.Values.{Env, Outcome, eval}
use Rattle.c_meaning.specs.Local.{local, ran, chosen, let_to}
use Rattle.c_meaning.specs.Blocks.{stmt_of, stmts_of, ops_at, tree, IsTable, testing, left_in, left, move_of, bind_move, pick_move, moves, spots_after, env_after, next, again, first}
use Rattle.c_meaning.specs.Plain.{plain_term}
use Rattle.c_meaning.proofs.Lefts.{left_snoc, tree_is, drop_at, drop_none}
use Rattle.c_meaning.specs.declared.code.Op.{Op}
use Rattle.c_meaning.specs.declared.code.Op.TheVariants as op
use Rattle.c_meaning.specs.declared.code.Block.{Block}
use Rattle.c_meaning.specs.declared.frame.Spot.{Spot}
use Rattle.c_meaning.specs.declared.frame.Move.TheVariants.{Next, Enter, Loop}
use Rattle.pl_resource.specs.declared.value.Value.TheVariants as value

-- what stands before an operation, and after it
pub in_at : (T : List Block) (s : Spot) (o : Op) → slice_get (ops_at T s.block) s.at ≡ Some o → left_in (tree T) T s ≡ testing s.checks (more (stmt_of (tree T) o) (left_in (tree T) T (next s)))
in_at T s o h =
    let e : drop s.at (ops_at T s.block) ≡ o ∷ drop (s.at + 1) (ops_at T s.block) = simp unary_clauses (drop_at (ops_at T s.block) s.at o h) in
    ap (λ z. testing s.checks (stmts_of (tree T) z)) e

pub in_first : (T : List Block) → IsTable T → (k : ℕ) → left_in (tree T) T (first k) ≡ tree T k
in_first T is k = sym (tree_is T is k)

-- the statements left, from those in the innermost block
pub left_with : (T : List Block) (xs : List Spot) (s : Spot) (l : Stmts) → left_in (tree T) T s ≡ l → left T (xs ++ s ∷ []) ≡ both l (left T xs)
left_with T xs s l h = left_snoc (tree T) T xs s ∙ ap (λ z. both z (left T xs)) h

pub left_entered : (T : List Block) → IsTable T → (xs : List Spot) (s : Spot) (l : Stmts) (k : ℕ) → left_in (tree T) T s ≡ l → left T ((xs ++ s ∷ []) ++ first k ∷ []) ≡ both (tree T k) (both l (left T xs))
left_entered T is xs s l k h =
    left_with T (xs ++ s ∷ []) (first k) (tree T k) (in_first T is k) ∙ ap (both (tree T k)) (left_with T xs s l h)

module _ (T : List Block) (is : IsTable T) (xs : List Spot) (s : Spot) (env : Env) (rest R : Stmts) (after : left T (xs ++ next s ∷ []) ≡ both rest R) (in_next : left_in (tree T) T (next s) ≡ rest) (behind : R ≡ left T xs) where
  bind_told : (x : ℕ) (r : Outcome) → let_to r env x (both rest R) ≡ ran (moves (bind_move x r)) (left T (spots_after (bind_move x r) xs s)) (env_after (bind_move x r) env)
  bind_told x (Err f) = refl
  bind_told x (Ok v) = ap (λ z. Some (z, slice_set env x v)) (sym after)

  entered : (k : ℕ) → both (tree T k) (both rest R) ≡ left T ((xs ++ next s ∷ []) ++ first k ∷ [])
  entered k = sym (left_entered T is xs (next s) rest k in_next ∙ ap (λ z. both (tree T k) (both rest z)) (sym behind))

  if_told : (a b : ℕ) (r : Outcome) → chosen r (Some (both (tree T a) (both rest R), env)) (Some (both (tree T b) (both rest R), env)) ≡ ran (moves (pick_move r (Enter a) (Enter b))) (left T (spots_after (pick_move r (Enter a) (Enter b)) xs s)) (env_after (pick_move r (Enter a) (Enter b)) env)
  if_told a b (Ok (value.Truth true)) = ap (λ z. Some (z, env)) (entered a)
  if_told a b (Ok (value.Truth false)) = ap (λ z. Some (z, env)) (entered b)
  if_told a b (Err f) = refl
  if_told a b (Ok (value.Int n)) = refl
  if_told a b (Ok value.Null) = refl
  if_told a b (Ok (value.Block n)) = refl
  if_told a b (Ok (value.Lock n)) = refl

  looped : (w : Stmt) (k : ℕ) → left_in (tree T) T (again s) ≡ more w rest → both (tree T k) (more w (both rest R)) ≡ left T ((xs ++ again s ∷ []) ++ first k ∷ [])
  looped w k h = sym (left_entered T is xs (again s) (more w rest) k h ∙ ap (λ z. both (tree T k) (more w (both rest z))) (sym behind))

  check_told : (w : Stmt) (b : ℕ) → left_in (tree T) T (again s) ≡ more w rest → (r : Outcome) → chosen r (Some (both (tree T b) (more w (both rest R)), env)) (Some (both rest R, env)) ≡ ran (moves (pick_move r (Loop b) Next)) (left T (spots_after (pick_move r (Loop b) Next) xs s)) (env_after (pick_move r (Loop b) Next) env)
  check_told w b h (Ok (value.Truth true)) = ap (λ z. Some (z, env)) (looped w b h)
  check_told w b h (Ok (value.Truth false)) = ap (λ z. Some (z, env)) (sym after)
  check_told w b h (Err f) = refl
  check_told w b h (Ok (value.Int n)) = refl
  check_told w b h (Ok value.Null) = refl
  check_told w b h (Ok (value.Block n)) = refl
  check_told w b h (Ok (value.Lock n)) = refl

  op_told : (b : Bool) (o : Op) → left_in (tree T) T (again s) ≡ more (stmt_of (tree T) o) rest → local (both (testing b (more (stmt_of (tree T) o) rest)) R) env ≡ ran (moves (move_of b o env)) (left T (spots_after (move_of b o env) xs s)) (env_after (move_of b o env) env)
  op_told true (op.Let x e) h = bind_told x (eval env (plain_term e))
  op_told false (op.Let x e) h = bind_told x (eval env (plain_term e))
  op_told true (op.If e a b) h = if_told a b (eval env (plain_term e))
  op_told false (op.If e a b) h = if_told a b (eval env (plain_term e))
  op_told true (op.While l e b) h = check_told (While (tree T l) (plain_term e) (tree T b)) b h (eval env (plain_term e))
  op_told false (op.While l e b) h = refl
  op_told true (op.Do a) h = refl
  op_told false (op.Do a) h = refl

-- a move does what the statements that are left say
pub move_told : (T : List Block) → IsTable T → (xs : List Spot) (s : Spot) (o : Op) (env : Env) → slice_get (ops_at T s.block) s.at ≡ Some o → local (left T (xs ++ s ∷ [])) env ≡ ran (moves (move_of s.checks o env)) (left T (spots_after (move_of s.checks o env) xs s)) (env_after (move_of s.checks o env) env)
move_told T is xs s o env h =
    ap (λ z. local z env) (left_with T xs s _ (in_at T s o h))
    ∙ op_told T is xs s env (left_in (tree T) T (next s)) (left T xs) (left_with T xs (next s) _ refl) refl refl s.checks o (in_at T (again s) o h)

-- a place at the end of its block leaves nothing there
pub ended_told : (T : List Block) (xs : List Spot) (s : Spot) → slice_get (ops_at T s.block) s.at ≡ None → left T (xs ++ s ∷ []) ≡ left T xs
ended_told T xs s h = left_with T xs s end (at_end s.checks (ap (stmts_of (tree T)) (drop_none (ops_at T s.block) s.at h)))
  where
    at_end : (b : Bool) → stmts_of (tree T) (drop s.at (ops_at T s.block)) ≡ end → testing b (stmts_of (tree T) (drop s.at (ops_at T s.block))) ≡ end
    at_end true e = ap (testing true) e
    at_end false e = e
