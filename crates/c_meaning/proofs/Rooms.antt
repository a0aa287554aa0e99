-- Places have room for those inside them, and a thread comes to stand.
use Rattle.std.proofs.Common.{◌≡◌, ℕ, suc, ◌+◌, ◌≤◌, ◌<◌, arith, List, [], ◌∷◌, ◌++◌, true, false, Bool, Some, None, Ok, Err, refl, ap, ◌∙◌, length, slice_get, subst}
use Rattle.std.specs.Prelude.{max, ⊤}
use Rattle.c_meaning.specs.Tree.{Stmts, more}
use Rattle.c_meaning.specs.Values.{Env, Outcome, eval}
use Rattle.c_meaning.specs.Local.{ran, nest, settle, rested, size}
use Rattle.c_meaning.specs.Blocks.{stmt_of, ops_at, tree, IsTable, testing, left_in, left, fits, move_of, bind_move, pick_move, moves, spots_after, env_after, next, again, first, enters, Kept}
use Rattle.c_meaning.specs.Plain.{plain_term}
use Rattle.c_meaning.proofs.Lefts.{fits_snoc, fits_front}
use Rattle.c_meaning.proofs.Moves.{in_at, in_first, move_told, ended_told}
use Rattle.c_meaning.proofs.Settles.{Told, local_told}
use Rattle.c_meaning.specs.declared.code.Op.{Op}
use Rattle.c_meaning.specs.declared.code.Op.TheVariants as op
use Rattle.c_meaning.specs.declared.code.Block.{Block}
use Rattle.c_meaning.specs.declared.frame.Spot.{Spot}
use Rattle.c_meaning.specs.declared.frame.Move.{Move}
use Rattle.c_meaning.specs.declared.frame.Move.TheVariants.{Stay, Next, Bind, Enter, Loop}
use Rattle.pl_resource.specs.declared.value.Value.TheVariants as value

max_left : (a b : ℕ) → a ≤ max a b
max_left a b = omega arith

max_right : (a b : ℕ) → b ≤ max a b
max_right a b = omega arith

abbrev Inside : List Block → Move → ℕ → Type 0
Inside T (Enter k) n = suc (nest (tree T k)) ≤ n
Inside T (Loop k) n = suc (nest (tree T k)) ≤ n
Inside T _ n = ⊤

pub nest_rest : (T : List Block) (b : Bool) (o : Op) (rest : Stmts) → nest rest ≤ nest (testing b (more (stmt_of (tree T) o) rest))
nest_rest T true (op.Let x e) rest = max_right _ _
nest_rest T true (op.Do a) rest = max_right _ _
nest_rest T true (op.If e a b) rest = max_right _ _
nest_rest T true (op.While l e b) rest = max_right _ _
nest_rest T false o rest = max_right _ _

pub nest_again : (T : List Block) (b : Bool) (o : Op) (rest : Stmts) → nest (more (stmt_of (tree T) o) rest) ≡ nest (testing b (more (stmt_of (tree T) o) rest))
nest_again T true (op.Let x e) rest = refl
nest_again T true (op.Do a) rest = refl
nest_again T true (op.If e a b) rest = refl
nest_again T true (op.While l e b) rest = refl
nest_again T false o rest = refl

pick_inside : (T : List Block) (r : Outcome) (m n : Move) (k : ℕ) → Inside T m k → Inside T n k → Inside T (pick_move r m n) k
pick_inside T (Ok (value.Truth true)) m n k a b = a
pick_inside T (Ok (value.Truth false)) m n k a b = b
pick_inside T (Err f) m n k a b = tt
pick_inside T (Ok (value.Int i)) m n k a b = tt
pick_inside T (Ok value.Null) m n k a b = tt
pick_inside T (Ok (value.Block i)) m n k a b = tt
pick_inside T (Ok (value.Lock i)) m n k a b = tt

bind_inside : (T : List Block) (x : ℕ) (r : Outcome) (k : ℕ) → Inside T (bind_move x r) k
bind_inside T x (Err f) k = tt
bind_inside T x (Ok v) k = tt

if_inside : (a b c : ℕ) → suc a ≤ max (suc (max a b)) c
if_inside a b c = omega arith

alt_inside : (a b c : ℕ) → suc b ≤ max (suc (max a b)) c
alt_inside a b c = omega arith

inside : (T : List Block) (b : Bool) (o : Op) (rest : Stmts) (env : Env) → Inside T (move_of b o env) (nest (testing b (more (stmt_of (tree T) o) rest)))
inside T true (op.If e a b) rest env = pick_inside T (eval env (plain_term e)) (Enter a) (Enter b) _ (if_inside _ _ _) (alt_inside _ _ _)
inside T false (op.If e a b) rest env = pick_inside T (eval env (plain_term e)) (Enter a) (Enter b) _ (if_inside _ _ _) (alt_inside _ _ _)
inside T true (op.While l e b) rest env = pick_inside T (eval env (plain_term e)) (Loop b) Next _ (alt_inside _ _ _) tt
inside T false (op.While l e b) rest env = tt
inside T true (op.Let x e) rest env = bind_inside T x (eval env (plain_term e)) _
inside T false (op.Let x e) rest env = bind_inside T x (eval env (plain_term e)) _
inside T true (op.Do a) rest env = tt
inside T false (op.Do a) rest env = tt

pub length_snoc : {A : Type 0} (xs : List A) (x : A) → length (xs ++ x ∷ []) ≡ suc (length xs)
length_snoc [] x = refl
length_snoc (y ∷ ys) x = ap suc (length_snoc ys x)

pub deeper : (T : List Block) (room : ℕ) (xs : List Spot) (s : Spot) (k n : ℕ) → IsTable T → fits T 0 room (xs ++ s ∷ []) → suc (nest (tree T k)) ≤ n → suc (length xs) + n ≤ room → fits T 0 room ((xs ++ s ∷ []) ++ first k ∷ []) × (length xs + 2 ≤ room)
deeper T room xs s k n is here below h =
    let e : nest (left_in (tree T) T (first k)) ≡ nest (tree T k) = ap nest (in_first T is k) in
    (fits_snoc T 0 room (xs ++ s ∷ []) (first k) here (omega (arith, below, h, length_snoc xs s, e)), omega (arith, below, h))

-- after a move the places have room again, and there was room for the move
pub fits_move : (T : List Block) → IsTable T → (room : ℕ) (xs : List Spot) (s : Spot) (m : Move) (n : ℕ) → fits T 0 room xs → suc (length xs) + n ≤ room → nest (left_in (tree T) T s) ≤ n → nest (left_in (tree T) T (next s)) ≤ n → nest (left_in (tree T) T (again s)) ≤ n → Inside T m n → fits T 0 room (spots_after m xs s) × (length xs + enters m ≤ room)
fits_move T is room xs s Stay n h k same rest loop i = (fits_snoc T 0 room xs s h (omega (arith, k, same)), omega (arith, k))
fits_move T is room xs s Next n h k same rest loop i = (fits_snoc T 0 room xs (next s) h (omega (arith, k, rest)), omega (arith, k))
fits_move T is room xs s (Bind x v) n h k same rest loop i = (fits_snoc T 0 room xs (next s) h (omega (arith, k, rest)), omega (arith, k))
fits_move T is room xs s (Enter b) n h k same rest loop i = deeper T room xs (next s) b n is (fits_snoc T 0 room xs (next s) h (omega (arith, k, rest))) i k
fits_move T is room xs s (Loop b) n h k same rest loop i = deeper T room xs (again s) b n is (fits_snoc T 0 room xs (again s) h (omega (arith, k, loop))) i k

pub fits_told : (T : List Block) → IsTable T → (room : ℕ) (xs : List Spot) (s : Spot) (o : Op) (env : Env) → fits T 0 room (xs ++ s ∷ []) → slice_get (ops_at T s.block) s.at ≡ Some o → fits T 0 room (spots_after (move_of s.checks o env) xs s) × (length xs + enters (move_of s.checks o env) ≤ room)
fits_told T is room xs s o env h at =
    let f = fits_front T 0 room xs s h in
    let e : nest (left_in (tree T) T s) ≡ nest (testing s.checks (more (stmt_of (tree T) o) (left_in (tree T) T (next s)))) = ap nest (in_at T s o at) in
    let a : nest (left_in (tree T) T (again s)) ≡ nest (more (stmt_of (tree T) o) (left_in (tree T) T (next s))) = ap nest (in_at T (again s) o at) in
    fits_move T is room xs s (move_of s.checks o env) _ f.0 (omega (arith, f.1, e)) (omega (arith, e)) (nest_rest T s.checks o _) (omega (arith, a, nest_again T s.checks o (left_in (tree T) T (next s)))) (inside T s.checks o _ env)

module _ (T : List Block) (is : IsTable T) (room : ℕ) (l : Stmts) (env : Env) where
  -- a place at the end of its block is left
  pub kept_end : (xs : List Spot) (s : Spot) (now : Env) → Kept T room l env (xs ++ s ∷ []) now → slice_get (ops_at T s.block) s.at ≡ None → Kept T room l env xs now
  kept_end xs s now k h = record { same = k.same ∙ ap (λ z. settle z now) (ended_told T xs s h); fits = (fits_front T 0 room xs s k.fits).0 }

  same_by : (b : Bool) (before after : Stmts) (now then_ : Env) → Told before now (ran b after then_) → (b ≡ false → (after ≡ before) × (then_ ≡ now)) → settle before now ≡ settle after then_
  same_by true before after now then_ t h = t.same
  same_by false before after now then_ t h = cc ((h refl).0, (h refl).1)

  stay_is : (m : Move) (xs : List Spot) (s : Spot) (now : Env) → moves m ≡ false → (left T (spots_after m xs s) ≡ left T (xs ++ s ∷ [])) × (env_after m now ≡ now)
  stay_is Stay xs s now h = (refl, refl)
  stay_is Next xs s now h = cc
  stay_is (Bind x v) xs s now h = cc
  stay_is (Enter k) xs s now h = cc
  stay_is (Loop k) xs s now h = cc

  told_at : (xs : List Spot) (s : Spot) (o : Op) (now : Env) → slice_get (ops_at T s.block) s.at ≡ Some o → Told (left T (xs ++ s ∷ [])) now (ran (moves (move_of s.checks o now)) (left T (spots_after (move_of s.checks o now) xs s)) (env_after (move_of s.checks o now) now))
  told_at xs s o now at = subst (λ z. Told (left T (xs ++ s ∷ [])) now z) (move_told T is xs s o now at) (local_told (left T (xs ++ s ∷ [])) now)

  pub kept_move : (xs : List Spot) (s : Spot) (o : Op) (now : Env) → Kept T room l env (xs ++ s ∷ []) now → slice_get (ops_at T s.block) s.at ≡ Some o → Kept T room l env (spots_after (move_of s.checks o now) xs s) (env_after (move_of s.checks o now) now)
  kept_move xs s o now k at = record {
    same = k.same ∙ same_by (moves (move_of s.checks o now)) _ _ now _ (told_at xs s o now at) (stay_is (move_of s.checks o now) xs s now);
    fits = (fits_told T is room xs s o now k.fits at).0;
  }

  less_by : (b : Bool) (before after : Stmts) (now then_ : Env) → Told before now (ran b after then_) → b ≡ true → size after < size before
  less_by true before after now then_ t h = t.less
  less_by false before after now then_ t h = cc

  pub less_move : (xs : List Spot) (s : Spot) (o : Op) (now : Env) → slice_get (ops_at T s.block) s.at ≡ Some o → moves (move_of s.checks o now) ≡ true → size (left T (spots_after (move_of s.checks o now) xs s)) < size (left T (xs ++ s ∷ []))
  less_move xs s o now at h = less_by (moves (move_of s.checks o now)) _ _ now _ (told_at xs s o now at) h

  rests_by : (b : Bool) (before after : Stmts) (now then_ : Env) → Told before now (ran b after then_) → b ≡ false → rested (settle before now) ≡ (now, before)
  rests_by true before after now then_ t h = cc
  rests_by false before after now then_ t h = t.is

  pub kept_rests : (xs : List Spot) (s : Spot) (o : Op) (now : Env) → Kept T room l env (xs ++ s ∷ []) now → slice_get (ops_at T s.block) s.at ≡ Some o → moves (move_of s.checks o now) ≡ false → rested (settle l env) ≡ (env_after (move_of s.checks o now) now, left T (spots_after (move_of s.checks o now) xs s))
  kept_rests xs s o now k at h =
      let e = stay_is (move_of s.checks o now) xs s now h in
      let r : rested (settle (left T (xs ++ s ∷ [])) now) ≡ (now, left T (xs ++ s ∷ [])) = rests_by (moves (move_of s.checks o now)) _ _ now _ (told_at xs s o now at) h in
      ap rested k.same ∙ (r ∙ cc (e.0, e.1))
