-- The event of a frame is that of the statements that are left.
use Rattle.std.proofs.Common.{◌≡◌, ℕ, zero, suc, ◌+◌, ◌-◌, ◌≤◌, ◌<◌, arith, List, [], ◌∷◌, ◌++◌, true, false, Bool, Some, None, Ok, Err, refl, sym, ap, ◌∙◌, length, slice_get, subst, take}
use Rattle.std.specs.Prelude.{max}
use Rattle.pl_resource.specs.Faults.{chain}
use Rattle.pl_resource.specs.declared.value.Fault.{Fault}
use Rattle.c_meaning.specs.declared.action.Action.TheVariants as act
use Rattle.c_meaning.specs.declared.code.Op.{Op}
use Rattle.c_meaning.specs.declared.code.Op.TheVariants as op
use Rattle.c_meaning.specs.declared.code.Block.{Block}
use Rattle.c_meaning.specs.declared.frame.Spot.{Spot}
use Rattle.c_meaning.specs.declared.term.Term as rust
use Rattle.c_meaning.specs.declared.term.Basic as basic
use Rattle.c_meaning.specs.declared.world.World as w
use Rattle.c_meaning.specs.Tree.{Stmts, Let, If, While, Check, Do, more, both}
use Rattle.c_meaning.specs.Plain.{plain_term, plain_basic}
use Rattle.c_meaning.specs.Values.{Env, eval}
use Rattle.c_meaning.specs.Local.{nest}
use Rattle.c_meaning.specs.Blocks.{stmt_of, ops_at, tree, IsTable, testing, left_in, left, fits, next, first}
use Rattle.c_meaning.specs.Effects.{World, Own, Effect, Past, effect_of}
use Rattle.c_meaning.specs.Events.{quiet, faulted, event_in}
use Rattle.c_meaning.specs.Rooms.{BlockRoom}
use Rattle.c_meaning.specs.Machine.{Taken, AtOp, BlockRoomAt}
use Rattle.c_meaning.proofs.Lefts.{fits_snoc, fits_front, get_below}
use Rattle.c_meaning.proofs.Moves.{in_at, left_with, left_entered, ended_told}
use Rattle.c_meaning.proofs.Rooms.{nest_rest, deeper}

abbrev pub checking : Spot → Spot
checking s = record { block = s.block; at = s.at; checks = true }

test_do : (c : Bool) (b : basic.Basic) (T : List Block) (rest R : Stmts) → both (testing c (more (stmt_of (tree T) (op.Do b)) rest)) R ≡ more (Do (plain_basic b)) (both rest R)
test_do true b T rest R = refl
test_do false b T rest R = refl

test_let : (c : Bool) (x : ℕ) (e : rust.Term) (T : List Block) (rest R : Stmts) → both (testing c (more (stmt_of (tree T) (op.Let x e)) rest)) R ≡ more (Let x (plain_term e)) (both rest R)
test_let true x e T rest R = refl
test_let false x e T rest R = refl

test_if : (c : Bool) (e : rust.Term) (a b : ℕ) (T : List Block) (rest R : Stmts) → both (testing c (more (stmt_of (tree T) (op.If e a b)) rest)) R ≡ more (If (plain_term e) (tree T a) (tree T b)) (both rest R)
test_if true e a b T rest R = refl
test_if false e a b T rest R = refl

test_while : (c : Bool) → c ≡ false → (l : ℕ) (e : rust.Term) (b : ℕ) (T : List Block) (rest R : Stmts) → both (testing c (more (stmt_of (tree T) (op.While l e b)) rest)) R ≡ more (While (tree T l) (plain_term e) (tree T b)) (both rest R)
test_while true h l e b T rest R = cc
test_while false h l e b T rest R = refl

test_check : (c : Bool) → c ≡ true → (l : ℕ) (e : rust.Term) (b : ℕ) (T : List Block) (rest R : Stmts) → both (testing c (more (stmt_of (tree T) (op.While l e b)) rest)) R ≡ more (Check (tree T l) (plain_term e) (tree T b)) (both rest R)
test_check true h l e b T rest R = refl
test_check false h l e b T rest R = cc

inside_loop : (a b c : ℕ) → suc a ≤ max (suc (max a b)) c
inside_loop a b c = omega arith

module _ (T : List Block) (is : IsTable T) (room : ℕ) (start now : List Spot) (s : Spot) (o : Op) (k : Taken T room start now s (ops_at T s.block) o) where
  abbrev R : Stmts
  R = left_in (tree T) T (next s)

  begins : left T start ≡ both (testing s.checks (more (stmt_of (tree T) o) R)) (left T now)
  begins = k.same ∙ left_with T now s _ (in_at T s o k.there)

  pub below : s.at < 4294967295
  below = omega (arith, get_below (ops_at T s.block) s.at o k.there, is.few s.block)

  in_front : fits T 0 room now × (suc (0 + length now) + nest (left_in (tree T) T s) ≤ room)
  in_front = fits_front T 0 room now s k.fits

  here : nest (left_in (tree T) T s) ≡ nest (testing s.checks (more (stmt_of (tree T) o) R))
  here = ap nest (in_at T s o k.there)

  pub one_room : length now < room
  one_room = omega (arith, in_front.1)

  pub past_fits : fits T 0 room (now ++ next s ∷ [])
  past_fits = fits_snoc T 0 room now (next s) in_front.0 (omega (arith, in_front.1, here, nest_rest T s.checks o R))

  behind : left T (now ++ next s ∷ []) ≡ both R (left T now)
  behind = left_with T now (next s) R refl

  module _ (b : basic.Basic) (is_do : o ≡ op.Do b) where
    stands : left T start ≡ more (Do (plain_basic b)) (both R (left T now))
    stands = begins ∙ (ap (λ z. both (testing s.checks (more (stmt_of (tree T) z) R)) (left T now)) is_do ∙ test_do s.checks b T R (left T now))

    pub do_room : (env : Env) (world : w.World) → BlockRoomAt env (left T start) world → BlockRoom env (plain_basic b) world
    do_room env world h = subst (λ z. BlockRoomAt env z world) stands h

    do_told : (n : ℕ) (locals : Env) (own : Own) (world : World) → event_in n locals (left T start) own world ≡ chain (effect_of n locals (plain_basic b) own world) (λ e. Ok (record { effect = e; left = left T (now ++ next s ∷ []) }))
    do_told n locals own world = ap (λ z. event_in n locals z own world) stands ∙ ap (λ z. chain (effect_of n locals (plain_basic b) own world) (λ e. Ok (record { effect = e; left = z }))) (sym behind)

    pub do_faults : (n : ℕ) (locals : Env) (own : Own) (world : World) (f : Fault) → Err f ≡ effect_of n locals (plain_basic b) own world → Err f ≡ event_in n locals (left T start) own world
    do_faults n locals own world f h = ap (λ z. chain z (λ e. Ok (record { effect = e; left = left T (now ++ next s ∷ []) }))) h ∙ sym (do_told n locals own world)

    pub do_steps : (n : ℕ) (locals : Env) (own : Own) (world : World) (e : Effect) → Ok e ≡ effect_of n locals (plain_basic b) own world → (spots : List Spot) → spots ≡ now ++ next s ∷ [] → Ok (record { effect = e; left = left T spots }) ≡ event_in n locals (left T start) own world
    do_steps n locals own world e h spots q = ap (λ z. Ok (record { effect = e; left = left T z })) q ∙ (ap (λ z. chain z (λ e. Ok (record { effect = e; left = left T (now ++ next s ∷ []) }))) h ∙ sym (do_told n locals own world))

  module _ (n : ℕ) (locals : Env) (own : Own) (world : World) (r : Fault) where
    pub let_faults : (x : ℕ) (e : rust.Term) → o ≡ op.Let x e → Err r ≡ faulted (eval own.env (plain_term e)) → Err r ≡ event_in n locals (left T start) own world
    let_faults x e h f = f ∙ sym (ap (λ z. event_in n locals z own world) (begins ∙ (ap (λ z. both (testing s.checks (more (stmt_of (tree T) z) R)) (left T now)) h ∙ test_let s.checks x e T R (left T now))))

    pub if_faults : (e : rust.Term) (a b : ℕ) → o ≡ op.If e a b → Err r ≡ faulted (eval own.env (plain_term e)) → Err r ≡ event_in n locals (left T start) own world
    if_faults e a b h f = f ∙ sym (ap (λ z. event_in n locals z own world) (begins ∙ (ap (λ z. both (testing s.checks (more (stmt_of (tree T) z) R)) (left T now)) h ∙ test_if s.checks e a b T R (left T now))))

    pub test_faults : (l : ℕ) (e : rust.Term) (b : ℕ) → o ≡ op.While l e b → s.checks ≡ true → Err r ≡ faulted (eval own.env (plain_term e)) → Err r ≡ event_in n locals (left T start) own world
    test_faults l e b h c f = f ∙ sym (ap (λ z. event_in n locals z own world) (begins ∙ (ap (λ z. both (testing s.checks (more (stmt_of (tree T) z) R)) (left T now)) h ∙ test_check s.checks c l e b T R (left T now))))

  module _ (l : ℕ) (e : rust.Term) (b : ℕ) (is_while : o ≡ op.While l e b) (off : s.checks ≡ false) where
    at_test : left_in (tree T) T (checking s) ≡ more (Check (tree T l) (plain_term e) (tree T b)) R
    at_test = in_at T (checking s) o k.there ∙ ap (λ z. testing true (more (stmt_of (tree T) z) R)) is_while

    at_head : left_in (tree T) T s ≡ more (While (tree T l) (plain_term e) (tree T b)) R
    at_head = in_at T s o k.there ∙ (ap (λ z. testing s.checks (more (stmt_of (tree T) z) R)) is_while ∙ ap (λ z. testing z (more (While (tree T l) (plain_term e) (tree T b)) R)) off)

    inner : fits T 0 room ((now ++ checking s ∷ []) ++ first l ∷ []) × (length now + 2 ≤ room)
    inner =
        let size : nest (left_in (tree T) T s) ≡ nest (more (While (tree T l) (plain_term e) (tree T b)) R) = ap nest at_head in
        let test : nest (left_in (tree T) T (checking s)) ≡ nest (more (Check (tree T l) (plain_term e) (tree T b)) R) = ap nest at_test in
        deeper T room now (checking s) l (nest (left_in (tree T) T s)) is (fits_snoc T 0 room now (checking s) in_front.0 (omega (arith, in_front.1, size, test))) (omega (arith, size, inside_loop (nest (tree T l)) (nest (tree T b)) (nest R))) (omega (arith, in_front.1))

    pub turn_fits : fits T 0 room ((now ++ checking s ∷ []) ++ first l ∷ [])
    turn_fits = inner.0

    pub two_room : length now + 2 ≤ room
    two_room = inner.1

    pub turn_steps : (n : ℕ) (locals : Env) (own : Own) (world : World) (spots : List Spot) → spots ≡ (now ++ checking s ∷ []) ++ first l ∷ [] → Ok (quiet act.Turn own world Past (left T spots)) ≡ event_in n locals (left T start) own world
    turn_steps n locals own world spots q =
        ap (λ z. Ok (quiet act.Turn own world Past z)) (ap (left T) q ∙ left_entered T is now (checking s) _ l at_test)
        ∙ sym (ap (λ z. event_in n locals z own world) (begins ∙ (ap (λ z. both (testing s.checks (more (stmt_of (tree T) z) R)) (left T now)) is_while ∙ test_while s.checks off l e b T R (left T now))))

-- a place at the end of its block goes
pub end_goes : (T : List Block) (room : ℕ) (start before xs : List Spot) (s : Spot) → before ≡ xs ++ s ∷ [] → left T start ≡ left T before → fits T 0 room before → slice_get (ops_at T s.block) s.at ≡ None → (left T start ≡ left T xs) × fits T 0 room xs
end_goes T room start before xs s popped same fit h = (same ∙ (ap (left T) popped ∙ ended_told T xs s h), (fits_front T 0 room xs s (subst (fits T 0 room) popped fit)).0)

-- looking at places from the innermost one on
take_last : {A : Type 0} (xs : List A) (n : ℕ) (x : A) → slice_get xs n ≡ Some x → take (suc n) xs ≡ take n xs ++ x ∷ []
take_last [] n x h = cc
take_last (y ∷ ys) zero x h = cc h
take_last (y ∷ ys) (suc n) x h = ap (λ z. y ∷ z) (take_last ys n x h)

pred_suc : (n : ℕ) → 0 < n → suc (n - 1) ≡ n
pred_suc n h = omega (arith, h)

module _ (T : List Block) (spots : List Spot) (n : ℕ) (some : 0 < n) (same : left T spots ≡ left T (take n spots)) (s : Spot) (at : slice_get spots (n - 1) ≡ Some s) where
  before : left T spots ≡ left T (take (n - 1) spots ++ s ∷ [])
  before = same ∙ ap (left T) (ap (λ z. take z spots) (sym (pred_suc n some)) ∙ take_last spots (n - 1) s at)

  pub looks_on : slice_get (ops_at T s.block) s.at ≡ None → left T spots ≡ left T (take (n - 1) spots)
  looks_on h = before ∙ ended_told T (take (n - 1) spots) s h

  pub stands_at : (o : Op) → slice_get (ops_at T s.block) s.at ≡ Some o → AtOp T (left T spots) s.checks o
  stands_at o h = rest_of s.checks o (before ∙ left_with T (take (n - 1) spots) s _ (in_at T s o h))
    where
      rest_of : (c : Bool) (o : Op) → left T spots ≡ both (testing c (more (stmt_of (tree T) o) (left_in (tree T) T (next s)))) (left T (take (n - 1) spots)) → AtOp T (left T spots) c o
      rest_of true (op.Let x e) h = record { rest = both (left_in (tree T) T (next s)) (left T (take (n - 1) spots)); is = h }
      rest_of false (op.Let x e) h = record { rest = both (left_in (tree T) T (next s)) (left T (take (n - 1) spots)); is = h }
      rest_of true (op.If e a b) h = record { rest = both (left_in (tree T) T (next s)) (left T (take (n - 1) spots)); is = h }
      rest_of false (op.If e a b) h = record { rest = both (left_in (tree T) T (next s)) (left T (take (n - 1) spots)); is = h }
      rest_of true (op.While l e b) h = record { rest = both (left_in (tree T) T (next s)) (left T (take (n - 1) spots)); is = h }
      rest_of false (op.While l e b) h = record { rest = both (left_in (tree T) T (next s)) (left T (take (n - 1) spots)); is = h }
      rest_of true (op.Do b) h = record { rest = both (left_in (tree T) T (next s)) (left T (take (n - 1) spots)); is = h }
      rest_of false (op.Do b) h = record { rest = both (left_in (tree T) T (next s)) (left T (take (n - 1) spots)); is = h }
