-- The turns of the loop that runs what needs no event, over plain lists.
use Rattle.std.proofs.Common.{◌≡◌, ℕ, suc, ◌+◌, ◌*◌, ◌≤◌, ◌<◌, arith, List, [], ◌∷◌, ◌++◌, true, false, Some, None, sym, ap, length, slice_get, subst}
use Rattle.c_meaning.specs.Tree.{Stmts}
use Rattle.c_meaning.specs.Values.{Env}
use Rattle.c_meaning.specs.Local.{settle, rested, size}
use Rattle.c_meaning.specs.Blocks.{ops_at, IsTable, left, move_of, moves, spots_after, env_after, enters, Kept, next, again, first}
use Rattle.c_meaning.proofs.Rooms.{kept_end, kept_move, less_move, kept_rests, fits_told, length_snoc}
use Rattle.c_meaning.proofs.Moves.{ended_told}
use Rattle.c_meaning.specs.declared.code.Op.{Op}
use Rattle.c_meaning.specs.declared.code.Block.{Block}
use Rattle.c_meaning.specs.declared.frame.Spot.{Spot}
use Rattle.c_meaning.specs.declared.frame.Move.{Move}
use Rattle.c_meaning.specs.declared.frame.Move.TheVariants.{Stay, Next, Bind, Enter, Loop}

abbrev pub Weight : List Block → List Spot → ℕ
Weight T spots = 2 * size (left T spots) + length spots

module _ (T : List Block) (is : IsTable T) (room : ℕ) (l : Stmts) (env : Env) (before xs : List Spot) (s : Spot) (now : Env) (popped : before ≡ xs ++ s ∷ []) (k : Kept T room l env before now) where
  at_last : Kept T room l env (xs ++ s ∷ []) now
  at_last = subst (λ z. Kept T room l env z now) popped k

  pub turn_end : slice_get (ops_at T s.block) s.at ≡ None → Kept T room l env xs now × (Weight T xs < Weight T before)
  turn_end h = (
    kept_end T is room l env xs s now at_last h,
    subst (λ z. Weight T xs < Weight T z) (sym popped) (omega (arith, ap size (ended_told T xs s h), length_snoc xs s)),
  )

  pub turn_room : (o : Op) → slice_get (ops_at T s.block) s.at ≡ Some o → (m : Move) → m ≡ move_of s.checks o now → length xs + enters m ≤ room
  turn_room o at m e = subst (λ z. length xs + enters z ≤ room) (sym e) (fits_told T is room xs s o now (at_last).fits at).1

  pub turn_move : (o : Op) → slice_get (ops_at T s.block) s.at ≡ Some o → (m : Move) → m ≡ move_of s.checks o now → Kept T room l env (spots_after m xs s) (env_after m now)
  turn_move o at m e = subst (λ z. Kept T room l env (spots_after z xs s) (env_after z now)) (sym e) (kept_move T is room l env xs s o now at_last at)

  pub turn_rests : (o : Op) → slice_get (ops_at T s.block) s.at ≡ Some o → (m : Move) → m ≡ move_of s.checks o now → moves m ≡ false → rested (settle l env) ≡ (env_after m now, left T (spots_after m xs s))
  turn_rests o at m e h = subst (λ z. moves z ≡ false → rested (settle l env) ≡ (env_after z now, left T (spots_after z xs s))) (sym e) (kept_rests T is room l env xs s o now at_last at) h

  longer : (m : Move) → length (spots_after m xs s) ≤ suc (length (xs ++ s ∷ []))
  longer Stay = omega arith
  longer Next = omega (arith, length_snoc xs s, length_snoc xs (next s))
  longer (Bind x v) = omega (arith, length_snoc xs s, length_snoc xs (next s))
  longer (Enter b) = omega (arith, length_snoc xs s, length_snoc xs (next s), length_snoc (xs ++ next s ∷ []) (first b))
  longer (Loop b) = omega (arith, length_snoc xs s, length_snoc xs (again s), length_snoc (xs ++ again s ∷ []) (first b))

  pub turn_less : (o : Op) → slice_get (ops_at T s.block) s.at ≡ Some o → (m : Move) → m ≡ move_of s.checks o now → moves m ≡ true → Weight T (spots_after m xs s) < Weight T before
  turn_less o at m e h =
      let less : moves m ≡ true → size (left T (spots_after m xs s)) < size (left T (xs ++ s ∷ [])) = subst (λ z. moves z ≡ true → size (left T (spots_after z xs s)) < size (left T (xs ++ s ∷ []))) (sym e) (less_move T is room l env xs s o now at) in
      subst (λ z. Weight T (spots_after m xs s) < Weight T z) (sym popped) (omega (arith, less h, longer m))
