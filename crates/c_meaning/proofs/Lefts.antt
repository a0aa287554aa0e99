-- What is left at places in blocks.
use Rattle.std.proofs.Common.{◌≡◌, ℕ, zero, suc, ◌+◌, ◌≤◌, ◌<◌, arith, List, [], ◌∷◌, ◌++◌, Some, None, refl, sym, ap, ◌∙◌, length, drop, slice_get}
use Rattle.c_meaning.specs.Tree.{Stmts, end, more, both}
use Rattle.c_meaning.specs.Local.{nest}
use Rattle.c_meaning.specs.Blocks.{stmt_of, stmts_of, ops_at, tree_by, tree, below_one, all_below, IsTable, left_in, left_of, fits}
use Rattle.c_meaning.specs.declared.code.Op.{Op}
use Rattle.c_meaning.specs.declared.code.Op.TheVariants as op
use Rattle.c_meaning.specs.declared.code.Block.{Block}
use Rattle.c_meaning.specs.declared.frame.Spot.{Spot}

pub both_assoc : (a b c : Stmts) → both (both a b) c ≡ both a (both b c)
both_assoc end b c = refl
both_assoc (more s a) b c = ap (more s) (both_assoc a b c)

pub both_end : (a : Stmts) → both a end ≡ a
both_end end = refl
both_end (more s a) = ap (more s) (both_end a)

pub left_snoc : (t : ℕ → Stmts) (T : List Block) (xs : List Spot) (s : Spot) → left_of t T (xs ++ s ∷ []) ≡ both (left_in t T s) (left_of t T xs)
left_snoc t T [] s = sym (both_end (left_in t T s))
left_snoc t T (x ∷ xs) s = ap (λ z. both z (left_in t T x)) (left_snoc t T xs s) ∙ both_assoc (left_in t T s) (left_of t T xs) (left_in t T x)

pub stmt_agree : (f g : ℕ → Stmts) (k : ℕ) (o : Op) → ((i : ℕ) → i < k → f i ≡ g i) → below_one k o → stmt_of f o ≡ stmt_of g o
stmt_agree f g k (op.If e a b) h below = cc (h a below.0, h b below.1)
stmt_agree f g k (op.While l e b) h below = cc (h l below.0, h b below.1)
stmt_agree f g k (op.Let x e) h below = refl
stmt_agree f g k (op.Do a) h below = refl

pub stmts_agree : (f g : ℕ → Stmts) (k : ℕ) (os : List Op) → ((i : ℕ) → i < k → f i ≡ g i) → all_below k os → stmts_of f os ≡ stmts_of g os
stmts_agree f g k [] h below = refl
stmts_agree f g k (o ∷ os) h below = cc (stmt_agree f g k o h below.0, stmts_agree f g k os h below.1)

trees_agree : (T : List Block) → IsTable T → (n m k : ℕ) → k < n → k < m → tree_by n T k ≡ tree_by m T k
trees_agree T is zero m k a b = absurd (omega (arith, a))
trees_agree T is (suc n) zero k a b = absurd (omega (arith, b))
trees_agree T is (suc n) (suc m) k a b =
    stmts_agree (tree_by n T) (tree_by m T) k (ops_at T k) (λ i lt. trees_agree T is n m i (omega (arith, a, lt)) (omega (arith, b, lt))) (is.ordered k)

-- the statements of a block are those of its operations
pub tree_is : (T : List Block) → IsTable T → (k : ℕ) → tree T k ≡ stmts_of (tree T) (ops_at T k)
tree_is T is k =
    stmts_agree (tree_by k T) (tree T) k (ops_at T k) (λ i lt. trees_agree T is k (suc i) i lt (omega arith)) (is.ordered k)

-- the operation before which a place stands, and what follows it
pub drop_at : {A : Type 0} (xs : List A) (n : ℕ) (x : A) → slice_get xs n ≡ Some x → drop n xs ≡ x ∷ drop (suc n) xs
drop_at [] n x h = cc
drop_at (y ∷ ys) zero x h = cc
drop_at (y ∷ ys) (suc n) x h = drop_at ys n x h

pub drop_none : {A : Type 0} (xs : List A) (n : ℕ) → slice_get xs n ≡ None → drop n xs ≡ []
drop_none [] zero h = refl
drop_none [] (suc n) h = refl
drop_none (y ∷ ys) zero h = cc
drop_none (y ∷ ys) (suc n) h = drop_none ys n h

pub fits_snoc : (T : List Block) (n room : ℕ) (xs : List Spot) (s : Spot) → fits T n room xs → suc (n + length xs) + nest (left_in (tree T) T s) ≤ room → fits T n room (xs ++ s ∷ [])
fits_snoc T n room [] s h new = (omega (arith, new), tt)
fits_snoc T n room (x ∷ xs) s h new = (h.0, fits_snoc T (suc n) room xs s h.1 (omega (arith, new)))

pub fits_front : (T : List Block) (n room : ℕ) (xs : List Spot) (s : Spot) → fits T n room (xs ++ s ∷ []) → fits T n room xs × (suc (n + length xs) + nest (left_in (tree T) T s) ≤ room)
fits_front T n room [] s h = (tt, omega (arith, h.0))
fits_front T n room (x ∷ xs) s h = let r = fits_front T (suc n) room xs s h.1 in ((h.0, r.0), omega (arith, r.1))

pub get_below : {A : Type 0} (xs : List A) (n : ℕ) (x : A) → slice_get xs n ≡ Some x → n < length xs
get_below [] n x h = cc
get_below (y ∷ ys) zero x h = omega arith
get_below (y ∷ ys) (suc n) x h = omega (arith, get_below ys n x h)
