-- Sums over all hands.
use Rattle.std.proofs.Common.{◌≡◌, ℕ, zero, suc, ◌+◌, ◌≤◌, List, [], ◌∷◌, ◌++◌, set, length, refl, sym, ap, arith}
use mathlib.Core.Option.{some, some-injective, some-ne-none}
use lib.ListN.{get_elem?}
use Rattle.std.proofs.lemmas.Bool.Decides.{nat_tests}
use Rattle.pl_jobs.specs.declared.hand.Hand.{Hand}
use Rattle.pl_jobs.specs.Numbers.{times, total, once_below}

-- the total after a change of one hand
pub total_set : (f : Hand → ℕ) (views : List Hand) (id : ℕ) (v w : Hand) → get_elem? views id ≡ some v → total f (set views id w) + f v ≡ total f views + f w
total_set f [] id v w at = absurd (some-ne-none v (sym at))
total_set f (x ∷ xs) zero v w at = let e = ap f (some-injective x v at) in omega (arith, e)
total_set f (x ∷ xs) (suc id) v w at = let e = total_set f xs id v w at in omega (arith, e)

pub total_snoc : (f : Hand → ℕ) (views : List Hand) (v : Hand) → total f (views ++ v ∷ []) ≡ total f views + f v
total_snoc f [] v = omega arith
total_snoc f (x ∷ xs) v = let e = total_snoc f xs v in omega (arith, e)

pub total_at : (f : Hand → ℕ) (views : List Hand) (id : ℕ) (v : Hand) → get_elem? views id ≡ some v → f v ≤ total f views
total_at f [] id v at = absurd (some-ne-none v (sym at))
total_at f (x ∷ xs) zero v at = let e = ap f (some-injective x v at) in omega (arith, e)
total_at f (x ∷ xs) (suc id) v at = let e = total_at f xs id v at in omega (arith, e)

-- where g is 0 of all, f is 0 of all
total_none : (f g : Hand → ℕ) → ((v : Hand) → g v ≡ 0 → f v ≡ 0) → (views : List Hand) → total g views ≡ 0 → total f views ≡ 0
total_none f g none [] e = refl
total_none f g none (x ∷ xs) e = let a = none x (omega arith) in let b = total_none f g none xs (omega arith) in omega (arith, a, b)

-- where one hand has all of g, it has all of f
pub total_one : (f g : Hand → ℕ) → ((v : Hand) → g v ≡ 0 → f v ≡ 0) → (views : List Hand) (id : ℕ) (v : Hand) → get_elem? views id ≡ some v → total g views ≡ g v → total f views ≡ f v
total_one f g none [] id v at e = absurd (some-ne-none v (sym at))
total_one f g none (x ∷ xs) zero v at e =
    let s = some-injective x v at in
    let p = ap f s in
    let q = ap g s in
    let r = total_none f g none xs (omega (arith, q)) in omega (arith, p, r)
total_one f g none (x ∷ xs) (suc id) v at e =
    let low = total_at g xs id v at in
    let here = none x (omega (arith, low)) in
    let rest = total_one f g none xs id v at (omega (arith, low)) in omega (arith, here, rest)

pub times-append : (x : ℕ) (xs ys : List ℕ) → times x (xs ++ ys) ≡ times x xs + times x ys
times-append x [] ys = omega arith
times-append x (y ∷ xs) ys = let e = times-append x xs ys in omega (arith, e)

pub once_more : (x n : ℕ) → once_below x (n + 1) ≡ once_below x n + times x (n ∷ [])
once_more x n = grind (arith, nat_tests)

pub none_drawn : (x : ℕ) (xs : List ℕ) → length xs ≡ 0 → times x xs ≡ 0
none_drawn x [] e = refl
none_drawn x (y ∷ ys) e = absurd (omega arith)
