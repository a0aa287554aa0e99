-- Values that are repeated, into room that was taken for all of them.
use Rattle.std.proofs.Common.{◌≡◌, ℕ, zero, suc, ◌+◌, ◌*◌, ◌≤◌, ◌<◌, List, ◌++◌, arith, true, is_err, Result, Ok, Err, ap, sym, ◌∙◌, append_assoc, append-nil, add-one}
use Rattle.std.specs.List.{repeat}
use Rattle.std.specs.Result.{OnErr}
use Rattle.std.proofs.Math.Nat.{mul-le-mul_right}

-- one more behind the others is one more in front of them
pub repeat-append : {A : Type 0} (n : ℕ) (xs : List A) → repeat n xs ++ xs ≡ repeat (suc n) xs
repeat-append zero xs = sym (append-nil xs)
repeat-append (suc n) xs = append_assoc xs (repeat n xs) xs ∙ ap (λ rest. xs ++ rest) (repeat-append n xs)

pub repeat_one_more : {A : Type 0} (n : ℕ) (xs : List A) → repeat (n + 1) xs ≡ repeat n xs ++ xs
repeat_one_more n xs = rw add-one (sym (repeat-append n xs))

-- one more element fits into the room for all
pub fits_one : {T E : Type 0} (r : Result T E) (e n len filled capacity : ℕ) → is_err r ≡ true
    → OnErr r (capacity < filled + len) → e < n → filled ≡ e * len → len * n ≤ capacity → ⊥
fits_one (Ok v) e n len filled capacity failed full below have room = cc
fits_one (Err v) e n len filled capacity failed full below have room =
    let most : (e + 1) * len ≤ n * len = mul-le-mul_right len (omega (arith, below)) in
    omega (arith, full, most, have, room)
