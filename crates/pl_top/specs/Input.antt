-- The text of an input: a number on each line.
use Rattle.std.specs.Prelude.{◌≡◌, ℕ, zero, suc, ℤ, pos, negsuc, ◌+◌, ◌^◌, ◌==◌, ◌&&◌, nat_le, nat_lt, not, Bool, Option, Some, None, List, [], ◌∷◌, ◌++◌, Result, Ok, Err, length, if◌then◌else◌}
use Rattle.std.specs.List.{list_all}
use Rattle.pl_base.specs.Tokens.{is_digit, digits_onto}
use Rattle.pl_top.specs.declared.input.InputError.{InputError}
use Rattle.pl_top.specs.declared.input.InputError.TheVariants as e

-- a last line that isn't ended, if there is one
abbrev pub last_line : List ℕ → List (List ℕ)
last_line [] = []
last_line (b ∷ bs) = (b ∷ bs) ∷ []

-- the lines of a text behind the bytes with which a line begins; each is ended by LF (10), which may be missing at the last
abbrev pub lines_behind : List ℕ → List ℕ → List (List ℕ)
lines_behind line [] = last_line line
lines_behind line (b ∷ bs) = if b == 10 then line ∷ lines_behind [] bs else lines_behind (line ++ b ∷ []) bs

-- the lines of a text
abbrev pub lines_of : List ℕ → List (List ℕ)
lines_of bytes = lines_behind [] bytes

-- 1 to 19 decimal digits
abbrev pub are_digits : List ℕ → Bool
are_digits ds = nat_le 1 (length ds) && nat_le (length ds) 19 && list_all is_digit ds

-- a number of 64 bits with its sign, if it is one
abbrev pub above : ℕ → Option ℤ
above n = if nat_lt n (2 ^ 63) then Some (pos n) else None

abbrev pub negative : ℕ → ℤ
negative zero = pos 0
negative (suc n) = negsuc n

abbrev pub below : ℕ → Option ℤ
below n = if nat_le n (2 ^ 63) then Some (negative n) else None

-- the number of a line: its digits, with a `-` (45) in front of them where it is below 0
abbrev pub number_of : List ℕ → Option ℤ
number_of [] = None
number_of (b ∷ bs) =
    if b == 45 then (if are_digits bs then below (digits_onto 0 bs) else None)
    else (if are_digits (b ∷ bs) then above (digits_onto 0 (b ∷ bs)) else None)

-- a line's number before those of the lines behind it; a line that has none is refused
abbrev pub before : ℕ → Option ℤ → Result (List ℤ) ℕ → Result (List ℤ) ℕ
before n None rest = Err n
before n (Some z) (Ok zs) = Ok (z ∷ zs)
before n (Some z) (Err m) = Err m

-- the numbers of lines, of which the first is line n, or the first line that is refused
abbrev pub numbers_from : ℕ → List (List ℕ) → Result (List ℤ) ℕ
numbers_from n [] = Ok []
numbers_from n (l ∷ ls) = before n (number_of l) (numbers_from (n + 1) ls)

-- the numbers of an input, or its first line that is refused, from 1
abbrev pub input_of : List ℕ → Result (List ℤ) ℕ
input_of bytes = numbers_from 1 (lines_of bytes)

-- what is told of an input, want of memory aside
abbrev pub Tells : {A : Type 0} → (A → List ℤ) → Result A InputError → Result (List ℤ) ℕ → Type 0
Tells view (Ok numbers) told = told ≡ Ok (view numbers)
Tells view (Err (e.Line n)) told = told ≡ Err n
Tells view (Err e.Memory) told = Unit {0}

-- whether a line goes on with this byte
abbrev pub is_inside : ℕ → Bool
is_inside b = not (b == 10)
