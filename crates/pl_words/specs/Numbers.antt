-- Numbers of the command line.
use Rattle.std.specs.Prelude.{ℕ, Bool, false, List, [], ◌∷◌, Option, Some, None, if◌then◌else◌, length, ◌==◌, ◌&&◌, not, nat_le}
use Rattle.std.specs.List.{list_all}
use Rattle.std.specs.Char.{is_ascii_digit}
use Rattle.std.specs.Str.Parse.{digits_value}

-- whether a zero stands before further digits
abbrev pub has_leading_zero : List ℕ → Bool
has_leading_zero [] = false
has_leading_zero (d ∷ []) = false
has_leading_zero (d ∷ e ∷ rest) = d == 48

-- whether a word is one to seven decimal digits without a leading zero
abbrev pub is_numeral : List ℕ → Bool
is_numeral w = nat_le 1 (length w) && nat_le (length w) 7 && list_all is_ascii_digit w && not (has_leading_zero w)

-- whether a number is from 1 to a bound
abbrev pub is_up_to : ℕ → ℕ → Bool
is_up_to most n = nat_le 1 n && nat_le n most

-- the number from 1 to a bound that a word writes
abbrev pub number_of : ℕ → List ℕ → Option ℕ
number_of most w = if is_numeral w && is_up_to most (digits_value 10 w) then Some (digits_value 10 w) else None
