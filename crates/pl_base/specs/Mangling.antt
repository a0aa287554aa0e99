-- How a name is written in a C text, with ASCII letters, digits and `_` alone.
use Rattle.std.specs.Prelude.{ℕ, ◌/◌, ◌%◌, List, [], ◌∷◌, ◌==◌, if◌then◌else◌, flat_map}
use Rattle.std.specs.Char.{digit_char, is_ascii_alphanumeric}

-- six lower hexadecimal digits of a number below 16 ^ 6
abbrev pub six_digits : ℕ → List ℕ
six_digits n =
    digit_char (n / 0x10_0000 % 16) ∷ digit_char (n / 0x1_0000 % 16) ∷ digit_char (n / 0x1000 % 16)
    ∷ digit_char (n / 0x100 % 16) ∷ digit_char (n / 0x10 % 16) ∷ digit_char (n % 16) ∷ []

-- a letter or digit stays, `_` (95) becomes `__`, any other character `_u` (`u` is 117) and six digits
abbrev pub mangled_char : ℕ → List ℕ
mangled_char c =
    if is_ascii_alphanumeric c then c ∷ [] else if c == 95 then 95 ∷ 95 ∷ [] else 95 ∷ 117 ∷ six_digits c

-- the mangled text of the characters
abbrev pub mangled : List ℕ → List ℕ
mangled cs = flat_map mangled_char cs
