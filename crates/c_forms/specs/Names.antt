-- Readers of names, by bytes: the mangled text of an identifier that is no word and keeps the limits.
use Rattle.std.specs.Prelude.{ℕ, zero, suc, ◌+◌, ◌-◌, ◌*◌, ◌^◌, ◌&&◌, ◌||◌, ◌==◌, nat_le, nat_lt, Bool, true, false, if◌then◌else◌, List, [], ◌++◌, codes, encode_utf8, position, Option, Some, None, is_some}
use Rattle.std.specs.Char.{is_ascii_alphabetic, is_ascii_alphanumeric, is_ascii_digit}
use Rattle.std.specs.Str.{bytes_eq}
use Rattle.pl_base.specs.Tokens.{words}
use Rattle.pl_lexer.specs.Lexemes.{is_start, is_more}
use Rattle.pl_readers.specs.Bytes.{is}
use Rattle.pl_readers.specs.Reader.{Reader, one, next, either, nothing, mapped}
use Rattle.c_forms.specs.Reading.{after, just, unless}

-- ---- characters

-- the code of a character: no surrogate, and none past the last
abbrev pub is_scalar : ℕ → Bool
is_scalar c = if nat_lt c 0xD800 then true else (nat_le 0xE000 c && nat_lt c 0x11_0000)

-- a character that is no ASCII one and may stand in a name: in front, or behind
abbrev pub fits : Bool → ℕ → Bool
fits in_front c = is_scalar c && (nat_le 128 c && (if in_front then is_start c else is_more c))

-- whether one of the n characters from c on fits
unfoldable pub some_fits : Bool → ℕ → ℕ → Bool
some_fits in_front c zero = false
some_fits in_front c (suc n) = fits in_front c || some_fits in_front (c + 1) n

-- a lower hexadecimal digit
abbrev pub is_hex : ℕ → Bool
is_hex c = is_ascii_digit c || (nat_le 97 c && nat_le c 102)

-- and its value
abbrev pub hex_value : ℕ → ℕ
hex_value c = if is_ascii_digit c then c - 48 else c - 87

-- the digits v with one more, where k digits later a character that fits can stand
abbrev pub hex_of : Bool → ℕ → ℕ → ℕ → Option ℕ
hex_of in_front k v c = if is_hex c && some_fits in_front ((v * 16 + hex_value c) * 16 ^ k) (16 ^ k) then Some (v * 16 + hex_value c) else None

-- k more digits behind those of v
unfoldable pub hexes : Bool → ℕ → ℕ → Reader ℕ ℕ
hexes in_front zero v = nothing v
hexes in_front (suc k) v = next (one (hex_of in_front k v)) (λ w. hexes in_front k w)

-- the escape of a character that is no ASCII one, behind its `_`
abbrev pub escape : Bool → Reader ℕ ℕ
escape in_front = after (codes "u") (hexes in_front 6 0)

-- an ASCII letter or digit
abbrev pub plain_of : (ℕ → Bool) → ℕ → Option ℕ
plain_of test c = if test c then Some c else None

-- ---- names

-- a byte that may be part of a name
abbrev pub is_name_byte : ℕ → Bool
is_name_byte c = is_ascii_alphanumeric c || (c == 95)

-- a character behind a `_` and then what R reads: an escape, where there is room for one, or another `_`
abbrev pub behind_line : (ℕ → List ℕ → Reader ℕ (List ℕ)) → ℕ → List ℕ → Reader ℕ (List ℕ) → Reader ℕ (List ℕ)
behind_line R m front other =
    either (λ x. nat_le 8 m && (x == 117)) (next (escape false) (λ c. R (m - 8) (front ++ encode_utf8 c))) other

-- another `_` and then what R reads
abbrev pub second_line : (ℕ → List ℕ → Reader ℕ (List ℕ)) → ℕ → List ℕ → Reader ℕ (List ℕ)
second_line R m front = after (codes "_") (R (m - 2) (front ++ encode_utf8 95))

-- a letter or digit, where there is room for it, and then what R reads
abbrev pub plain_or : (ℕ → List ℕ → Reader ℕ (List ℕ)) → ℕ → List ℕ → Reader ℕ (List ℕ) → Reader ℕ (List ℕ)
plain_or R m front other =
    either (λ x. nat_le 1 m && is_ascii_alphanumeric x) (next (one (plain_of is_ascii_alphanumeric)) (λ c. R (m - 1) (front ++ encode_utf8 c))) other

-- further characters of a name, at most k and in at most m bytes, behind those in front
unfoldable pub more : ℕ → ℕ → List ℕ → Reader ℕ (List ℕ)
more zero m front = nothing front
more (suc k) m front =
    plain_or (more k) m front
    (either (λ x. nat_le 2 m && (x == 95)) (after (codes "_") (behind_line (more k) m front (second_line (more k) m front))) (nothing front))

-- the same with one `_` behind them
unfoldable pub more_line : ℕ → ℕ → List ℕ → Reader ℕ (List ℕ)
more_line zero m front = just front (codes "_")
more_line (suc k) m front =
    plain_or (more_line k) m front
    (after (codes "_") (behind_line (more_line k) m front (either (λ x. nat_le 2 m && (x == 95)) (second_line (more_line k) m front) (nothing front))))

-- the first character, with the bytes that are left for others
unfoldable pub first : List ℕ → Reader ℕ (ℕ × List ℕ)
first front =
    either is_ascii_alphabetic (mapped (λ c. (49, front ++ encode_utf8 c)) (one (plain_of is_ascii_alphabetic)))
    (after (codes "_") (either (is 117) (mapped (λ c. (42, front ++ encode_utf8 c)) (escape true)) (just (48, front ++ encode_utf8 95) (codes "_"))))

-- a word of the source language
unfoldable pub is_word : List ℕ → Bool
is_word bytes = is_some (position (λ s. bytes_eq s bytes) words)

-- a name
unfoldable pub name : Reader ℕ (List ℕ)
name = unless is_word (next (first []) (λ p. more 39 p.0 p.1))

-- a name and the `_` behind it
unfoldable pub name_line : Reader ℕ (List ℕ)
name_line = unless is_word (next (first []) (λ p. more_line 39 p.0 p.1))
