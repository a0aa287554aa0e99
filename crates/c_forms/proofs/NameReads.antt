-- Names are read right: escapes, characters, words and limits.
use Rattle.std.proofs.Common.{◌≡◌, ◌⊎◌, inl, inr, ℕ, zero, suc, ◌+◌, ◌-◌, ◌*◌, ◌/◌, ◌%◌, ◌^◌, ◌<◌, ◌≤◌, Bool, true, false, List, [], ◌∷◌, ◌++◌, Some, None, Ok, refl, sym, ap, ◌∙◌, arith}
use Rattle.std.specs.Prelude.{◌&&◌, ◌||◌, ◌==◌, nat_le, nat_lt, codes, if◌then◌else◌}
use Rattle.std.specs.Char.{is_ascii_digit, digit_char}
use Rattle.std.proofs.Math.Nat.{div-eq_of_lt-le, div-mul-le_self, lt-div-mul-add, lt_of_mul-lt-mul_right}
use Rattle.std.proofs.Math.Utf8.{scalar_cases}
use Rattle.std.proofs.lemmas.Bool.{and_parts, or_cases, or_left, or_right, eq-eqb, eqb-true, leb-true, ltb-true, agree_below_at}
use native.Mathlib.Numerals.{unary_clauses}
use Rattle.pl_base.specs.Mangling.{six_digits}
use Rattle.unicode_ident.specs.Ident.{is_xid_start, is_xid_continue}
use Rattle.ucd_table.specs.Rows.{in_ranges}
use Rattle.ucd_derived.specs.XidStartRanges.{xid_start_ranges}
use Rattle.ucd_derived.specs.XidContinueRanges.{xid_continue_ranges}
use Rattle.pl_lexer.specs.Lexemes.{is_start, is_more}
use Rattle.pl_readers.specs.Language.{Language, One, Then, Nothing, HasText}
use Rattle.pl_readers.specs.Reader.{one, next, nothing}
use Rattle.pl_readers.specs.Reads.{never}
use Rattle.pl_readers.proofs.Correct.{Reads-one}
use Rattle.pl_readers.proofs.Firsts.{ends_never}
use Rattle.c_forms.specs.Names.{is_scalar, fits, some_fits, is_hex, hex_value, hex_of, hexes, escape}
use Rattle.c_forms.proofs.HexLaws.{above_zero}
use Rattle.c_forms.proofs.Spelling.{Spells, Good, same, good_then, good_nothing, lit}

-- ---- hexadecimal digits

hex_table : (c : ℕ) → c < 128 → (if is_hex c then nat_lt (hex_value c) 16 && (digit_char (hex_value c) == c) else true) ≡ true
hex_table c lt = agree_below_at (λ c. if is_hex c then nat_lt (hex_value c) 16 && (digit_char (hex_value c) == c) else true) (λ _. true) 128 c refl lt

hex_low : (c : ℕ) → is_hex c ≡ true → c < 128
hex_low c e = elim (or_cases (is_ascii_digit c) (nat_le 97 c && nat_le c 102) e) [
  | inl d ↦ let h = and_parts (nat_le 48 c) (nat_le c 57) d in let k = leb-true c 57 h.1 in omega arith
  | inr l ↦ let h = and_parts (nat_le 97 c) (nat_le c 102) l in let k = leb-true c 102 h.1 in omega arith
]

hex_back : (c : ℕ) → is_hex c ≡ true → (hex_value c < 16) × (digit_char (hex_value c) ≡ c)
hex_back c e =
    let h : (nat_lt (hex_value c) 16 && (digit_char (hex_value c) == c)) ≡ true = (let t = hex_table c (hex_low c e) in rw e at t) in
    let p = and_parts (nat_lt (hex_value c) 16) (digit_char (hex_value c) == c) h in
    (ltb-true (hex_value c) 16 p.0, eqb-true (digit_char (hex_value c)) c p.1)

digit_table : (d : ℕ) → d < 16 → (is_hex (digit_char d) && (hex_value (digit_char d) == d)) ≡ true
digit_table d lt = agree_below_at (λ d. is_hex (digit_char d) && (hex_value (digit_char d) == d)) (λ _. true) 16 d refl lt

hex_digit : (d : ℕ) → d < 16 → (is_hex (digit_char d) ≡ true) × (hex_value (digit_char d) ≡ d)
hex_digit d lt =
    let p = and_parts (is_hex (digit_char d)) (hex_value (digit_char d) == d) (digit_table d lt) in
    (p.0, eqb-true (hex_value (digit_char d)) d p.1)

-- ---- characters that fit

pub same_or_above : (a b : ℕ) → a ≤ b → (a ≡ b) ⊎ (a < b)
same_or_above zero zero h = inl refl
same_or_above zero (suc b) h = inr (omega arith)
same_or_above (suc a) zero h = absurd (omega arith)
same_or_above (suc a) (suc b) h = elim (same_or_above a b (omega arith)) [ inl e ↦ inl (ap suc e) | inr k ↦ inr (omega (arith, k)) ]

same_or_less : (a b : ℕ) → a ≤ b → (b == a) ≡ false → a + 1 ≤ b
same_or_less a b h e = elim (same_or_above a b h) [ inl k ↦ let t = eq-eqb b a (sym k) in absurd cc | inr k ↦ omega (arith, k) ]

some_step : (f : Bool) (c lo m : ℕ) → lo ≤ c → c < lo + suc m → fits f c ≡ true → ((lo + 1 ≤ c) → some_fits f (lo + 1) m ≡ true) → (same : Bool) → (c == lo) ≡ same → (fits f lo || some_fits f (lo + 1) m) ≡ true
some_step f c lo m a b e ih true s = or_left (fits f lo) (some_fits f (lo + 1) m) (ap (fits f) (sym (eqb-true c lo s)) ∙ e)
some_step f c lo m a b e ih false s = or_right (fits f lo) (some_fits f (lo + 1) m) (ih (same_or_less lo c a s))

pub some_of : (f : Bool) (c lo m : ℕ) → lo ≤ c → c < lo + m → fits f c ≡ true → some_fits f lo m ≡ true
unfolding some_fits
some_of f c lo zero a b e = absurd (omega arith)
some_of f c lo (suc m) a b e = some_step f c lo m a b e (λ k. some_of f c (lo + 1) m k (omega arith) e) (c == lo) refl

some_found : (f : Bool) (lo m : ℕ) → some_fits f lo m ≡ true → (c : ℕ) × (lo ≤ c) × (c < lo + m) × (fits f c ≡ true)
unfolding some_fits
some_found f lo zero e = absurd cc
some_found f lo (suc m) e = elim (or_cases (fits f lo) (some_fits f (lo + 1) m) e) [
  | inl h ↦ (lo, omega arith, omega arith, h)
  | inr h ↦ let r = some_found f (lo + 1) m h in (r.0, omega (arith, r.1), omega (arith, r.2), r.3)
]

-- ---- escapes

strict_by : (a b u : ℕ) → a * u < b * u → a < b
strict_by a b u h = lt_of_mul-lt-mul_right u h

less_by : (a b u : ℕ) → a * u < b * u + u → a ≤ b
less_by a b u h = let k = strict_by a (b + 1) u (omega (arith, h)) in omega arith

-- the lowest k hexadecimal digits
abbrev pub low_digits : ℕ → ℕ → List ℕ
low_digits zero c = []
low_digits (suc k) c = digit_char (c / 16 ^ k % 16) ∷ low_digits k c

-- a character that fits with the digits v above the lowest k
abbrev Above : Bool → ℕ → ℕ → ℕ → Type 0
Above f k v c = (fits f c ≡ true) × (v * 16 ^ k ≤ c) × (c < v * 16 ^ k + 16 ^ k)

abbrev Hexes : Bool → ℕ → ℕ → Language ℕ ℕ
Hexes f k v = Spells (Above f k v) (low_digits k)

one_digit : (d : ℕ) → d < 16 → d % 16 ≡ d
one_digit d lt = omega arith

-- the digit of c above the lowest k, where v are those above it
module _ (u v c : ℕ) (some : 0 < u) (from : v * (u * 16) ≤ c) (to : c < v * (u * 16) + u * 16) where
  abbrev digits_of : ℕ
  digits_of = c / u

  down : digits_of * u ≤ c
  down = div-mul-le_self c u

  up : c < digits_of * u + u
  up = lt-div-mul-add some

  bounds : (v * 16 ≤ digits_of) × (digits_of < v * 16 + 16)
  bounds = (lower (v * 16) digits_of from_u up, lower_lt digits_of (v * 16 + 16) down to_u)
    where
      from_u : (v * 16) * u ≤ c
      from_u = omega (arith, from)

      to_u : c < (v * 16 + 16) * u
      to_u = omega (arith, to)

      lower : (a q : ℕ) → a * u ≤ c → c < q * u + u → a ≤ q
      lower a q h k = less_by a q u (omega (arith, h, k))

      lower_lt : (q b : ℕ) → q * u ≤ c → c < b * u → q < b
      lower_lt q b h k = strict_by q b u (omega (arith, h, k))

power : (k : ℕ) → 16 ^ suc k ≡ 16 ^ k * 16
power k = simp unary_clauses refl

-- the highest of k + 1 digits, read and written
digit_found : (f : Bool) (k v c : ℕ) → Above f (suc k) v c → hex_of f k v (digit_char (c / 16 ^ k % 16)) ≡ Some (c / 16 ^ k)
digit_found f k v c h =
    let lo : v * (16 ^ k * 16) ≤ c = (let t = h.1 in rw (power k) at t) in
    let hi : c < v * (16 ^ k * 16) + 16 ^ k * 16 = (let t = h.2 in rw (power k) at t) in
    let b = bounds (16 ^ k) v c (above_zero k) lo hi in
    let d = hex_digit (c / 16 ^ k % 16) (omega arith) in
    let whole : v * 16 + c / 16 ^ k % 16 ≡ c / 16 ^ k = omega (arith, b.0, b.1) in
    let some = some_of f c (c / 16 ^ k * 16 ^ k) (16 ^ k) (down (16 ^ k) v c (above_zero k) lo hi) (up (16 ^ k) v c (above_zero k) lo hi) h.0 in
    rw (d.0, d.1, whole, some) refl

hex_parts : (f : Bool) (k v x w : ℕ) (b : Bool) → (is_hex x && some_fits f ((v * 16 + hex_value x) * 16 ^ k) (16 ^ k)) ≡ b → hex_of f k v x ≡ Some w
    → (is_hex x ≡ true) × (w ≡ v * 16 + hex_value x) × (some_fits f (w * 16 ^ k) (16 ^ k) ≡ true)
hex_parts f k v x w true e h =
    let p = and_parts (is_hex x) (some_fits f ((v * 16 + hex_value x) * 16 ^ k) (16 ^ k)) e in
    let h1 : Some (v * 16 + hex_value x) ≡ Some w = (rw e at h) in
    let is : v * 16 + hex_value x ≡ w = some_same (v * 16 + hex_value x) w h1 in
    (p.0, sym is, ap (λ (z : ℕ). some_fits f (z * 16 ^ k) (16 ^ k)) (sym is) ∙ p.1)
  where
    some_same : (a b : ℕ) → Some a ≡ Some b → a ≡ b
    some_same a b e = cc
hex_parts f k v x w false e h = let h1 : None ≡ Some w = (rw e at h) in absurd cc

quotient : (c w u : ℕ) → w * u ≤ c → c < w * u + u → c / u ≡ w
quotient c w u lo hi = div-eq_of_lt-le u (omega (arith, lo)) (omega (arith, hi))

hexes_there : (f : Bool) (k v c : ℕ) (text : List ℕ) → Then (One (hex_of f k v)) (Hexes f k) c text → Hexes f (suc k) v c text
hexes_there f k v c text t =
    let w = t.0 in
    let x = t.3.0 in
    let p = hex_parts f k v x w (is_hex x && some_fits f ((v * 16 + hex_value x) * 16 ^ k) (16 ^ k)) refl t.3.2 in
    let b = hex_back x p.0 in
    let a = t.4.0 in
    let q : c / 16 ^ k ≡ w = quotient c w (16 ^ k) a.1 a.2 in
    let low : c / 16 ^ k % 16 ≡ hex_value x = omega (arith, q, p.1, b.0) in
    let from : v * 16 ^ suc k ≤ c = rw (power k) (lower (16 ^ k) v c w (hex_value x) a.1 p.1) in
    let to : c < v * 16 ^ suc k + 16 ^ suc k = rw (power k) (upper (16 ^ k) v c w (hex_value x) a.2 p.1 b.0) in
    ((a.0, from, to), t.5 ∙ rw (t.3.1, t.4.1, low, b.1) refl)
  where
    lower : (u v c w d : ℕ) → w * u ≤ c → w ≡ v * 16 + d → v * (u * 16) ≤ c
    lower u v c w d h e = let h1 : (v * 16 + d) * u ≤ c = (rw e at h) in omega (arith, h1)

    upper : (u v c w d : ℕ) → c < w * u + u → w ≡ v * 16 + d → d < 16 → c < v * (u * 16) + u * 16
    upper u v c w d h e lt =
        let rest : 15 - d + d ≡ 15 = omega arith in
        let parts : (15 - d) * u + d * u ≡ 15 * u = grow d u ∙ ap (λ (m : ℕ). m * u) rest in
        let h1 : c < (v * 16 + d) * u + u = (rw e at h) in
        omega (arith, parts, h1)
      where
        grow : (e u : ℕ) → (15 - e) * u + e * u ≡ (15 - e + e) * u
        grow e u = omega arith

hexes_back : (f : Bool) (k v c : ℕ) (text : List ℕ) → Hexes f (suc k) v c text → Then (One (hex_of f k v)) (Hexes f k) c text
hexes_back f k v c text t =
    let lo : v * (16 ^ k * 16) ≤ c = (let h = t.0.1 in rw (power k) at h) in
    let hi : c < v * (16 ^ k * 16) + 16 ^ k * 16 = (let h = t.0.2 in rw (power k) at h) in (
      c / 16 ^ k,
      digit_char (c / 16 ^ k % 16) ∷ [],
      low_digits k c,
      (digit_char (c / 16 ^ k % 16), refl, digit_found f k v c t.0),
      ((t.0.0, down (16 ^ k) v c (above_zero k) lo hi, up (16 ^ k) v c (above_zero k) lo hi), refl),
      t.1,
    )

pub good_hexes : (f : Bool) (k v : ℕ) → some_fits f (v * 16 ^ k) (16 ^ k) ≡ true → Good (Hexes f k v) never (hexes f k v)
unfolding hexes
good_hexes f zero v some = same (Nothing v) (Hexes f zero v) never (nothing v)
    (λ a text t. let w = some_found f (v * 16 ^ 0) (16 ^ 0) some in let is : w.0 ≡ a = omega (arith, w.1, w.2, t.1) in
    ((ap (fits f) (sym is) ∙ w.3, omega (arith, t.1), omega (arith, t.1)), t.0))
    (λ a text t. (t.1, let h = t.0 in omega (arith, h.1, h.2)))
    (good_nothing v never)
good_hexes f (suc k) v some = same (Then (One (hex_of f k v)) (Hexes f k)) (Hexes f (suc k) v) never (next (one (hex_of f k v)) (λ w. hexes f k w)) (hexes_there f k v) (hexes_back f k v)
    (good_then (One (hex_of f k v)) (Hexes f k) never never (one (hex_of f k v)) (λ w. hexes f k w)
    (record { reads = Reads-one (hex_of f k v) never first; some = first })
    (λ w front t. good_hexes f k w (hex_parts f k v t.0 w (is_hex t.0 && some_fits f ((v * 16 + hex_value t.0) * 16 ^ k) (16 ^ k)) refl t.2).2)
    (λ a b back rest u e. ends_never (back ++ rest)))
  where
    first : HasText (One (hex_of f k v))
    first = let w = some_found f (v * 16 ^ suc k) (16 ^ suc k) some in
        (w.0 / 16 ^ k, digit_char (w.0 / 16 ^ k % 16) ∷ [], (digit_char (w.0 / 16 ^ k % 16), refl, digit_found f k v w.0 (w.3, w.1, w.2)))

-- some character fits
pub some_start : (f : Bool) → fits f 0x3b1 ≡ true
unfolding is_xid_start is_xid_continue in_ranges xid_start_ranges xid_continue_ranges
some_start true = refl
some_start false = refl

pub good_escape : (f : Bool) → Good (Spells (λ c. fits f c ≡ true) (λ c. codes "u" ++ six_digits c)) never (escape f)
good_escape f = same (Spells (Above f 6 0) (λ c. codes "u" ++ low_digits 6 c)) (Spells (λ c. fits f c ≡ true) (λ c. codes "u" ++ six_digits c)) never (escape f)
    (λ c text t. (t.0.0, t.1 ∙ low c))
    (λ c text t. ((t.0, omega arith, fits_small f c t.0), t.1 ∙ sym (low c)))
    (lit (Above f 6 0) (low_digits 6) never (hexes f 6 0) (codes "u") (good_hexes f 6 0 (some_of f 0x3b1 (0 * 16 ^ 6) (16 ^ 6) (omega arith) (omega arith) (some_start f))))
  where
    low : (c : ℕ) → codes "u" ++ low_digits 6 c ≡ codes "u" ++ six_digits c
    low c = let e : c / 1 ≡ c = omega arith in rw e refl

    fits_small : (f : Bool) (c : ℕ) → fits f c ≡ true → c < 0 * 16 ^ 6 + 16 ^ 6
    fits_small f c e =
        let p = and_parts (is_scalar c) (nat_le 128 c && (if f then is_start c else is_more c)) e in
        elim (scalar_cases c p.0) [ inl h ↦ omega (arith, h) | inr h ↦ omega (arith, h.1) ]

-- what is read as an escape is a character
pub read_fits : (f : Bool) (xs : List ℕ) (c : ℕ) (rest : List ℕ) → hexes f 6 0 xs ≡ Ok (c, rest) → is_scalar c ≡ true
read_fits f xs c rest e =
    let t = (good_hexes f 6 0 (some_of f 0x3b1 (0 * 16 ^ 6) (16 ^ 6) (omega arith) (omega arith) (some_start f))).reads.took xs c rest e in
    (and_parts (is_scalar c) (nat_le 128 c && (if f then is_start c else is_more c)) t.is_text.0.0).0
