-- Different names have different mangled texts.
use Rattle.std.proofs.Common.{◌≡◌, ℕ, ◌/◌, ◌%◌, ◌<◌, Bool, true, false, List, [], ◌∷◌, ◌++◌, cond, refl, sym, ap, ◌∙◌, ap₂, inl, inr, true≢false, arith}
use Rattle.std.specs.Prelude.{encode_utf8_all}
use Rattle.std.specs.Prelude.{◌==◌}
use Rattle.std.specs.Char.{digit_char, digit_value, is_ascii_alphanumeric}
use Rattle.std.specs.Str.{chars, IsUtf8}
use Rattle.std.proofs.Math.Utf8.{scalar, scalars, scalar_cases}
use Rattle.std.proofs.lemmas.Bool.{and_parts, eqb-true}
use Rattle.std.proofs.lemmas.Str.{digit_value-digit_char, encodes-chars, scalars-chars}
use Rattle.pl_base.specs.Mangling.{six_digits, mangled}

digit_same : (m n : ℕ) → m < 16 → n < 16 → digit_char m ≡ digit_char n → m ≡ n
digit_same m n h k e = sym (digit_value-digit_char m (omega arith)) ∙ ap digit_value e ∙ digit_value-digit_char n (omega arith)

-- the number above the lowest digit, and that digit, make the number
joined : (m n : ℕ) → m / 16 ≡ n / 16 → digit_char (m % 16) ≡ digit_char (n % 16) → m ≡ n
joined m n e d = let k : m % 16 ≡ n % 16 = digit_same (m % 16) (n % 16) (omega arith) (omega arith) d in omega arith

-- the number above the lowest k digits, one digit further
above : (m n a b : ℕ) → m / 16 ≡ a → n / 16 ≡ b → a ≡ b → digit_char (m % 16) ≡ digit_char (n % 16) → m ≡ n
above m n a b e f g d = joined m n (e ∙ g ∙ sym f) d

six_same : (m n : ℕ) (xs ys : List ℕ) → m < 0x100_0000 → n < 0x100_0000 → six_digits m ++ xs ≡ six_digits n ++ ys → (m ≡ n) × (xs ≡ ys)
six_same m n xs ys h k e =
    let e5 : digit_char (m / 0x10_0000 % 16) ≡ digit_char (n / 0x10_0000 % 16) = cc in
    let e4 : digit_char (m / 0x1_0000 % 16) ≡ digit_char (n / 0x1_0000 % 16) = cc in
    let e3 : digit_char (m / 0x1000 % 16) ≡ digit_char (n / 0x1000 % 16) = cc in
    let e2 : digit_char (m / 0x100 % 16) ≡ digit_char (n / 0x100 % 16) = cc in
    let e1 : digit_char (m / 0x10 % 16) ≡ digit_char (n / 0x10 % 16) = cc in
    let e0 : digit_char (m % 16) ≡ digit_char (n % 16) = cc in
    let r : xs ≡ ys = cc in
    let s5 : m / 0x10_0000 ≡ n / 0x10_0000 = above (m / 0x10_0000) (n / 0x10_0000) 0 0 (omega arith) (omega arith) refl e5 in
    let s4 : m / 0x1_0000 ≡ n / 0x1_0000 = above (m / 0x1_0000) (n / 0x1_0000) (m / 0x10_0000) (n / 0x10_0000) (omega arith) (omega arith) s5 e4 in
    let s3 : m / 0x1000 ≡ n / 0x1000 = above (m / 0x1000) (n / 0x1000) (m / 0x1_0000) (n / 0x1_0000) (omega arith) (omega arith) s4 e3 in
    let s2 : m / 0x100 ≡ n / 0x100 = above (m / 0x100) (n / 0x100) (m / 0x1000) (n / 0x1000) (omega arith) (omega arith) s3 e2 in
    let s1 : m / 0x10 ≡ n / 0x10 = above (m / 0x10) (n / 0x10) (m / 0x100) (n / 0x100) (omega arith) (omega arith) s2 e1 in
    (above m n (m / 0x10) (n / 0x10) refl refl s1 e0, r)

-- `_` is no letter and no digit
apart : (c : ℕ) → is_ascii_alphanumeric c ≡ true → c ≡ 95 → ⊥
apart c h e = true≢false (sym h ∙ ap is_ascii_alphanumeric e)

abbrev form : Bool → Bool → ℕ → List ℕ
form plain line c = cond plain (c ∷ []) (cond line (95 ∷ 95 ∷ []) (95 ∷ 117 ∷ six_digits c))

unlike : (u v : ℕ) → u ≡ v → u ≡ 95 → v ≡ 117 → ⊥
unlike u v e h k = omega arith

clash : (u v a b : ℕ) (xs ys : List ℕ) → a ∷ u ∷ xs ≡ b ∷ v ∷ ys → u ≡ 95 → v ≡ 117 → ⊥
clash u v a b xs ys e h k = let same : u ≡ v = cc in unlike u v same h k

first_same : (p l q m : Bool) (c d : ℕ) (xs ys : List ℕ) → is_ascii_alphanumeric c ≡ p → (c == 95) ≡ l → is_ascii_alphanumeric d ≡ q → (d == 95) ≡ m → c < 0x100_0000 → d < 0x100_0000
    → form p l c ++ xs ≡ form q m d ++ ys → (c ≡ d) × (xs ≡ ys)
first_same true l true m c d xs ys hc lc hd ld bc bd e = (cc, cc)
first_same true l false true c d xs ys hc lc hd ld bc bd e = absurd (apart c hc cc)
first_same true l false false c d xs ys hc lc hd ld bc bd e = absurd (apart c hc cc)
first_same false true true m c d xs ys hc lc hd ld bc bd e = absurd (apart d hd cc)
first_same false false true m c d xs ys hc lc hd ld bc bd e = absurd (apart d hd cc)
first_same false true false true c d xs ys hc lc hd ld bc bd e = (eqb-true c 95 lc ∙ sym (eqb-true d 95 ld), cc)
first_same false true false false c d xs ys hc lc hd ld bc bd e = absurd (clash 95 117 95 95 xs (six_digits d ++ ys) e refl refl)
first_same false false false true c d xs ys hc lc hd ld bc bd e = absurd (clash 95 117 95 95 ys (six_digits c ++ xs) (sym e) refl refl)
first_same false false false false c d xs ys hc lc hd ld bc bd e = six_same c d xs ys bc bd cc

some_bytes : (p l : Bool) (c : ℕ) (xs : List ℕ) → [] ≡ form p l c ++ xs → ⊥
some_bytes true l c xs e = cc
some_bytes false true c xs e = cc
some_bytes false false c xs e = cc

bounded : (c : ℕ) → scalar c ≡ true → c < 0x100_0000
bounded c h = elim (scalar_cases c h) [ inl low ↦ omega arith | inr high ↦ omega arith ]

-- texts of different characters have different mangled texts
pub mangled_same : (cs ds : List ℕ) → scalars cs ≡ true → scalars ds ≡ true → mangled cs ≡ mangled ds → cs ≡ ds
mangled_same [] [] h k e = refl
mangled_same [] (d ∷ ds) h k e = absurd (some_bytes (is_ascii_alphanumeric d) (d == 95) d (mangled ds) e)
mangled_same (c ∷ cs) [] h k e = absurd (some_bytes (is_ascii_alphanumeric c) (c == 95) c (mangled cs) (sym e))
mangled_same (c ∷ cs) (d ∷ ds) h k e =
    let hs = and_parts (scalar c) (scalars cs) h in
    let ks = and_parts (scalar d) (scalars ds) k in
    let w = first_same (is_ascii_alphanumeric c) (c == 95) (is_ascii_alphanumeric d) (d == 95) c d (mangled cs) (mangled ds) refl refl refl refl (bounded c hs.0) (bounded d ks.0) e in
    ap₂ (λ x (xs : List ℕ). x ∷ xs) w.0 (mangled_same cs ds hs.1 ks.1 w.1)

-- different names have different mangled texts
pub mangled_apart : (bs ds : List ℕ) → IsUtf8 bs → IsUtf8 ds → mangled (chars bs) ≡ mangled (chars ds) → bs ≡ ds
mangled_apart bs ds h k e =
    let same : chars bs ≡ chars ds = mangled_same (chars bs) (chars ds) (scalars-chars bs h) (scalars-chars ds k) e in
    sym (encodes-chars bs h) ∙ ap encode_utf8_all same ∙ encodes-chars ds k
