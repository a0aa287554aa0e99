-- Words and decimal numbers as bytes, and their readers.
use Rattle.std.specs.Prelude.{◌≡◌, ℕ, ◌+◌, ◌-◌, ◌*◌, ◌<◌, suc, ◌&&◌, ◌==◌, nat_lt, Bool, true, false, if◌then◌else◌, List, [], ◌∷◌, length, Ok, Err}
use Rattle.std.specs.Char.{is_ascii_digit}
use Rattle.std.specs.List.{list_all}
use Rattle.pl_readers.specs.Language.{Language, Then, Mapped}
use Rattle.pl_readers.specs.Reader.{Reader, next, mapped}

-- this word
abbrev pub Word : List ℕ → Language ℕ (Unit {0})
Word s u text = text ≡ s

-- this byte
abbrev pub is : ℕ → ℕ → Bool
is byte c = c == byte

-- the number that digits spell behind those of v, also with zeros in front
abbrev pub value_from : ℕ → List ℕ → ℕ
value_from v [] = v
value_from v (c ∷ cs) = value_from (v * 10 + (c - 48)) cs

-- decimal digits without a leading zero, of a number below the limit
abbrev pub Number : ℕ → Language ℕ ℕ
Number limit n text =
    (c : ℕ) × (cs : List ℕ) × (text ≡ c ∷ cs) × (is_ascii_digit c ≡ true) × (list_all is_ascii_digit cs ≡ true) × (c ≡ 48 → cs ≡ []) × (value_from (c - 48) cs ≡ n) × (n < limit)

-- a text between two words
abbrev pub Between : {A : Type 0} → List ℕ → Language ℕ A → List ℕ → Language ℕ A
Between before T behind = Then (Word before) (λ _. Then T (λ a. Mapped (λ _. a) (Word behind)))

-- this word
unfoldable pub word : List ℕ → Reader ℕ (Unit {0})
word [] xs = Ok (tt, xs)
word (c ∷ s) [] = Err (record { is_deep = false; left = 0 })
word (c ∷ s) (x ∷ xs) = if x == c then word s xs else Err (record { is_deep = false; left = suc (length xs) })

-- whether a number v above 0 with one more digit stays below the limit
abbrev pub grows : ℕ → ℕ → ℕ → Bool
grows limit v c = is_ascii_digit c && (nat_lt 0 v && nat_lt (v * 10 + (c - 48)) limit)

-- further digits behind those of v, as long as the number stays below the limit
unfoldable pub digits : ℕ → ℕ → Reader ℕ ℕ
digits limit v [] = Ok (v, [])
digits limit v (c ∷ cs) = if grows limit v c then digits limit (v * 10 + (c - 48)) cs else Ok (v, c ∷ cs)

-- a number below the limit
unfoldable pub number : ℕ → Reader ℕ ℕ
number limit [] = Err (record { is_deep = false; left = 0 })
number limit (c ∷ cs) = if is_ascii_digit c then digits limit (c - 48) cs else Err (record { is_deep = false; left = suc (length cs) })

-- what P reads between two words
abbrev pub between : {A : Type 0} → List ℕ → Reader ℕ A → List ℕ → Reader ℕ A
between before P behind = next (word before) (λ _. next P (λ a. mapped (λ _. a) (word behind)))
