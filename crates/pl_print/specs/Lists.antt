-- How texts are put together. A text is a list of bytes.
use Rattle.std.specs.Prelude.{ℕ, zero, suc, Bool, true, false, List, [], ◌∷◌, ◌++◌, codes}

-- pieces, one behind the other, and what stands at their end
abbrev pub joined : List (List ℕ) → List ℕ → List ℕ
joined [] last = last
joined (t ∷ ts) last = t ++ joined ts last

-- texts, each behind a separator
abbrev pub each_behind : List ℕ → List (List ℕ) → List ℕ
each_behind separator [] = []
each_behind separator (t ∷ ts) = separator ++ t ++ each_behind separator ts

-- texts with a separator between them
abbrev pub separated : List ℕ → List (List ℕ) → List ℕ
separated separator [] = []
separated separator (t ∷ ts) = t ++ each_behind separator ts

-- texts with commas between them
abbrev pub commas : List (List ℕ) → List ℕ
commas texts = separated (codes ", ") texts

-- a text where it is wanted
abbrev pub where_wanted : Bool → List ℕ → List ℕ
where_wanted true text = text
where_wanted false text = []

-- a text, in brackets where they are wanted
abbrev pub in_brackets : Bool → List ℕ → List ℕ
in_brackets wanted text = where_wanted wanted (codes "(") ++ text ++ where_wanted wanted (codes ")")

-- two blanks a level
abbrev pub indent : ℕ → List ℕ
indent zero = []
indent (suc n) = codes "  " ++ indent n
